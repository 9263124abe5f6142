use Rattle.std.proofs.Common.{◌≡◌, ◌∙◌, sym, ap, get_or, arith}
use borrow.Author.Tests.{eqb-true}
use Rattle.words.proofs.NumberLaws.{numbers_at, numbers_length}
use Rattle.area.proofs.WipeLaws.{blank_more, all_blank}
use Rattle.area.proofs.blank.Goals as goal

pub loop-word-preserved : goal.loop-word-preserved
loop-word-preserved g c =
    let words = g.W.Word.numbers c.args.words.now in
    let item : g.W.Word.number c.word-item.result ≡ get_or words c.loop-word.word-index 0 = ap g.W.Word.number c.word-item.is ∙ sym (numbers_at g.met.W.Word.each c.args.words.now c.loop-word.word-index c.word-item.result (omega arith)) in
    rw (c.or-all.ensures, item) (blank_more words (g.W.Word.number c.loop-word.all) c.loop-word.word-index c.loop-word.invariant)

pub returns : goal.returns
returns g c = λ yes.
    let long = numbers_length g.met.W.Word.each c.args.words.now in
    all_blank (g.W.Word.numbers c.args.words.now) (λ e i h. c.loop-word.invariant (sym c.read.ensures.0 ∙ eqb-true c.read.result 0 yes) i (omega arith))
