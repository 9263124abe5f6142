use Rattle.std.proofs.Common.{◌≡◌, ◌∙◌, length, arith}
use Rattle.words.proofs.NumberLaws.{numbers_length, numbers_set}
use borrow.Author.Fill.{fill_more}
use Rattle.words.proofs.fill.Goals as goal

pub loop-i-preserved : goal.loop-i-preserved
loop-i-preserved g c =
    let long : length (g.W.Word.numbers c.args.words.now) ≡ length c.args.words.now = numbers_length g.met.W.Word.each c.args.words.now in
    numbers_set g.met.W.Word.each c.loop-i.words c.loop-i.i c.args.x
    ∙ rw c.loop-i.invariant (fill_more c.loop-i.i (g.W.Word.number c.args.x) (g.W.Word.numbers c.args.words.now) (omega arith))
