use mathlib.Core.Path.{sym, ◌∙◌}
use Rattle.refusals.proofs.AcceptedLaws.{accepted}
use Rattle.words.proofs.NumberLaws.{numbers_length}
use Rattle.cycles.proofs.OutcomeLaws.{loops_walk}
use Rattle.cycles.proofs.needed.Goals as goal

pub area_words-requires : goal.area_words-requires
area_words-requires g c = accepted g.W.Word.edition (g.W.Word.numbers c.args.graph.now) (sym c.in_ok-check.ensures)

pub cyclic-yes-requires : goal.cyclic-yes-requires
cyclic-yes-requires g c =
    let a = accepted g.W.Word.edition (g.W.Word.numbers c.args.graph.now) (sym c.in_ok-check.ensures) in
    (a, rw (numbers_length g.met.W.Word.each c.args.work.now ∙ c.if-work-area_words.false ∙ c.area_words.ensures) (g.met.W.Area.roomy (g.W.Word.numbers c.args.graph.now) a))

pub returns-clause-variant : goal.returns-clause-variant
returns-clause-variant g c = λ yes l. loops_walk (g.W.Word.numbers c.args.graph.now) c.cyclic-yes.ensures l
