use Rattle.components.specs.Classes.{Sweeping}
use Rattle.components.proofs.classify.Given as goal

abbrev pub invariant-loop-n : goal.invariant-loop-n
invariant-loop-n g l = Sweeping (g.W.Word.numbers l.graph) l.b (g.W.Word.numbers l.initial.work) (g.W.Word.numbers l.work) l.n l.found
