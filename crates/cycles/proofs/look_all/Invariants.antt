use Rattle.cycles.specs.Held.{Looked}
use Rattle.cycles.proofs.look_all.Given as goal

abbrev pub invariant-loop-v : goal.invariant-loop-v
invariant-loop-v g l = Looked l.b (g.W.Word.numbers l.initial.work) (g.W.Word.numbers l.work) l.v l.tail
