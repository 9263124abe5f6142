use Rattle.theory.specs.Words.{theory_of}
use Rattle.cones.specs.Cones.{Kept}
use Rattle.cones.specs.Finding.{Begun}
use Rattle.cones.proofs.begin.Given as goal

abbrev pub invariant-loop-p : goal.invariant-loop-p
invariant-loop-p g l = Begun g.W.Word.limit (theory_of (g.W.Word.numbers l.graph)) (g.S.Wanted.set (theory_of (g.W.Word.numbers l.graph))) l.b (g.W.Word.numbers l.work) l.p l.c × Kept l.b (g.W.Word.numbers l.initial.work) (g.W.Word.numbers l.work)
