use lib.Seq.{slice}
use Rattle.theory.specs.Drive.{Drives}
use Rattle.later.proofs.along.Given as goal

abbrev pub invariant-loop-i : goal.invariant-loop-i
invariant-loop-i g l = Drives (g.S.Step.held l.step) (g.S.Step.kept l.step) l.initial.work l.fn.tail (slice l.from l.to l.table) l.work l.t (slice l.i l.to l.table)
