use lib.Seq.{slice}
use Rattle.theory.specs.Drive.{Drives}
use Rattle.area.specs.Views.{as_vertices}
use Rattle.projection.specs.Narrowing.{Narrowing}
use Rattle.projection.proofs.nodes.Given as goal

abbrev pub invariant-loop-i : goal.invariant-loop-i
invariant-loop-i l = Drives (Narrowing l.work l.fn.b.states) 0 l.initial.part l.fn.place (as_vertices l.fn.b (slice l.fn.from l.fn.to l.work)) l.part l.t (as_vertices l.fn.b (slice l.i l.fn.to l.work))
