use lib.Seq.{slice}
use Rattle.theory.specs.Words.{theory_of}
use Rattle.theory.specs.Rows.{flat_map}
use Rattle.theory.specs.Drive.{Drives}
use Rattle.projection.specs.Narrowing.{Narrowing}
use Rattle.projection.proofs.producers.Given as goal

abbrev pub invariant-loop-i : goal.invariant-loop-i
invariant-loop-i l = Drives (Narrowing l.work l.fn.b.cyclic_atoms) 0 l.initial.part l.fn.place (flat_map (theory_of l.graph).heads (slice l.fn.from l.fn.to l.work)) l.part l.t (flat_map (theory_of l.graph).heads (slice l.i l.fn.to l.work))
