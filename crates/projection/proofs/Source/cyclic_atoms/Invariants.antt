use Rattle.theory.specs.Words.{theory_of}
use Rattle.theory.specs.Founded.{cyclic}
use Rattle.projection.specs.Roles.{Membered}
use Rattle.projection.proofs.Source.cyclic_atoms.Given as goal

abbrev pub invariant-loop-a : goal.invariant-loop-a
invariant-loop-a l = Membered (cyclic (theory_of l.fn.self.graph.now)) l.a l.part l.count
