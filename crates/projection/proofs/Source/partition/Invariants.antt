use lib.ListN.{drop}
use Rattle.theory.specs.Words.{theory_of}
use Rattle.theory.specs.Founded.{cyclic}
use Rattle.projection.specs.Roles.{Parting}
use Rattle.projection.proofs.Source.partition.Given as goal

abbrev pub invariant-loop-i : goal.invariant-loop-i
invariant-loop-i l = Parting (theory_of l.fn.self.graph.now) (cyclic (theory_of l.fn.self.graph.now)) (drop l.fn.self.bases.body_nodes l.fn.self.work.now) l.fn.self.cone.nodes l.nodes l.roles l.counters l.seeds l.i
