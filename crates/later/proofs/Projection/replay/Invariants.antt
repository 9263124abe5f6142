use Prim.Native.Nat.{◌≤◌}
use lib.ListN.{length}
use lib.Seq.{slice}
use Rattle.theory.specs.Words.{bit_at}
use Rattle.later.specs.Later.{Seeding}
use Rattle.later.proofs.Projection.replay.Given as goal

abbrev pub invariant-loop-i : goal.invariant-loop-i
invariant-loop-i l = (l.fn.self.seed_start ≤ l.i) × Seeding l.fn.self.graph.now l.fn.self.bases (bit_at l.never) (bit_at l.atom_never) (slice l.fn.self.seed_start (length l.fn.self.body_nodes.now) l.fn.self.body_nodes.now) (slice l.i (length l.fn.self.body_nodes.now) l.fn.self.body_nodes.now) l.initial.work l.work l.t
