use Prim.Native.Nat.{◌+◌}
use mathlib.Core.Path.{◌≡◌}
use Rattle.projection.specs.Narrowed.{heads_of}
use Rattle.projection.specs.Narrowing.{Rowing}
use Rattle.projection.proofs.Source.heads.Given as goal

abbrev pub invariant-loop-n : goal.invariant-loop-n
invariant-loop-n l = Rowing (l.fn.self.bases.nodes + 1) (heads_of l.fn.self.graph.now) l.fn.part l.part l.n l.place
