use Prim.Native.Nat.{◌≤◌}
use Rattle.later.specs.Later.{Again}
use Rattle.branch.specs.Branch.{ListsFrom}
use Rattle.branch.proofs.later_pairs.Given as goal

abbrev pub invariant-loop-k : goal.invariant-loop-k
invariant-loop-k l = Again l.graph l.fn.b l.lone × ListsFrom l.graph l.never l.atom_never 1 l.initial.output l.k l.output
