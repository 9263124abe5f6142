use Rattle.std.proofs.Common.{◌≡◌, ℕ, length}
use Rattle.theory.specs.Words.{theory_of, bit_at}
use Rattle.choices.specs.Undecided.{shut}
use Rattle.mask.specs.Mask.{below}
use Rattle.undecided.proofs.widen.Given as goal

abbrev pub invariant-loop-n : goal.invariant-loop-n
invariant-loop-n l = (length l.wide ≡ 16) × ((m : ℕ) → bit_at l.wide m ≡ below l.n (shut (theory_of l.graph) (bit_at l.never) (bit_at l.open_nodes) (bit_at l.open_atoms)) m)
