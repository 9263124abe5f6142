use Rattle.std.proofs.Common.{◌≡◌}
use Rattle.theory.specs.Sets.{members}
use Rattle.theory.specs.Words.{bit_at}
use Rattle.text.proofs.counted.Given as goal

abbrev pub invariant-loop-i : goal.invariant-loop-i
invariant-loop-i l = l.numbers.items ≡ members l.i (bit_at l.mask)
