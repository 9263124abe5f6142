use Rattle.std.proofs.Common.{◌≡◌, false}
use Rattle.theory.specs.Words.{bit_at}
use Rattle.undecided.specs.Answers.{both_below}
use Rattle.undecided.proofs.overlap.Given as goal

abbrev pub invariant-loop-i : goal.invariant-loop-i
invariant-loop-i l = both_below l.i (bit_at l.never) (bit_at l.undecided) ≡ false
