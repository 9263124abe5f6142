use Rattle.theory.specs.Words.{bit_at}
use Rattle.mask.specs.Mask.{flagged}
use Rattle.tally.specs.Counting.{ChoiceAdded}
use Rattle.tally.proofs.count_atoms.Given as goal

abbrev pub invariant-loop-a : goal.invariant-loop-a
invariant-loop-a l = ChoiceAdded (flagged l.waiting) (bit_at l.cut) l.initial.output l.output l.a
