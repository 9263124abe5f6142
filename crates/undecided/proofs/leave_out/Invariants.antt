use Rattle.theory.specs.Words.{bit_at}
use Rattle.undecided.specs.Lists.{LeftOut}
use Rattle.undecided.proofs.leave_out.Given as goal

abbrev pub invariant-loop-a : goal.invariant-loop-a
invariant-loop-a l = LeftOut (bit_at l.open_atoms) l.initial.counts l.counts l.a
