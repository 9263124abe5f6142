use Rattle.theory.specs.Words.{bit_at}
use Rattle.tally.specs.Counting.{Listed}
use Rattle.tally.proofs.list_open.Given as goal

abbrev pub invariant-loop-a : goal.invariant-loop-a
invariant-loop-a l = Listed (bit_at l.open_atoms) l.list l.a l.open
