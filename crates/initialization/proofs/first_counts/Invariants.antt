use Rattle.theory.specs.Words.{bit_at}
use Rattle.initialization.specs.Start.{Filled}
use Rattle.initialization.proofs.first_counts.Given as goal

abbrev pub invariant-loop-v : goal.invariant-loop-v
invariant-loop-v g l = Filled l.b (bit_at l.atom_never) (g.W.Word.numbers l.initial.work) (g.W.Word.numbers l.work) l.v
