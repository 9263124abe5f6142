use Rattle.std.proofs.Common.{rules}
use Rattle.theory.specs.Words.{theory_of}
use Rattle.cones.proofs.first_refused.Goals as goal

pub first-requires-clause-callable : goal.first-requires-clause-callable
unfolding theory_of
first-requires-clause-callable g c = let e = c.requires.accepted.1.nodes in λ n low high. search rules
