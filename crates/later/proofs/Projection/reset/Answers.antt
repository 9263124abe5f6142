use native.Mathlib.Omega.{arith}
use Rattle.theory.specs.Words.{bit_at}
use Rattle.later.proofs.BeginLaws.{atom_is, node_is, restarted}
use Rattle.later.proofs.Projection.reset.Goals as goal

pub reset_atoms-requires-clause-low : goal.reset_atoms-requires-clause-low
reset_atoms-requires-clause-low c = λ i h. (atom_is c.requires.projected i h).0

pub reset_counters-requires-clause-low : goal.reset_counters-requires-clause-low
reset_counters-requires-clause-low c = λ i h. node_is c.requires.projected c.requires.again i h

pub returns : goal.returns
returns c = restarted c.requires.projected (bit_at c.args.never.now) (bit_at c.args.atom_never.now) c.requires.again c.reset_atoms.ensures c.reset_counters.ensures
