use Rattle.theory.specs.Words.{bit_at}
use Rattle.undecided.proofs.ListLaws.{stands_enough, always_listed}
use Rattle.undecided.proofs.list_always.Goals as goal

pub pass-requires : goal.pass-requires
pass-requires c = stands_enough c.requires.stands.0 c.requires.stands.1 _ _

pub returns : goal.returns
returns c = always_listed c.requires.stands.0 c.requires.stands.1 c.pass.ensures (bit_at c.args.open_atoms.now) c.leave_out.ensures c.pack_flags.ensures
