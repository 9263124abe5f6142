use Rattle.undecided.proofs.ListLaws.{stands_enough, sometimes_listed}
use Rattle.undecided.proofs.list_sometimes.Goals as goal

pub pass-requires : goal.pass-requires
pass-requires c = stands_enough c.requires.stands.0 c.requires.stands.1 _ _

pub returns : goal.returns
returns c = sometimes_listed _ _ _ c.requires.stands.0 c.requires.stands.1 c.widen-wide.ensures c.pass.ensures c.pack_flags.ensures
