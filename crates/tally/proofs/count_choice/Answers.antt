use Rattle.undecided.proofs.ListLaws.{stands_enough}
use Rattle.tally.proofs.OverLaws.{part_apart, over_last}
use Rattle.tally.proofs.count_choice.Goals as goal

pub pass-requires : goal.pass-requires
pass-requires c = stands_enough c.requires.accepted c.requires.standing _ _

pub count_atoms-requires-clause-apart : goal.count_atoms-requires-clause-apart
count_atoms-requires-clause-apart c = part_apart c.requires c.pass.ensures

pub returns : goal.returns
returns c = over_last c.requires c.pass.ensures c.count_atoms.ensures
