use Rattle.adjacency.proofs.BuildLaws.{placeable, drives_counted}
use Rattle.adjacency.proofs.CountPlace.place.Goals as goal

pub add-requires : goal.add-requires
add-requires g c = (placeable c.requires).counted

pub returns : goal.returns
returns g c = rw (c.add.ensures.1, c.add.ensures.0) drives_counted
