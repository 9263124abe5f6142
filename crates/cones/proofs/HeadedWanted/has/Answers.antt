use Rattle.cones.proofs.HeadLaws.{headed_some}
use Rattle.cones.proofs.HeadedWanted.has.Goals as goal

pub returns : goal.returns
returns g c = headed_some c.requires.given.0.0 c.requires.given.1 c.first_head.ensures
