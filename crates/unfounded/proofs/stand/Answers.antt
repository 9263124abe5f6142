use Rattle.unfounded.proofs.StandLaws.{stands_all}
use Rattle.unfounded.proofs.stand.Goals as goal

pub mark_all-requires : goal.mark_all-requires
mark_all-requires g c = rw c.build_rows.ensures.size (c.requires.1.laid, c.requires.1.ends)

pub body_cone-requires : goal.body_cone-requires
body_cone-requires g c = (c.requires.0, rw (c.mark_all.ensures.size, c.build_rows.ensures.size) c.requires.1)

pub returns : goal.returns
returns g c = stands_all c.requires.0 c.requires.1 c.build_rows.ensures c.mark_all.ensures c.body_cone.ensures.0 _ c.body_cone.ensures.1
