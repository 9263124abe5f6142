use Rattle.cones.proofs.BeginLaws.{kept_none, begun_skip, begun_follows, begun_body, begun_fact}
use Rattle.cones.proofs.begin_at.Goals as goal

pub returns-then-not-has : goal.returns-then-not-has
returns-then-not-has g c = (begun_skip c.requires.begun c.requires.given.1 c.has.ensures c.if-not-has.true, kept_none)

pub step-nodes-requires : goal.step-nodes-requires
step-nodes-requires g c = begun_follows c.requires.begun c.requires.given.1 c.has.ensures c.if-not-has.false c.requires.given.0.0.well_formed c.in-Some.ensures

pub returns-in-Some : goal.returns-in-Some
returns-in-Some g c = begun_body c.requires.begun c.requires.given.1 c.has.ensures c.if-not-has.false c.requires.given.0.0.well_formed c.in-Some.ensures c.step-nodes.ensures

pub returns : goal.returns
returns g c = rw c.put.ensures (begun_fact c.requires.begun c.requires.given.1 c.has.ensures c.if-not-has.false c.in_default.ensures)
