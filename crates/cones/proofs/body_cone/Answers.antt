use mathlib.Core.Path.{sym}
use Rattle.theory.specs.Words.{theory_of}
use Rattle.theory.specs.Edges.{body_cone}
use Rattle.cones.proofs.RefuseLaws.{refuse_at, refuse_none}
use Rattle.cones.proofs.body_cone.Goals as goal

pub first_refused-requires-clause-marks : goal.first_refused-requires-clause-marks
unfolding body_cone
first_refused-requires-clause-marks g c = (rw (sym c.requires.1.is) at c.find-c.ensures.0).found.marks

pub returns-in-Some : goal.returns-in-Some
unfolding theory_of
returns-in-Some g c = let f = rw (sym c.requires.1.is) at c.find-c.ensures in let h = rw c.requires.1.nodes at c.in-Some.ensures in (f.1, refuse_at _ _ _ h.0 h.1)

pub returns-in-None : goal.returns-in-None
unfolding theory_of body_cone
returns-in-None g c = let f = rw (sym c.requires.1.is) at c.find-c.ensures in (f.1, refuse_none _ _ _ f.0 (rw c.requires.1.nodes at c.in-None.ensures))
