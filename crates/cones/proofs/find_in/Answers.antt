use mathlib.Core.Path.{◌∙◌}
use native.Mathlib.Omega.{arith}
use Rattle.theory.specs.Words.{theory_of}
use Rattle.cones.proofs.SearchLaws.{next_low, leaves_once, leaves_follow, leaves_done}
use Rattle.cones.proofs.BeginLaws.{kept_trans, kept_end, begun_start, held_end}
use Rattle.cones.proofs.find_in.Goals as goal

pub begin-c-requires-clause-begun : goal.begin-c-requires-clause-begun
begin-c-requires-clause-begun g c = let holds = g.met.W.Word.holds in begun_start (omega arith) c.requires.0 (rw c.clear_marks.ensures.0.size c.requires.1) _ c.clear_marks.ensures.1

pub first_leaf-requires : goal.first_leaf-requires
unfolding theory_of
first_leaf-requires g c = record { size = c.requires.0.size; below = next_low c.requires.0 c.loop-next.invariant.0 c.loop-next-test.true c.at-n.ensures.0 }

pub along-nodes-requires : goal.along-nodes-requires
along-nodes-requires g c = record { accepted = (c.requires.0, leaves_once c.requires.0 c.loop-next.invariant.0 c.loop-next-test.true c.at-n.ensures.0 c.first_leaf.ensures); follows = leaves_follow c.requires.0 c.loop-next.invariant.0 c.loop-next-test.true c.at-n.ensures.0 c.first_leaf.ensures }

pub loop-next-preserved : goal.loop-next-preserved
loop-next-preserved g c = (leaves_done c.requires.0 c.loop-next.invariant.0 c.loop-next-test.true c.at-n.ensures.0 c.first_leaf.ensures c.along-nodes.ensures, c.along-nodes.ensures.size ∙ c.loop-next.invariant.1, c.along-nodes.ensures.frame ∙ c.loop-next.invariant.2)

pub returns : goal.returns
returns g c = (held_end c.begin-c.ensures.0 c.loop-next.invariant.0 c.loop-next-test.false, kept_trans (kept_trans c.clear_marks.ensures.0 c.begin-c.ensures.1) (kept_end c.loop-next.invariant.0 c.loop-next.invariant.1 c.loop-next.invariant.2))
