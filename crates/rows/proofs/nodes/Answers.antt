use native.Mathlib.Omega.{arith}
use Rattle.rows.proofs.TurnLaws.{nodes_next, nodes_more}
use Rattle.rows.proofs.nodes.Goals as goal

pub step-t-requires : goal.step-t-requires
step-t-requires g c = nodes_next c.args.b c.loop-i.i c.args.row.end c.loop-i.invariant c.requires.inside.2 c.requires.inside.1 (omega arith) c.at.ensures.0 c.requires.follows

pub loop-i-preserved : goal.loop-i-preserved
loop-i-preserved g c = nodes_more c.args.b c.loop-i.i c.args.row.end c.loop-i.invariant c.requires.inside.2 c.requires.inside.1 (omega arith) c.at.ensures.0 c.step-t.ensures
