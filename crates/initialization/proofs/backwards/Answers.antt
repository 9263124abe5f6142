use native.Mathlib.Omega.{arith}
use Rattle.initialization.proofs.BackLaws.{back_next, back_more, back_done}
use Rattle.initialization.proofs.backwards.Goals as goal

pub step-t-requires : goal.step-t-requires
step-t-requires g c = back_next (g.S.Step.held c.args.step) c.args.base c.args.count c.loop-i.i c.loop-i.invariant c.requires.stays.1 c.requires.follows c.loop-i-test.true c.at.ensures.0

pub loop-i-preserved : goal.loop-i-preserved
loop-i-preserved g c = back_more (g.S.Step.held c.args.step) c.args.base c.args.count c.loop-i.i c.loop-i.invariant c.requires.stays.1 c.requires.follows c.loop-i-test.true c.at.ensures.0 c.step-t.ensures

pub returns : goal.returns
returns g c = back_done (g.S.Step.held c.args.step) c.args.base c.args.count c.loop-i.i c.loop-i.invariant (omega arith)
