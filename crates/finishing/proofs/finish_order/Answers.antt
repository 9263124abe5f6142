use native.Mathlib.Omega.{arith}
use Rattle.finishing.proofs.PlaceLaws.{vertices_are}
use Rattle.finishing.proofs.DescentLaws.{walked_none, walk_start, roots_more, walk_end}
use Rattle.finishing.proofs.finish_order.Goals as goal

pub loop-root-init : goal.loop-root-init
loop-root-init g c = (walked_none (walk_start c.requires.0 c.requires.1 c.requires.2), λ v l. absurd (omega arith))

pub descend-done-requires : goal.descend-done-requires
descend-done-requires g c = (c.requires.0, c.loop-root.invariant.0.walking, (let e = vertices_are c.requires.1.based in let t = c.loop-root-test.true in omega arith))

pub loop-root-preserved : goal.loop-root-preserved
loop-root-preserved g c = roots_more (let e = vertices_are c.requires.1.based in let t = c.loop-root-test.true in omega arith) c.loop-root.invariant.0 c.loop-root.invariant.1 c.descend-done.ensures

pub returns : goal.returns
returns g c = walk_end c.loop-root.invariant.0 (λ v l. c.loop-root.invariant.1 v (let e = vertices_are c.requires.1.based in let t = c.loop-root-test.false in omega arith))
