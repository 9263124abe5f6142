use mathlib.Core.Path.{refl}
use native.Mathlib.Omega.{arith}
use Rattle.components.proofs.TurnLaws.{tail_low, head_low, turn_follows, turn_next}
use Rattle.rows.proofs.VertexLaws.{tables_same}
use Rattle.components.proofs.follow.Goals as goal

pub overflow_add-tail : goal.overflow_add-tail
overflow_add-tail g c = let l = c.requires.1.laid in let t = tail_low c.requires.0 c.requires.1 c.requires.3 in omega arith

pub overflow_add-b : goal.overflow_add-b
overflow_add-b g c = let l = c.requires.1.laid in let t = tail_low c.requires.0 c.requires.1 c.loop-head.invariant in let z = c.loop-head-test.true in omega arith

pub at-v-requires : goal.at-v-requires
at-v-requires g c = let l = c.requires.1.laid in let t = tail_low c.requires.0 c.requires.1 c.loop-head.invariant in let q = c.loop-head.invariant.held.long in let z = c.loop-head-test.true in omega arith

pub along-tail-requires : goal.along-tail-requires
along-tail-requires g c =
    let k = c.loop-head.invariant.kept in
    record {
      accepted = (c.requires.0, rw k.size c.requires.1, head_low c.requires.0 c.requires.1 c.loop-head.invariant c.loop-head-test.true c.at-v.ensures.0, tables_same k.tables k.size c.requires.2);
      kept = refl;
      follows = turn_follows c.requires.0 c.requires.1 c.loop-head.invariant c.loop-head-test.true c.at-v.ensures.0;
    }

pub overflow_add-head : goal.overflow_add-head
overflow_add-head g c = let l = c.requires.1.laid in let t = tail_low c.requires.0 c.requires.1 c.loop-head.invariant in let z = c.loop-head-test.true in omega arith

pub loop-head-smaller : goal.loop-head-smaller
loop-head-smaller g c = let t = tail_low c.requires.0 c.requires.1 c.loop-head.invariant in let z = c.loop-head-test.true in omega arith

pub loop-head-preserved : goal.loop-head-preserved
loop-head-preserved g c = turn_next c.requires.0 c.requires.1 c.loop-head.invariant c.loop-head-test.true c.at-v.ensures.0 c.along-tail.ensures
