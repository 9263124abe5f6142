use native.Mathlib.Omega.{arith}
use Rattle.cycles.proofs.LoopLaws.{look_start, look_room, looked, added}
use Rattle.cycles.proofs.look_all.Goals as goal
use Rattle.cycles.proofs.look_all.Goals.{then-at-eq0, else-at-eq0}

pub loop-v-init : goal.loop-v-init
loop-v-init g c = look_start

pub overflow_add-b-then-at-eq0 : goal.overflow_add-b-then-at-eq0
overflow_add-b-then-at-eq0 g c = let l = c.requires.0 in let r = look_room c.loop-v.invariant in omega arith

pub put-requires : goal.put-requires
put-requires g c = let l = c.requires.0 in let s = c.loop-v.invariant.size in let r = look_room c.loop-v.invariant in omega arith

pub overflow_add-tail : goal.overflow_add-tail
overflow_add-tail g c = let l = c.requires.0 in let r = look_room c.loop-v.invariant in omega arith

pub loop-v-preserved : goal.loop-v-preserved
loop-v-preserved g c =
    elim c.if-at-eq0.branch [
      | then-at-eq0 w ↦ rw (w.work-is, w.tail-is, w.put.ensures) (added c.loop-v.invariant c.requires.0 c.requires.1 c.loop-v-test.true c.at.ensures.0 w.if-at-eq0.true)
      | else-at-eq0 w ↦ rw (w.work-is, w.tail-is) (looked c.loop-v.invariant c.requires.0 c.requires.1 c.loop-v-test.true c.at.ensures.0 w.if-at-eq0.false)
    ]
