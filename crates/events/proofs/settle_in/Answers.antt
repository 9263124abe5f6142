use mathlib.Core.Path.{◌≡◌}
use native.Mathlib.Omega.{arith}
use Rattle.area.proofs.PartLaws.{frame_less, outside_then}
use Rattle.events.proofs.RunLaws.{tail_low, head_low, run_follows, run_grows, run_outside, run_next}
use Rattle.events.proofs.settle_in.Goals as goal

pub overflow_add-b : goal.overflow_add-b
overflow_add-b g c =
    let q = c.requires.runs in let r = c.loop-head.invariant.2.runs q.0 q.1 q.2 q.3 q.4 in
    let t = tail_low c.loop-head.head c.loop-head.tail r in let l = r.held.laid in let z = c.loop-head-test.true in omega arith

pub at-v-requires : goal.at-v-requires
at-v-requires g c =
    let q = c.requires.runs in let r = c.loop-head.invariant.2.runs q.0 q.1 q.2 q.3 q.4 in
    let t = tail_low c.loop-head.head c.loop-head.tail r in let l = r.held.laid in let n = r.held.long in let z = c.loop-head-test.true in omega arith

pub settle-tail-requires-clause-stand : goal.settle-tail-requires-clause-stand
settle-tail-requires-clause-stand g c =
    let q = c.requires.runs in let f = c.loop-head.invariant.2 in let r = f.runs q.0 q.1 q.2 q.3 q.4 in let l = r.held.laid in
    rw c.requires.stand.0 (c.requires.stand.1 _ (frame_less _ _ _ f.outside.before _ (omega arith)) f.outside.size, head_low c.loop-head.head c.loop-head.tail r c.loop-head-test.true c.at-v.ensures.0)

pub settle-tail-requires-clause-follows : goal.settle-tail-requires-clause-follows
settle-tail-requires-clause-follows g c =
    let q = c.requires.runs in let r = c.loop-head.invariant.2.runs q.0 q.1 q.2 q.3 q.4 in
    rw c.requires.stand.0 (run_follows c.loop-head.head c.loop-head.tail r c.loop-head-test.true c.at-v.ensures.0 q.3)

pub overflow_add-head : goal.overflow_add-head
overflow_add-head g c =
    let q = c.requires.runs in let r = c.loop-head.invariant.2.runs q.0 q.1 q.2 q.3 q.4 in
    let t = tail_low c.loop-head.head c.loop-head.tail r in let l = r.held.laid in let z = c.loop-head-test.true in omega arith

pub loop-head-smaller : goal.loop-head-smaller
loop-head-smaller g c =
    let q = c.requires.runs in let r = c.loop-head.invariant.2.runs q.0 q.1 q.2 q.3 q.4 in
    let t = tail_low c.loop-head.head c.loop-head.tail r in let z = c.loop-head-test.true in omega arith

pub loop-head-preserved : goal.loop-head-preserved
loop-head-preserved g c =
    let q = c.requires.runs in let f = c.loop-head.invariant.2 in let r = f.runs q.0 q.1 q.2 q.3 q.4 in
    let h = c.loop-head-test.true in let y = c.loop-head.invariant.1 in
    let d = rw c.requires.stand.0 at c.settle-tail.ensures in
    let k = run_grows c.loop-head.head c.loop-head.tail r h c.at-v.ensures.0 q.3 d in (
      (run_next c.loop-head.head c.loop-head.tail r h c.at-v.ensures.0 q.3 d).ahead,
      omega arith,
      record {
        outside = outside_then f.outside (run_outside c.loop-head.head c.loop-head.tail r h c.at-v.ensures.0 q.3 d);
        runs = λ m p a s t. run_next c.loop-head.head c.loop-head.tail (f.runs m p a s t) h c.at-v.ensures.0 s d;
      },
    )

pub returns : goal.returns
returns g c =
    let q = c.requires.runs in let f = c.loop-head.invariant.2 in let y = c.loop-head.invariant.0 in let z = c.loop-head-test.false in
    let e : c.loop-head.head ≡ c.loop-head.tail = omega arith in
    rw e at f
