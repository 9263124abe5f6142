use mathlib.Core.Path.{◌≡◌}
use native.Mathlib.Omega.{arith}
use Rattle.area.proofs.PartLaws.{frame_less, outside_none, outside_then}
use Rattle.events.proofs.RunLaws.{graph_abides, tail_low, head_low, run_follows, run_grows, run_outside, run_queue, run_next}
use Rattle.within.proofs.QueueLaws.{spent_none, spent_next, spent_cons}
use Rattle.within.proofs.settle_within.Goals as goal

pub loop-head-init : goal.loop-head-init
loop-head-init g c = (omega arith, omega arith, record { outside = outside_none; runs = λ m p a s r. r }, omega (arith, spent_none (g.W.Word.numbers c.args.graph.now) c.args.b (g.W.Word.numbers c.args.work.now)))

pub overflow_add-b : goal.overflow_add-b
overflow_add-b g c =
    let q = c.requires.runs in let r = c.loop-head.invariant.2.runs q.0 q.1 q.2 q.3 q.4 in
    let t = tail_low c.loop-head.head c.loop-head.tail r in let l = r.held.laid in let n = r.held.long in
    omega (arith, c.loop-head-test.true)

pub at-v-requires : goal.at-v-requires
at-v-requires g c =
    let q = c.requires.runs in let r = c.loop-head.invariant.2.runs q.0 q.1 q.2 q.3 q.4 in
    let t = tail_low c.loop-head.head c.loop-head.tail r in let l = r.held.laid in let n = r.held.long in
    omega (arith, c.loop-head-test.true)

pub pay-requires : goal.pay-requires
pay-requires g c =
    let q = c.requires.runs in let f = c.loop-head.invariant.2 in let r = f.runs q.0 q.1 q.2 q.3 q.4 in let l = r.held.laid in
    let t = tail_low c.loop-head.head c.loop-head.tail r in let n = head_low c.loop-head.head c.loop-head.tail r c.loop-head-test.true c.at-v.ensures.0 in
    (graph_abides c.requires.stand _ (frame_less _ _ _ f.outside.before _ (omega arith)) f.outside.size, omega (arith, c.loop-head-test.true))

pub returns-in_err-left : goal.returns-in_err-left
returns-in_err-left g c =
    let n = spent_next (g.W.Word.numbers c.args.graph.now) c.args.b (g.W.Word.numbers c.loop-head.work) c.loop-head.head c.at-v.ensures.0 in
    let left = c.loop-head.invariant.3 in
    rw c.from_residual.ensures record {
      head = c.loop-head.head;
      tail = c.loop-head.tail;
      ahead = c.loop-head-test.true;
      ran = c.loop-head.invariant.2;
      beyond = omega (arith, c.in_err-left.ensures);
    }

pub settle-tail-requires-clause-stand : goal.settle-tail-requires-clause-stand
settle-tail-requires-clause-stand g c =
    let q = c.requires.runs in let f = c.loop-head.invariant.2 in let r = f.runs q.0 q.1 q.2 q.3 q.4 in let l = r.held.laid in
    (graph_abides c.requires.stand _ (frame_less _ _ _ f.outside.before _ (omega arith)) f.outside.size, head_low c.loop-head.head c.loop-head.tail r c.loop-head-test.true c.at-v.ensures.0)

pub settle-tail-requires-clause-follows : goal.settle-tail-requires-clause-follows
settle-tail-requires-clause-follows g c =
    let q = c.requires.runs in let r = c.loop-head.invariant.2.runs q.0 q.1 q.2 q.3 q.4 in
    run_follows c.loop-head.head c.loop-head.tail r c.loop-head-test.true c.at-v.ensures.0 q.3

pub overflow_add-head : goal.overflow_add-head
overflow_add-head g c =
    let q = c.requires.runs in let r = c.loop-head.invariant.2.runs q.0 q.1 q.2 q.3 q.4 in
    let t = tail_low c.loop-head.head c.loop-head.tail r in let l = r.held.laid in let n = r.held.long in
    omega (arith, c.loop-head-test.true)

pub loop-head-smaller : goal.loop-head-smaller
loop-head-smaller g c =
    let q = c.requires.runs in let r = c.loop-head.invariant.2.runs q.0 q.1 q.2 q.3 q.4 in
    let t = tail_low c.loop-head.head c.loop-head.tail r in
    omega (arith, c.loop-head-test.true)

pub loop-head-preserved : goal.loop-head-preserved
loop-head-preserved g c =
    let q = c.requires.runs in let f = c.loop-head.invariant.2 in let r = f.runs q.0 q.1 q.2 q.3 q.4 in
    let h = c.loop-head-test.true in let d = c.settle-tail.ensures in
    let grows = run_grows c.loop-head.head c.loop-head.tail r h c.at-v.ensures.0 q.3 d in
    let more = spent_cons (g.W.Word.numbers c.args.graph.now) c.args.b (g.W.Word.numbers c.loop-head.work) (g.W.Word.numbers c.settle-tail.new.work) c.loop-head.head (run_queue c.loop-head.head c.loop-head.tail r h c.at-v.ensures.0 q.3 d) in
    let left = c.loop-head.invariant.3 in let paid = c.in_ok-left.ensures in (
      (run_next c.loop-head.head c.loop-head.tail r h c.at-v.ensures.0 q.3 d).ahead,
      omega (arith, c.loop-head.invariant.1),
      record {
        outside = outside_then f.outside (run_outside c.loop-head.head c.loop-head.tail r h c.at-v.ensures.0 q.3 d);
        runs = λ m p a s t. run_next c.loop-head.head c.loop-head.tail (f.runs m p a s t) h c.at-v.ensures.0 s d;
      },
      omega (arith, paid.0, paid.1),
    )

pub returns : goal.returns
returns g c =
    let y = c.loop-head.invariant.0 in let z = c.loop-head-test.false in
    let e : c.loop-head.head ≡ c.loop-head.tail = omega arith in
    record { end = c.loop-head.tail; ran = rw e at c.loop-head.invariant.2; paid = rw e at c.loop-head.invariant.3 }
