use mathlib.Core.Path.{sym, ◌∙◌}
use native.Mathlib.Omega.{arith}
use Rattle.theory.proofs.ChainLaws.{chain_few}
use Rattle.refusals.proofs.SearchLaws.{row_refuses, row_passes}
use Rattle.checking.proofs.FollowLaws.{between_none, between_all, along_first, along_wrong, along_next, along_end}
use Rattle.checking.proofs.rows.walk.Goals as goal
use Rattle.checking.proofs.rows.walk.Goals.{then-loop-n-test+in-Some+then-below-v, else-loop-n-test}

pub loop-n-init : goal.loop-n-init
loop-n-init g c = (omega arith, λ link bound f b. between_none)

pub loop-v-init : goal.loop-v-init
loop-v-init g c =
    let holds = g.met.W.Word.holds in
    rw c.into_iter-v-iterator.ensures.into_iter_gives (rw c.follow-v-items.ensures.0 (rw c.follow-v-items.ensures.1 (
      omega (arith, c.loop-n.invariant.0, chain_few (g.W.Word.numbers c.args.graph.now) c.first.result, c.requires.sized.links_few, holds),
      λ link bound f b. (b c.loop-n.n c.limit-below.result c.loop-n-test.true c.limit-below.ensures, along_first (c.loop-n.invariant.1 link bound f b) (f c.loop-n.n c.first.result c.loop-n-test.true c.first.ensures)),
    )))

pub loop-v-preserved : goal.loop-v-preserved
loop-v-preserved g c =
    let i = rw c.in-Some.ensures.steps at c.loop-v.invariant in
    (omega (arith, i.0), λ link bound f b. let k = i.1 link bound f b in (k.0, along_next k.1 (omega (arith, k.0))))

pub loop-n-preserved : goal.loop-n-preserved
loop-n-preserved g c =
    let i = rw c.in-None.ensures.steps.0 at c.loop-v.invariant in
    (omega (arith, i.0), λ link bound f b. along_end (i.1 link bound f b).1 (c.loop-n.invariant.1 link bound f b))

pub returns : goal.returns
returns g c = elim c.loop-n-test.branch [
  | then-loop-n-test+in-Some+then-below-v w ↦ rw w.result-is (λ link bound number f b made. let k = (rw w.in-Some.ensures.steps at w.loop-v.invariant).1 link bound f b in
      let wrong = along_wrong k.1 {end = c.args.end} (omega (arith, k.0, w.if-below-v.true)) (c.loop-n.invariant.1 link bound f b) w.loop-n-test.true in
      made c.loop-n.n w.refusal.result w.refusal.ensures ∙ sym (row_refuses _ number 0 c.args.end wrong.1 (omega arith) wrong.0))
  | else-loop-n-test w ↦ rw w.result-is (λ link bound number f b made. let k = between_all {end = c.args.end} (c.loop-n.invariant.1 link bound f b) (omega (arith, w.loop-n-test.false)) in (k.0, row_passes _ number 0 c.args.end k.1 (omega arith) (omega arith)))
]
