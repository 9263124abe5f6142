use native.Mathlib.Omega.{arith}
use Rattle.graph.proofs.DecodeLaws.{value_of_lem, next_of_lem}
use Rattle.compare.proofs.ListLaws.{no_link, together_same, together_less, together_greater, together_differ, together_next}
use Rattle.compare.proofs.by_list.Goals as goal

pub returns-then-links-other : goal.returns-then-links-other
returns-then-links-other g c = no_link (omega arith)

pub returns-then-m-eq0 : goal.returns-then-m-eq0
returns-then-m-eq0 g c = together_greater c.loop-v.invariant c.in-Some.ensures.steps c.if-m-eq0.true

pub returns-then-v-w : goal.returns-then-v-w
returns-then-v-w g c = together_differ c.loop-v.invariant c.in-Some.ensures.steps c.if-m-eq0.false (value_of_lem c.links_from-from.ensures c.loop-v.m c.value-w.ensures (omega arith)) c.if-v-w.true c.cmp.ensures

pub loop-v-preserved : goal.loop-v-preserved
loop-v-preserved g c =
    together_next c.loop-v.invariant c.in-Some.ensures.steps c.if-m-eq0.false (value_of_lem c.links_from-from.ensures c.loop-v.m c.value-w.ensures (omega arith)) c.requires.0.nexts (omega (arith, c.if-v-w.false)) (next_of_lem c.links_from-from.ensures c.loop-v.m c.next-m.ensures (omega arith))

pub returns-then-m-eq0-2 : goal.returns-then-m-eq0-2
returns-then-m-eq0-2 g c = together_same c.loop-v.invariant c.requires.0.nexts (omega arith) c.in-None.ensures.steps.0 c.if-m-eq0-2.true

pub returns-else-m-eq0-2 : goal.returns-else-m-eq0-2
returns-else-m-eq0-2 g c = together_less c.loop-v.invariant c.in-None.ensures.steps.0 c.if-m-eq0-2.false
