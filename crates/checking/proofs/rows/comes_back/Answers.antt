use mathlib.Core.Path.{sym}
use native.Mathlib.Omega.{arith}
use Rattle.checking.proofs.FollowLaws.{toward_first, toward_end, toward_last, toward_next}
use Rattle.graph.proofs.DecodeLaws.{next_of_lem, link_within}
use Rattle.checking.proofs.rows.comes_back.Goals as goal

pub loop-followed-init : goal.loop-followed-init
loop-followed-init g c = toward_first c.requires.2 (omega arith)

pub returns-then-l-eq0 : goal.returns-then-l-eq0
returns-then-l-eq0 g c = sym (toward_end c.loop-followed.invariant c.if-l-eq0.true)

pub next-l-requires : goal.next-l-requires
next-l-requires g c = link_within c.links_from-from.ensures c.requires.0.size (omega arith) c.loop-followed.invariant.low

pub loop-followed-preserved : goal.loop-followed-preserved
loop-followed-preserved g c = toward_next c.loop-followed.invariant c.if-l-eq0.false (omega arith) (next_of_lem c.links_from-from.ensures c.loop-followed.l c.next-l.ensures (omega arith)) (c.requires.1.next_low c.loop-followed.l (omega arith) c.loop-followed.invariant.low)

pub returns : goal.returns
returns g c = toward_last c.loop-followed.invariant (omega arith)
