use mathlib.Core.Path.{ap}
use native.Mathlib.Omega.{arith}
use lib.ListN.{length}
use Rattle.graph.proofs.FollowLaws.{follow_end, follow_link, follow_step, follow_next}
use Rattle.graph.proofs.FollowerIterator.next.Goals as goal

pub returns-then-self-eq0-clause-steps : goal.returns-then-self-eq0-clause-steps
returns-then-self-eq0-clause-steps g c = let e = follow_end (g.W.Word.numbers c.args.self.now.words.now) c.if-self-eq0.true in (e, e)

pub value-v-requires : goal.value-v-requires
value-v-requires g c = follow_link c.requires c.if-self-eq0.false

pub next-self-requires : goal.next-self-requires
next-self-requires g c = follow_link c.requires c.if-self-eq0.false

pub returns-clause-steps : goal.returns-clause-steps
returns-clause-steps g c = follow_step c.requires c.if-self-eq0.false c.next-self.ensures c.value-v.ensures

pub returns-clause-goes : goal.returns-clause-goes
returns-clause-goes g c =
    let n = follow_next c.requires c.if-self-eq0.false c.next-self.ensures in
    let e = ap length (follow_step c.requires c.if-self-eq0.false c.next-self.ensures c.value-v.ensures) in
    record { on = λ _. (n, tt, omega arith); keeps = n; rests = λ _. tt }
