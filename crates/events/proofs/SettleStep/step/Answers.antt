use native.Mathlib.Omega.{arith}
use lib.ListN.{length-set}
use Rattle.events.proofs.SettleLaws.{one_of, ready, settle_wait, settle_room, settle_found}
use Rattle.events.proofs.SettleStep.step.Goals as goal

pub overflow_add-b : goal.overflow_add-b
overflow_add-b g c = let r = ready (c.requires) in let l = r.laid in omega arith

pub at-n-requires : goal.at-n-requires
at-n-requires g c = let r = ready (c.requires) in let l = r.laid in omega arith

pub overflow_add-b-then-n-ne1 : goal.overflow_add-b-then-n-ne1
overflow_add-b-then-n-ne1 g c = let r = ready (c.requires) in let l = r.laid in omega arith

pub put-requires : goal.put-requires
put-requires g c = let r = ready (c.requires) in let l = r.laid in let k = c.at-n.ensures.1 in (omega arith, omega arith)

pub returns-then-n-ne1 : goal.returns-then-n-ne1
returns-then-n-ne1 g c = rw c.put.ensures (settle_wait (c.requires) c.at-n.result c.at-n.ensures.0 (let k = c.if-n-ne1.true in omega arith) _ (omega (arith, c.from-one.ensures, one_of c.at-n.result)))

pub overflow_add-b-3 : goal.overflow_add-b-3
overflow_add-b-3 g c = let r = ready (c.requires) in let l = r.laid in let k = settle_room (c.requires) (let e = c.at-n.ensures.0 in let z = c.if-n-ne1.false in omega arith) in omega arith

pub put-requires-3 : goal.put-requires-3
put-requires-3 g c = let r = ready (c.requires) in let l = r.laid in let k = settle_room (c.requires) (let e = c.at-n.ensures.0 in let z = c.if-n-ne1.false in omega arith) in (rw (c.put-2.ensures, length-set) (omega arith), omega arith)

pub overflow_add-result : goal.overflow_add-result
overflow_add-result g c = let r = ready (c.requires) in let l = r.laid in let k = settle_room (c.requires) (let e = c.at-n.ensures.0 in let z = c.if-n-ne1.false in omega arith) in omega arith

pub returns : goal.returns
returns g c = rw (c.put-3.ensures, c.put-2.ensures) (settle_found (c.requires) (let e = c.at-n.ensures.0 in let z = c.if-n-ne1.false in omega arith))
