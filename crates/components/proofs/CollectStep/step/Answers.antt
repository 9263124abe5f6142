use mathlib.Core.Path.{sym, ◌∙◌}
use native.Mathlib.Omega.{arith}
use lib.ListN.{length-set}
use Rattle.components.proofs.CollectLaws.{collect_ready, collect_room, collect_fresh, collect_met}
use Rattle.components.proofs.CollectStep.step.Goals as goal

pub overflow_add-m : goal.overflow_add-m
overflow_add-m g c = let r = collect_ready c.requires in let l = r.laid in omega arith

pub at-requires : goal.at-requires
at-requires g c = let r = collect_ready c.requires in let l = r.laid in omega arith

pub returns-then-at-ne-MET : goal.returns-then-at-ne-MET
returns-then-at-ne-MET g c = collect_met (λ q. c.if-at-ne-MET.true (c.at.ensures.0 ∙ q))

pub overflow_add-b : goal.overflow_add-b
overflow_add-b g c = let r = collect_ready c.requires in let l = r.laid in let k = collect_room c.requires (sym c.at.ensures.0 ∙ c.if-at-ne-MET.false) in omega arith

pub put-requires-2 : goal.put-requires-2
put-requires-2 g c = let r = collect_ready c.requires in let l = r.laid in let k = collect_room c.requires (sym c.at.ensures.0 ∙ c.if-at-ne-MET.false) in (rw (c.put.ensures, length-set) (omega arith), omega arith)

pub overflow_add-result : goal.overflow_add-result
overflow_add-result g c = let r = collect_ready c.requires in let l = r.laid in let k = collect_room c.requires (sym c.at.ensures.0 ∙ c.if-at-ne-MET.false) in omega arith

pub returns : goal.returns
returns g c = rw (c.put-2.ensures, c.put.ensures) (collect_fresh c.requires (sym c.at.ensures.0 ∙ c.if-at-ne-MET.false))
