use native.Mathlib.Omega.{arith}
use Rattle.cones.proofs.SearchLaws.{search_ready, search_include}
use borrow.Author.Rules.{rules}
use Rattle.cones.proofs.IncludeStep.step.Goals as goal

pub overflow_add-mark : goal.overflow_add-mark
overflow_add-mark g c = let r = search_ready (c.requires) in omega arith

pub overflow_add-mark-2 : goal.overflow_add-mark-2
overflow_add-mark-2 g c = let r = search_ready (c.requires) in omega arith

pub at-found-requires : goal.at-found-requires
at-found-requires g c = let r = search_ready (c.requires) in omega arith

pub put-requires : goal.put-requires
put-requires g c = let holds = g.met.W.Word.holds in let r = search_ready (c.requires) in (omega arith, omega arith)

pub put-requires-2 : goal.put-requires-2
put-requires-2 g c = let r = search_ready (c.requires) in (search rules, omega arith)

pub overflow_sub-result : goal.overflow_sub-result
overflow_sub-result g c = let r = search_ready (c.requires) in let e = c.at-found.ensures.0 in omega arith

pub returns : goal.returns
returns g c = rw (c.put-2.ensures, c.put.ensures) (search_include (search_ready (c.requires)) c.at-found.result c.at-found.ensures.0)
