-- What `compare` answers (document 02, request 14): the order of two accepted graphs, or number and place of a refusal, which does not say whose it is.
use Rattle.std.specs.Prelude.{cond, List, ℕ, eqb, Result, Ok, Err}
use Rattle.std.specs.declared.cmp.Ordering.{Ordering}
use Rattle.theory.specs.Accepted.{Edition}
use Rattle.refusals.specs.Answer.{Answer, or_next}
use Rattle.refusals.specs.Refusals.{graph_answer, refused_as}
use Rattle.refusals.specs.declared.Refusal.{Refusal}
use Rattle.theory.specs.Order.{content_cmp}

pub data Comparison : Type 0 where
  turned_away : Answer → Comparison
  in_order : Ordering → Comparison

abbrev pub comparison_of : Result Ordering Refusal → Comparison
comparison_of (Ok o) = in_order o
comparison_of (Err e) = turned_away (refused_as e)

-- the first graph's refusal, or where that is accepted the second's
abbrev pub refusal_of_two : Edition → (x y : List ℕ) → Answer
refusal_of_two ed x y = or_next (graph_answer ed x) (graph_answer ed y)

abbrev pub comparison : Edition → (x y : List ℕ) → Comparison
comparison ed x y = cond (eqb (refusal_of_two ed x y).number 0) (in_order (content_cmp x y)) (turned_away (refusal_of_two ed x y))
