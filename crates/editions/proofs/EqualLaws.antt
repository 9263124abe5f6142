-- Two graphs that `compare` finds equal, from its contract and those of the other calls alone: both are accepted and have the same content, so the rules give them the same
-- lists under all cuts (`equal_outcome`). Lent the same memory the loop test answers the same (`equal_needed`), and preparation and pass give the same answer and leave the same output
-- (`equal_prepared`, `equal_completed`), whatever the masks cut.
use mathlib.Core.Path.{◌≡◌, refl, sym, ap, ◌∙◌}
use mathlib.Core.Logic.{◌⊎◌, inl, inr}
use mathlib.Core.Bool.{Bool, true, false, cond}
use mathlib.Core.List.{List, [], ◌∷◌}
use Prim.Native.Nat.{ℕ}
use native.Mathlib.Omega.{arith}
use lib.Dec.{eqb}
use Rattle.std.specs.Prelude.{Result}
use Rattle.std.specs.declared.cmp.Ordering.{Ordering}
use Rattle.std.specs.declared.cmp.Ordering.TheVariants.{Equal}
use Rattle.theory.specs.Sets.{Set}
use Rattle.theory.specs.Words.{theory_of}
use Rattle.theory.specs.Accepted.{Edition, edition1}
use Rattle.theory.specs.Cases.{outcome as rules_give}
use Rattle.theory.specs.Content.{SameContent}
use Rattle.theory.specs.Order.{content_cmp}
use Rattle.theory.proofs.SetLaws.{bool_cases, clash}
use Rattle.theory.proofs.OrderLaws.{same_content}
use Rattle.refusals.specs.Answer.{Answer, accept, or_next, first_refusal}
use Rattle.refusals.specs.Refusals.{graph_rows, graph_answer}
use Rattle.refusals.specs.declared.Refusal.{Refusal}
use Rattle.compare.specs.Comparison.{Comparison, turned_away, in_order, comparison_of, refusal_of_two, comparison}
use Rattle.cycles.specs.Outcome.{outcome}
use Rattle.founded.specs.Answers.{call_of, Prepares, Completes}
use Rattle.founded.specs.declared.CallError.{CallError}
use Rattle.editions.proofs.EditionLaws.{outcome_equal, needed_equal, prepared_equal, completed_equal}

-- a table that gives number 0 accepts
zero_accepts : (rows : List Answer) → eqb (first_refusal rows).number 0 ≡ true → first_refusal rows ≡ accept
unfolding first_refusal
zero_accepts [] e = refl
zero_accepts (a ∷ rows) e = go (bool_cases (eqb a.number 0)) (zero_accepts rows)
  where
    go : (eqb a.number 0 ≡ true) ⊎ (eqb a.number 0 ≡ false) → (eqb (first_refusal rows).number 0 ≡ true → first_refusal rows ≡ accept) → or_next a (first_refusal rows) ≡ accept
    go (inl t) ih = rw t (ih (rw t at e))
    go (inr f) ih = clash (rw f at e) f

two_accepted : (a b : Answer) → eqb (or_next a b).number 0 ≡ true → (eqb a.number 0 ≡ true) × (eqb b.number 0 ≡ true)
two_accepted a b e = go (bool_cases (eqb a.number 0))
  where
    go : (eqb a.number 0 ≡ true) ⊎ (eqb a.number 0 ≡ false) → (eqb a.number 0 ≡ true) × (eqb b.number 0 ≡ true)
    go (inl t) = (t, rw t at e)
    go (inr f) = clash (rw f at e) f

never_in_order : {X : Type 0} {a : Answer} {o : Ordering} → turned_away a ≡ in_order o → X
never_in_order e = let z : ◌≡◌ {A = ℕ} 0 1 = cc in absurd (omega arith)

ordered_same : {o q : Ordering} → in_order o ≡ in_order q → o ≡ q
ordered_same e = cc

-- an order is said of two accepted graphs alone, and is theirs
pub record Said (ed : Edition) (x y : List ℕ) (o : Ordering) : Type 0 where
  pub first : graph_answer ed x ≡ accept
  pub second : graph_answer ed y ≡ accept
  pub order : content_cmp x y ≡ o

module _ (ed : Edition) (x y : List ℕ) where
  pub order_said : {o : Ordering} → comparison ed x y ≡ in_order o → Said ed x y o
  unfolding graph_answer
  order_said {o} e = go (bool_cases (eqb (refusal_of_two ed x y).number 0))
    where
      answer : Bool → Comparison
      answer b = cond b (in_order (content_cmp x y)) (turned_away (refusal_of_two ed x y))

      go : (eqb (refusal_of_two ed x y).number 0 ≡ true) ⊎ (eqb (refusal_of_two ed x y).number 0 ≡ false) → Said ed x y o
      go (inl t) =
          let two = two_accepted (graph_answer ed x) (graph_answer ed y) t in
          record { first = zero_accepts (graph_rows ed x) two.0; second = zero_accepts (graph_rows ed y) two.1; order = ordered_same (sym (ap answer t) ∙ e) }
      go (inr f) = never_in_order (sym (ap answer f) ∙ e)

module _ (x y : List ℕ) (r : Result Ordering Refusal) (promise : comparison_of r ≡ comparison edition1 x y) (equal : comparison_of r ≡ in_order Equal) where
  said : Said edition1 x y Equal
  said = order_said edition1 x y (sym promise ∙ equal)

  pub equal_content : SameContent x y
  equal_content = (same_content x y).0 said.order

  pub equal_outcome : (never atom_never : Set) → rules_give (theory_of x) never atom_never ≡ rules_give (theory_of y) never atom_never
  equal_outcome = outcome_equal edition1 edition1 x y said.first said.second equal_content

  -- both calls are lent the same work area
  pub equal_needed : (work : List ℕ) → outcome edition1 x work ≡ outcome edition1 y work
  equal_needed work = needed_equal edition1 edition1 x y said.first said.second equal_content work work refl

  pub equal_prepared : (work output o₁ w₁ o₂ w₂ : List ℕ) (p q : Result (Unit {0}) CallError) → Prepares edition1 x output work o₁ w₁ p → Prepares edition1 y output work o₂ w₂ q → (call_of p ≡ call_of q) × (o₁ ≡ o₂)
  equal_prepared work output o₁ w₁ o₂ w₂ = prepared_equal edition1 edition1 x y said.first said.second equal_content work work refl output o₁ w₁ o₂ w₂

  pub equal_completed : (work never atom_never output o₁ w₁ o₂ w₂ : List ℕ) (p q : Result (Unit {0}) CallError) → Completes edition1 x never atom_never output work o₁ w₁ p → Completes edition1 y never atom_never output work o₂ w₂ q
      → (call_of p ≡ call_of q) × (o₁ ≡ o₂)
  equal_completed work never atom_never output o₁ w₁ o₂ w₂ = completed_equal edition1 edition1 x y said.first said.second equal_content work work refl never atom_never output o₁ w₁ o₂ w₂
