-- Two accepted graphs of equal content, each in an edition of its own: the rules give them the same lists under the same cuts (`outcome_equal`). From the contracts of the calls alone: where both work areas have the length that is asked for (or
-- neither has), the loop test gives the same answer (`needed_equal`), and preparation and pass give the same answer and leave the same output (`prepared_equal`,
-- `completed_equal`), whatever the masks cut.
use mathlib.Core.Path.{◌≡◌, sym, ap, ap₂, ◌∙◌, fun_ext}
use mathlib.Core.Bool.{Bool, ◌||◌, cond}
use mathlib.Core.List.{List, [], ◌∷◌}
use Prim.Native.Nat.{ℕ}
use lib.Dec.{eqb}
use lib.ListN.{length, get_or}
use Rattle.theory.specs.Sets.{Set}
use Rattle.theory.specs.Theory.{WellFormed}
use Rattle.theory.specs.Words.{theory_of, bit_at}
use Rattle.theory.specs.Accepted.{Edition}
use Rattle.theory.specs.Cases.{outcome as rules_give}
use Rattle.theory.specs.Alike.{Alike}
use Rattle.theory.specs.Content.{SameContent}
use Rattle.theory.proofs.ContentLaws.{content_alike, cyclic_alike, has_cycle_alike, missing_alike, absorbed_alike, outcome_alike}
use Rattle.refusals.specs.Answer.{Answer, accept, refuse_if, refuse_first, or_next, first_refusal}
use Rattle.refusals.specs.Refusals.{graph_rows, graph_answer, absorbed_row}
use Rattle.refusals.proofs.RowLaws.{rows_append}
use Rattle.refusals.proofs.AcceptedLaws.{accepted}
use Rattle.cycles.specs.Outcome.{Outcome, loops, refused, outcome}
use Rattle.founded.specs.Answers.{call_of, bad_mask, bad_output, bad_lengths, bad_work, call_answer, prepare_answer, complete_answer, output_left, Prepares, Completes}
use Rattle.founded.specs.declared.CallError.{CallError}
use Rattle.std.specs.Prelude.{Result}

-- what the loop test says where its rows give this answer
said : Answer → Bool → Outcome
said a b = cond (eqb a.number 0) (loops b) (refused a)

module _ (ed fd : Edition) (x y : List ℕ) (first : graph_answer ed x ≡ accept) (second : graph_answer fd y ≡ accept) (same : SameContent x y) where
  one : Alike (theory_of x) (theory_of y)
  one = content_alike x y same

  ok : WellFormed (theory_of x)
  ok = (accepted ed x first).well_formed

  fine : WellFormed (theory_of y)
  fine = (accepted fd y second).well_formed

  atoms : get_or x 1 0 ≡ get_or y 1 0
  unfolding theory_of
  atoms = same.atoms

  nodes : get_or x 2 0 ≡ get_or y 2 0
  unfolding theory_of
  nodes = same.nodes

  twelve : absorbed_row (theory_of x) ≡ absorbed_row (theory_of y)
  twelve = ap₂ (λ (s : Set) (n : ℕ). refuse_first 12 s 0 n) (fun_ext (absorbed_alike (theory_of x) (theory_of y) one ok fine)) one.nodes

  pub outcome_equal : (never atom_never : Set) → rules_give (theory_of x) never atom_never ≡ rules_give (theory_of y) never atom_never
  outcome_equal = outcome_alike (theory_of x) (theory_of y) one ok fine

  -- v, w: the two work areas
  module _ (v w : List ℕ) (area : bad_work ed x (length v) ≡ bad_work fd y (length w)) where
    pub needed_equal : outcome ed x v ≡ outcome fd y w
    unfolding said
    needed_equal = ap₂ said (ap₂ or_next (first ∙ sym second) (ap (refuse_if 11) area)) (has_cycle_alike (theory_of x) (theory_of y) one ok fine)

    rows : {l m : Bool} → l ≡ m → call_answer ed x l (bad_work ed x (length v)) ≡ call_answer fd y m (bad_work fd y (length w))
    unfolding graph_answer first_refusal
    rows {l} {m} e =
        rows_append (graph_rows ed x) (refuse_if 10 l ∷ refuse_if 11 (bad_work ed x (length v)) ∷ absorbed_row (theory_of x) ∷ [])
        ∙ ap₂ (λ (g r : Answer). or_next g r) (first ∙ sym second)
        (ap₂ (λ (j k : Bool). or_next (refuse_if 10 j) (or_next (refuse_if 11 k) (or_next (absorbed_row (theory_of x)) accept))) e area
        ∙ ap (λ (r : Answer). or_next (refuse_if 10 m) (or_next (refuse_if 11 (bad_work fd y (length w))) (or_next r accept))) twelve)
        ∙ sym (rows_append (graph_rows fd y) (refuse_if 10 m ∷ refuse_if 11 (bad_work fd y (length w)) ∷ absorbed_row (theory_of y) ∷ []))

    written : {n m : ℕ} → n ≡ m → {c d : Set} → c ≡ d → (output : List ℕ) → output_left n (get_or x 1 0) c output ≡ output_left m (get_or y 1 0) d output
    written {n} {m} e {c} {d} f output =
        ap (λ (k : ℕ). output_left k (get_or x 1 0) c output) e ∙ ap (λ (k : ℕ). output_left m k c output) atoms ∙ ap (λ (k : Set). output_left m (get_or y 1 0) k output) f

    pub prepared_equal : (output o₁ v₁ o₂ w₂ : List ℕ) (r s : Result (Unit {0}) CallError) → Prepares ed x output v o₁ v₁ r → Prepares fd y output w o₂ w₂ s → (call_of r ≡ call_of s) × (o₁ ≡ o₂)
    unfolding prepare_answer
    prepared_equal output o₁ v₁ o₂ w₂ r s p q =
        let same : call_of r ≡ call_of s = p.answer ∙ rows (ap (λ (k : ℕ). bad_output k (length output)) atoms) ∙ sym q.answer in
        (same, p.leaves.output_after ∙ written (ap (λ (a : Answer). a.number) same) (fun_ext (cyclic_alike (theory_of x) (theory_of y) one ok fine)) output ∙ sym q.leaves.output_after)

    lengths_equal : (n a o : ℕ) → bad_lengths x n a o ≡ bad_lengths y n a o
    unfolding bad_lengths
    lengths_equal n a o = ap₂ (λ (k j : ℕ). bad_mask k n || (bad_mask j a || bad_output j o)) nodes atoms

    pub completed_equal : (never atom_never output o₁ v₁ o₂ w₂ : List ℕ) (r s : Result (Unit {0}) CallError) → Completes ed x never atom_never output v o₁ v₁ r → Completes fd y never atom_never output w o₂ w₂ s
        → (call_of r ≡ call_of s) × (o₁ ≡ o₂)
    unfolding complete_answer
    completed_equal never atom_never output o₁ v₁ o₂ w₂ r s p q =
        let same : call_of r ≡ call_of s = p.answer ∙ rows (lengths_equal (length never) (length atom_never) (length output)) ∙ sym q.answer in
        (same, p.leaves.output_after ∙ written (ap (λ (a : Answer). a.number) same) (fun_ext (missing_alike (theory_of x) (theory_of y) one ok fine (bit_at never) (bit_at atom_never))) output ∙ sym q.leaves.output_after)
