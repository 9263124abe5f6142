-- A code that is made of an answer's number and place tells the answer (`told`). Preparation, pass and the list of what nothing produces, whose code tells their answer (`prepared_told`, `completed_told`, `unfounded_told`, `within_told`); over masks
-- filled up with zero words the pass gives the same code and leaves the same words (`filled_told`). The loop test's number (`needed_told`): it tells the outcome, and on success it is 1 exactly if there is a closed walk. How many words the
-- work area has: `words_refused`, `words_accepted`. The place in the comparison's answer fits the low half (`compared_placed`). The call over all choices of undecided bits (`undecided_told`). A search branch
-- (`branched_told`).
use mathlib.Core.Path.{◌≡◌, refl, sym, ap, ◌∙◌}
use mathlib.Core.Logic.{◌↔◌}
use mathlib.Core.Bool.{Bool, true, false, not, cond, true≢false}
use mathlib.Core.List.{List}
use Prim.Native.Nat.{ℕ, ◌+◌, ◌<◌, ◌≤◌}
use native.Mathlib.Omega.{arith}
use borrow.Author.Tests.{eq-eqb}
use lib.Dec.{eqb}
use lib.ListN.{length, get_or}
use Rattle.std.specs.Prelude.{Result}
use Rattle.theory.specs.Words.{theory_of}
use Rattle.theory.specs.Accepted.{Edition, area_of}
use Rattle.theory.specs.Founded.{has_cycle}
use Rattle.mask.specs.Mask.{words_of}
use Rattle.refusals.specs.Answer.{Answer, accept, refuse, refuse_if}
use Rattle.refusals.specs.Refusals.{graph_answer, refused_as}
use Rattle.refusals.specs.declared.Refusal.{Refusal}
use Rattle.refusals.proofs.RefusedLaws.{number_some}
use Rattle.refusals.proofs.PlaceLaws.{if_place, or_place, graph_place}
use Rattle.cycles.specs.Outcome.{Outcome, refused, loops, refusal, outcome, work_after, ClosedWalk}
use Rattle.theory.specs.Order.{content_cmp}
use Rattle.compare.specs.Comparison.{Comparison, turned_away, in_order, refusal_of_two, comparison}
use Rattle.founded.specs.declared.CallError.{CallError}
use Rattle.founded.specs.Answers.{call_of, Prepares, Completes}
use Rattle.founded.proofs.ShortLaws.{filled, filled_answer, filled_leaves}
use Rattle.abi.specs.Codes.{code_of, Tells, NeedTells, Placed, Needed, PreparedAs, CompletedAs, work_words, UnfoundedAs, CompletedWithinAs, ComparisonPlaced, UndecidedAs, BranchedAs}
use Rattle.within.specs.WithinAnswers.{CompletesWithin}
use Rattle.undecided.specs.declared.OpenError.{OpenError}
use Rattle.undecided.specs.Answers.{open_of, Undecides}
use Rattle.branch.specs.declared.BranchError.{BranchError}
use Rattle.branch.specs.Answers.{branch_of, Branches}
use Rattle.unfounded.specs.Unproduced.{ListsUnfounded}

pub told : {lim : ℕ} {a : Answer} {n p r : ℕ} → n ≡ a.number → p ≡ a.place → Tells lim (refuse n p) r → Tells lim a r
told e q t = rw (e, q) at t

said_1 : (b : Bool) {r : ℕ} → r ≡ cond b 1 0 → (r ≡ 1) ↔ (b ≡ true)
said_1 true e = (λ _. refl, λ _. e)
said_1 false e = (λ h. absurd (omega (arith, e, h)), λ h. absurd (true≢false (sym h)))

module _ (lim : ℕ) (ed : Edition) where
  pub prepared_told : {graph output work output' work' : List ℕ} {a : Result (Unit {0}) CallError} {r : ℕ} → Prepares ed graph output work output' work' a → Tells lim (call_of a) r → PreparedAs lim ed graph output work output' work' r
  prepared_told h t = record { told = rw (← h.answer) t; leaves = rw (← h.answer) h.leaves }

  pub completed_told : {graph never atom_never output work output' work' : List ℕ} {a : Result (Unit {0}) CallError} {r : ℕ} → Completes ed graph never atom_never output work output' work' a → Tells lim (call_of a) r
      → CompletedAs lim ed graph never atom_never output work output' work' r
  completed_told h t = record { told = rw (← h.answer) t; leaves = rw (← h.answer) h.leaves }

  pub filled_told : (graph never atom_never : List ℕ) (j k : ℕ) → length never + j ≤ words_of (get_or graph 2 0) → length atom_never + k ≤ words_of (get_or graph 1 0) → {output work o₁ o₂ w₁ w₂ : List ℕ} {r s : ℕ}
      → CompletedAs lim ed graph never atom_never output work o₁ w₁ r → CompletedAs lim ed graph (filled never j) (filled atom_never k) output work o₂ w₂ s → (s ≡ r) × (o₂ ≡ o₁) × (w₂ ≡ w₁)
  filled_told graph never atom_never j k n a {output} {work} short full =
      let e = filled_answer graph never atom_never j k n a ed (length output) (length work) in
      let same = filled_leaves graph never atom_never j k n a (ap (λ (x : Answer). x.number) e) short.leaves full.leaves in
      (full.told.0 ∙ ap (code_of lim) e ∙ sym short.told.0, same.0, same.1)

  pub unfounded_told : {graph never atom_never output work output' work' : List ℕ} {a : Result (Unit {0}) CallError} {r : ℕ} → ListsUnfounded ed graph never atom_never output work output' work' a → Tells lim (call_of a) r
      → UnfoundedAs lim ed graph never atom_never output work output' work' r
  unfounded_told h t = record { told = rw (← h.answer) t; leaves = rw (← h.answer) h.leaves }

  pub within_told : {graph never atom_never output work : List ℕ} {allowance : ℕ} {output' work' : List ℕ} {left r : ℕ} {a : Answer} → CompletesWithin ed graph never atom_never output work allowance output' work' left a → Tells lim a r
      → CompletedWithinAs lim ed graph never atom_never output work allowance output' work' left r
  within_told h t = record { told = rw (← h.answer) t; leaves = rw (← h.answer) h.leaves }

  pub needed_told : {o : Outcome} {graph work work' : List ℕ} {r : ℕ} → o ≡ outcome ed graph work → work' ≡ work_after ed graph work
      → ((yes : Bool) → o ≡ loops yes → (yes ≡ true) ↔ ClosedWalk (theory_of graph)) → NeedTells lim o r → Needed lim ed graph work work' r
  needed_told {o = o} {graph = graph} {work = work} {r = r} e w h t =
      record { told = rw (← e) t; work_after = w; closed_walk = λ z. walk (e ∙ rw (eq-eqb (refusal ed graph work).number 0 z)) }
    where
      walk : o ≡ loops (has_cycle (theory_of graph)) → (r ≡ 1) ↔ ClosedWalk (theory_of graph)
      walk q =
          let b = has_cycle (theory_of graph) in
          let told : r ≡ cond b 1 0 = rw q at t in
          (λ x. (h b q).0 ((said_1 b told).0 x), λ x. (said_1 b told).1 ((h b q).1 x))

  -- the place in the loop test's answer fits the low half
  pub needed_placed : {o : Outcome} (graph work : List ℕ) → o ≡ outcome ed graph work → 0 < lim → get_or graph 2 0 < lim → get_or graph 3 0 < lim → get_or graph 4 0 < lim → Placed lim o
  needed_placed graph work e some n p k = rw e (go (eqb (refusal ed graph work).number 0))
    where
      bad : Bool
      bad = not (eqb (length work) (area_of ed (theory_of graph)))

      low : (refusal ed graph work).place < lim
      low = or_place some (graph_answer ed graph) (refuse_if 11 bad) (graph_place some ed graph n p k) (if_place some 11 bad)

      go : (t : Bool) → Placed lim (cond t (loops (has_cycle (theory_of graph))) (refused (refusal ed graph work)))
      go true = tt
      go false = low

  -- so does that of the comparison
  pub compared_placed : {r : Comparison} (x y : List ℕ) → r ≡ comparison ed x y → 0 < lim → get_or x 2 0 < lim → get_or x 3 0 < lim → get_or x 4 0 < lim
      → get_or y 2 0 < lim → get_or y 3 0 < lim → get_or y 4 0 < lim → ComparisonPlaced lim r
  compared_placed x y e some n p k n' p' k' = rw e (go (eqb (refusal_of_two ed x y).number 0))
    where
      low : (refusal_of_two ed x y).place < lim
      low = or_place some (graph_answer ed x) (graph_answer ed y) (graph_place some ed x n p k) (graph_place some ed y n' p' k')

      go : (t : Bool) → ComparisonPlaced lim (cond t (in_order (content_cmp x y)) (turned_away (refusal_of_two ed x y)))
      go true = tt
      go false = low

-- the call over all choices of undecided bits
pub undecided_told : {lim : ℕ} {graph never atom_never open_nodes open_atoms always sometimes work always' sometimes' work' : List ℕ} {a : Result (Unit {0}) OpenError} {r : ℕ}
    → Undecides graph never atom_never open_nodes open_atoms always sometimes work always' sometimes' work' a → Tells lim (open_of a) r
    → UndecidedAs lim graph never atom_never open_nodes open_atoms always sometimes work always' sometimes' work' r
undecided_told h t = record { told = rw (← h.answer) t; leaves = rw (← h.answer) h.leaves }

-- a search branch
pub branched_told : {lim : ℕ} {graph : List ℕ} {pairs : ℕ} {never atom_never output work output' work' : List ℕ} {a : Result (Unit {0}) BranchError} {r : ℕ}
    → Branches graph pairs never atom_never output work output' work' a → Tells lim (branch_of a) r → BranchedAs lim graph pairs never atom_never output work output' work' r
branched_told h t = record { told = rw (← h.answer) t; leaves = rw (← h.answer) h.leaves }

-- ---- the length of the work area

module _ (ed : Edition) (graph : List ℕ) where
  pub words_refused : (e : Refusal) → refused_as e ≡ graph_answer ed graph → 0 ≡ work_words ed graph
  words_refused e q = rw (← q, number_some e) refl

  pub words_accepted : {r : ℕ} → graph_answer ed graph ≡ accept → r ≡ area_of ed (theory_of graph) → r ≡ work_words ed graph
  words_accepted e q = q ∙ sym (ap (λ (a : Answer). cond (eqb a.number 0) (area_of ed (theory_of graph)) 0) e)
