-- The answers of preparation and pass, and what each leaves: a refusal of the graph (`graph_refused`), of lengths (`lengths_refused`), of the work
-- area (`work_refused`), of an absorbed node (`absorbed_refused`), and success (`done`), where all rows accept (`all_accept`).
use mathlib.Core.Path.{◌≡◌, refl, sym, ◌∙◌}
use mathlib.Core.Bool.{Bool, true, false, cond}
use mathlib.Core.List.{List, [], ◌∷◌}
use Prim.Native.Nat.{ℕ, ◌+◌, ◌<◌}
use lib.Dec.{eqb}
use lib.ListN.{length, get_or, replicate}
use Rattle.theory.specs.Sets.{Set}
use Rattle.theory.specs.Words.{theory_of}
use Rattle.theory.specs.Accepted.{Edition}
use Rattle.mask.specs.Mask.{pack}
use Rattle.refusals.specs.Answer.{Answer, accept, refuse, refuse_if, or_next, first_refusal}
use Rattle.refusals.specs.Refusals.{graph_rows, graph_answer, absorbed_row, refused_as}
use Rattle.refusals.specs.declared.Refusal.{Refusal}
use Rattle.refusals.specs.declared.Refusal.TheVariants.{Edition as EditionRefused, Counts, Size, Node, Producer, Link, Back, Leaf, Head, Entries}
use Rattle.refusals.proofs.RowLaws.{rows_append}
use Rattle.preparation.specs.Flags.{Refused}
use Rattle.founded.specs.Answers.{call_answer, output_left, work_left}
use Rattle.founded.proofs.OutputLaws.{flags_pack}

-- what the two contracts have in common: lengths and area are the tests of 10 and 11, and s is the set that success writes
pub record Answered (ed : Edition) (ws : List ℕ) (lengths area : Bool) (s : Set) (output work output' work' : List ℕ) (a : Answer) : Type 0 where
  pub answer : a ≡ call_answer ed ws lengths area
  pub output_after : output' ≡ output_left a.number (get_or ws 1 0) s output
  pub work_after : work' ≡ work_left a.number work

-- the graph's refusals are neither 0 nor 12
pub graph_number : (e : Refusal) → (eqb (refused_as e).number 0 ≡ false) × (eqb (refused_as e).number 12 ≡ false)
graph_number EditionRefused = (refl, refl)
graph_number Counts = (refl, refl)
graph_number Size = (refl, refl)
graph_number (Node k) = (refl, refl)
graph_number (Producer k) = (refl, refl)
graph_number (Link k) = (refl, refl)
graph_number (Back k) = (refl, refl)
graph_number (Leaf k) = (refl, refl)
graph_number (Head k) = (refl, refl)
graph_number Entries = (refl, refl)

module _ (ed : Edition) (ws : List ℕ) where
  -- the rows after the graph's
  late : (lengths area : Bool) → Answer
  late lengths area = or_next (refuse_if 10 lengths) (or_next (refuse_if 11 area) (or_next (absorbed_row (theory_of ws)) accept))

  rows : (lengths area : Bool) → call_answer ed ws lengths area ≡ or_next (graph_answer ed ws) (late lengths area)
  unfolding graph_answer first_refusal late
  rows lengths area = rows_append (graph_rows ed ws) (refuse_if 10 lengths ∷ refuse_if 11 area ∷ absorbed_row (theory_of ws) ∷ [])

  module _ (ok : graph_answer ed ws ≡ accept) where
    later : (lengths area : Bool) → call_answer ed ws lengths area ≡ late lengths area
    later lengths area = rows lengths area ∙ rw ok

    pub all_accept : {lengths area : Bool} → lengths ≡ false → area ≡ false → absorbed_row (theory_of ws) ≡ accept → accept ≡ call_answer ed ws lengths area
    unfolding late
    all_accept {lengths} {area} l r m = sym (later lengths area ∙ rw (l, r, m))

module _ (ed : Edition) (ws : List ℕ) (s : Set) (output work : List ℕ) where
  -- a refusal 1 to 11 leaves all as it was
  kept : {lengths area : Bool} (a : Answer) → a ≡ call_answer ed ws lengths area → (eqb a.number 0 ≡ false) × (eqb a.number 12 ≡ false)
      → Answered ed ws lengths area s output work output work a
  kept a e n = record {
    answer = e;
    output_after = rw n.0;
    work_after = rw (n.0, n.1);
  }

  pub graph_refused : {lengths area : Bool} (e : Refusal) → refused_as e ≡ graph_answer ed ws → Answered ed ws lengths area s output work output work (refused_as e)
  graph_refused {lengths} {area} e q =
      let k = graph_number e in
      kept (refused_as e) (sym (rows ed ws lengths area ∙ rw (← q, k.0))) k

  module _ (ok : graph_answer ed ws ≡ accept) where
    pub lengths_refused : {lengths area : Bool} → lengths ≡ true → Answered ed ws lengths area s output work output work (refuse 10 0)
    unfolding late
    lengths_refused {lengths} {area} l = kept (refuse 10 0) (sym (later ed ws ok lengths area ∙ rw l)) (refl, refl)

    pub work_refused : {lengths area : Bool} → lengths ≡ false → area ≡ true → Answered ed ws lengths area s output work output work (refuse 11 0)
    unfolding late
    work_refused {lengths} {area} l r = kept (refuse 11 0) (sym (later ed ws ok lengths area ∙ rw (l, r))) (refl, refl)

    module _ {lengths area : Bool} (l : lengths ≡ false) (r : area ≡ false) (w : List ℕ) {work' : List ℕ} (z : work' ≡ replicate (length w) 0) where
      pub absorbed_refused : {n : ℕ} → Refused ws work w n → Answered ed ws lengths area s output work output work' (refuse 12 n)
      unfolding late
      absorbed_refused {n} h = record {
        answer = sym (later ed ws ok lengths area ∙ rw (l, r, h.row));
        output_after = refl;
        work_after = z ∙ rw h.size;
      }

      -- the flags of s from `from` on, packed
      pub done : (from : ℕ) {n : ℕ} {output' : List ℕ} → n ≡ get_or ws 1 0 → length w ≡ length work → absorbed_row (theory_of ws) ≡ accept
          → ((a : ℕ) → a < n → get_or w (from + a) 0 ≡ cond (s a) 1 0) → output' ≡ pack n (λ a. eqb (get_or w (from + a) 0) 1)
          → Answered ed ws lengths area s output work output' work' accept
      done from e n m f o = record {
        answer = all_accept ed ws ok l r m;
        output_after = o ∙ flags_pack from w s e f;
        work_after = z ∙ rw n;
      }
