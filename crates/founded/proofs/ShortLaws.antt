-- Short masks (document 02, request 2), from the contract alone: a mask stands for itself with zero words behind it (`filled_bits`), and over masks filled up with them, to
-- their full lengths or less, the pass gives the same answer (`filled_answer`) and leaves the same words (`filled_leaves`, `filled_same`).
use mathlib.Core.Path.{◌≡◌, refl, sym, ap, ◌∙◌, fun_ext}
use mathlib.Core.Bool.{Bool}
use mathlib.Core.List.{List, [], ◌∷◌, ◌++◌}
use Prim.Native.Nat.{ℕ, zero, suc, ◌+◌, ◌/◌, ◌%◌, ◌^◌, ◌≤◌}
use native.Mathlib.Omega.{arith}
use borrow.Author.Tests.{le-ltb}
use lib.Dec.{eqb}
use lib.ListN.{length, get_or, replicate, length-append, length-replicate}
use Rattle.theory.specs.Words.{bit_at}
use Rattle.theory.specs.Accepted.{Edition}
use Rattle.mask.specs.Mask.{words_of}
use Rattle.refusals.specs.Answer.{Answer}
use Rattle.founded.specs.declared.CallError.{CallError}
use Rattle.std.specs.Prelude.{Result}
use Rattle.founded.specs.Answers.{call_of, bad_lengths, bad_work, call_answer, complete_answer, CompleteLeaves, Completes}

-- a mask with k zero words behind it
abbrev pub filled : List ℕ → ℕ → List ℕ
filled mask k = mask ++ replicate k 0

zeros_read : (k i : ℕ) → ◌≡◌ {A = ℕ} (get_or (replicate k 0) i 0) 0
zeros_read zero i = refl
zeros_read (suc k) zero = refl
zeros_read (suc k) (suc i) = zeros_read k i

filled_read : (mask : List ℕ) (k i : ℕ) → get_or (filled mask k) i 0 ≡ get_or mask i 0
filled_read [] k i = zeros_read k i
filled_read (w ∷ mask) k zero = refl
filled_read (w ∷ mask) k (suc i) = filled_read mask k i

pub filled_bits : (mask : List ℕ) (k : ℕ) → bit_at (filled mask k) ≡ bit_at mask
unfolding bit_at
filled_bits mask k = fun_ext (λ i. ap (λ (w : ℕ). eqb (w / 2 ^ (i % 64) % 2) 1) (filled_read mask k (i / 64)))

filled_length : (mask : List ℕ) (k : ℕ) → length (filled mask k) ≡ length mask + k
filled_length mask k = length-append mask (replicate k 0) ∙ ap (λ (n : ℕ). length mask + n) (length-replicate k 0)

-- j and k zero words fit behind the masks
module _ (ws never atom_never : List ℕ) (j k : ℕ) (nodes_fit : length never + j ≤ words_of (get_or ws 2 0)) (atoms_fit : length atom_never + k ≤ words_of (get_or ws 1 0)) where
  filled_lengths : (o : ℕ) → bad_lengths ws (length (filled never j)) (length (filled atom_never k)) o ≡ bad_lengths ws (length never) (length atom_never) o
  unfolding bad_lengths
  filled_lengths o =
      rw (
        le-ltb (words_of (get_or ws 2 0)) (length (filled never j)) (omega (arith, filled_length never j)),
        le-ltb (words_of (get_or ws 1 0)) (length (filled atom_never k)) (omega (arith, filled_length atom_never k)),
        le-ltb (words_of (get_or ws 2 0)) (length never) (omega arith),
        le-ltb (words_of (get_or ws 1 0)) (length atom_never) (omega arith),
      ) refl

  pub filled_answer : (ed : Edition) (o w : ℕ) → complete_answer ed ws (length (filled never j)) (length (filled atom_never k)) o w ≡ complete_answer ed ws (length never) (length atom_never) o w
  unfolding complete_answer
  filled_answer ed o w = ap (λ (b : Bool). call_answer ed ws b (bad_work ed ws w)) (filled_lengths o)

  module _ {output work o₁ o₂ w₁ w₂ : List ℕ} where
    pub filled_leaves : {n m : ℕ} → m ≡ n → CompleteLeaves ws never atom_never output work o₁ w₁ n → CompleteLeaves ws (filled never j) (filled atom_never k) output work o₂ w₂ m → (o₂ ≡ o₁) × (w₂ ≡ w₁)
    filled_leaves e short full = (full.output_after ∙ rw (e, filled_bits never j, filled_bits atom_never k) (sym short.output_after), full.work_after ∙ rw e (sym short.work_after))

    pub filled_same : {ed : Edition} {r s : Result (Unit {0}) CallError} → Completes ed ws never atom_never output work o₁ w₁ r → Completes ed ws (filled never j) (filled atom_never k) output work o₂ w₂ s
        → (call_of s ≡ call_of r) × (o₂ ≡ o₁) × (w₂ ≡ w₁)
    filled_same {ed} {r} {s} short full =
        let e : call_of s ≡ call_of r = full.answer ∙ filled_answer ed (length output) (length work) ∙ sym short.answer in
        let same = filled_leaves (ap (λ (a : Answer). a.number) e) short.leaves full.leaves in
        (e, same.0, same.1)
