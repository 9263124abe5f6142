-- The node mask of the second pass: an Atom takes an operand, and no other kind does (`names_atom`, `names_none`); words of 0 have no bit (`bit_none`), a bit is set (`with_bit_at`), and so
-- node by node (`wider`, `not_wider`).
use mathlib.Core.Path.{◌≡◌, refl, sym, ap, ◌∙◌}
use mathlib.Core.Bool.{Bool, true, false, ◌&&◌, ◌||◌}
use mathlib.Core.List.{List}
use Prim.Native.Nat.{ℕ, suc, ◌*◌, ◌/◌, ◌<◌}
use native.Mathlib.Nat.{zero-div}
use native.Mathlib.Decide.{ℕ_discrete, dec_lt}
use native.Mathlib.Omega.{arith}
use borrow.Author.Tests.{lt-ltb, le-ltb, eq-eqb, ne_eqb}
use lib.Dec.{eqb}
use lib.ListN.{length, replicate, get_or-replicate, length-replicate}
use Rattle.theory.specs.Sets.{Set, Is}
use Rattle.theory.specs.Theory.{Kind, False, Atom, And, Or, Opaque, Absorbed}
use Rattle.theory.specs.Words.{bit_at}
use Rattle.theory.proofs.SetLaws.{clash, or_none}
use Rattle.choices.specs.Undecided.{names}
use Rattle.mask.specs.Mask.{below, with_bit}
use Rattle.mask.proofs.MaskLaws.{mask_bit, bit_past}
use Rattle.graph.specs.Kinds.{takes_operand}

pub names_atom : (k : Kind) (b : Bool) → takes_operand k ≡ true → names k b ≡ b
unfolding names takes_operand
names_atom False b e = clash e refl
names_atom Atom b e = refl
names_atom And b e = clash e refl
names_atom Or b e = clash e refl
names_atom Opaque b e = clash e refl
names_atom Absorbed b e = clash e refl

pub names_none : (k : Kind) (b : Bool) → takes_operand k ≡ false → names k b ≡ false
unfolding names takes_operand
names_none False b e = refl
names_none Atom b e = clash refl e
names_none And b e = refl
names_none Or b e = refl
names_none Opaque b e = refl
names_none Absorbed b e = refl

pub with_bit_at : (m : List ℕ) (i : ℕ) → i < 64 * length m → (j : ℕ) → bit_at (with_bit i m) j ≡ (eqb j i || bit_at m j)
with_bit_at m i h j = mask_bit (length m) (λ k. eqb k i || bit_at m k) j ∙ go (dec_lt j (64 * length m))
  where
    go : Dec (j < 64 * length m) → below (64 * length m) (λ k. eqb k i || bit_at m k) j ≡ (eqb j i || bit_at m j)
    go (yes l) = rw (lt-ltb j (64 * length m) l) refl
    go (no l) = rw (le-ltb j (64 * length m) (omega arith), ne_eqb j i (λ e. omega arith), bit_past m j (omega arith)) refl

-- one more number: a member, or none
below_next : (n : ℕ) (s : Set) (j : ℕ) → below (suc n) s j ≡ ((eqb j n && s n) || below n s j)
below_next n s j = go (ℕ_discrete j n) (dec_lt j n)
  where
    go : Dec (j ≡ n) → Dec (j < n) → below (suc n) s j ≡ ((eqb j n && s n) || below n s j)
    go (yes e) l = rw (e, lt-ltb n (suc n) (omega arith), eq-eqb n n refl, le-ltb n n (omega arith)) (sym (or_none (s n)))
    go (no e) (yes l) = rw (lt-ltb j (suc n) (omega arith), ne_eqb j n e, lt-ltb j n l) refl
    go (no e) (no l) = rw (le-ltb j (suc n) (omega arith), ne_eqb j n e, le-ltb j n (omega arith)) refl

module _ (m : List ℕ) (n : ℕ) (s : Set) (h : (j : ℕ) → bit_at m j ≡ below n s j) where
  pub wider : n < 64 * length m → Is (s n) → (j : ℕ) → bit_at (with_bit n m) j ≡ below (suc n) s j
  wider l p j = with_bit_at m n l j ∙ rw h (sym (below_next n s j ∙ rw p (ap (λ (b : Bool). b || below n s j) (and_true (eqb j n)))))
    where
      and_true : (b : Bool) → (b && true) ≡ b
      and_true true = refl
      and_true false = refl

  pub not_wider : s n ≡ false → (j : ℕ) → bit_at m j ≡ below (suc n) s j
  not_wider p j = h j ∙ sym (below_next n s j ∙ rw p (ap (λ (b : Bool). b || below n s j) (and_false (eqb j n))))
    where
      and_false : (b : Bool) → (b && false) ≡ false
      and_false true = refl
      and_false false = refl

-- words of 0 have no bit
pub bit_none : (k : ℕ) (s : Set) (j : ℕ) → bit_at (replicate {A = ℕ} k 0) j ≡ below 0 s j
unfolding bit_at
bit_none k s j = go (dec_lt (j / 64) k) ∙ rw (le-ltb j 0 (omega arith)) refl
  where
    go : Dec (j / 64 < k) → bit_at (replicate {A = ℕ} k 0) j ≡ false
    go (yes l) = rw (get_or-replicate {A = ℕ} k (j / 64) 0 0 l, zero-div) refl
    go (no l) = bit_past (replicate {A = ℕ} k 0) j (rw length-replicate (omega arith))
