-- Words that give 0 under `|` are 0, and so are all of a block that do (`blank_more`, `all_blank`); and a part that is cleared behind words that are 0
-- (`wiped_part`).
use mathlib.Core.Path.{◌≡◌, refl, sym, ap, ◌∙◌, subst}
use mathlib.Core.List.{List, ◌++◌, append_assoc}
use Prim.Native.Nat.{ℕ, ◌+◌, ◌-◌, ◌≤◌, ◌<◌}
use native.Mathlib.Decide.{dec_lt}
use native.Mathlib.Omega.{arith}
use lib.Bits.{bit_or, or_add_and, and_le_l, and_le_r}
use lib.ListN.{length, get_or, take, drop, replicate, length-replicate, length-append, length-take, length-drop, get_or-replicate, replicate-append-replicate}
use lib.Seq.{ext_get_or, take_at}

or_zero : (a b : ℕ) → bit_or a b ≡ 0 → (a ≡ 0) × (b ≡ 0)
or_zero a b e = (omega (arith, or_add_and a b, and_le_r a b, e), omega (arith, or_add_and a b, and_le_l a b, e))

-- the words before i
abbrev pub BlankTo : List ℕ → (all i : ℕ) → Type 0
BlankTo w all i = all ≡ 0 → (j : ℕ) → j < i → get_or w j 0 ≡ 0

pub blank_more : (w : List ℕ) (all i : ℕ) → BlankTo w all i → BlankTo w (bit_or all (get_or w i 0)) (i + 1)
blank_more w all i so e j h = go (dec_lt j i)
  where
    go : Dec (j < i) → get_or w j 0 ≡ 0
    go (yes l) = so (or_zero all (get_or w i 0) e).0 j l
    go (no l) = let same : i ≡ j = omega arith in subst (λ (k : ℕ). get_or w k 0 ≡ 0) same (or_zero all (get_or w i 0) e).1

pub all_blank : (w : List ℕ) → BlankTo w 0 (length w) → w ≡ replicate (length w) 0
all_blank w so = ext_get_or 0 w (replicate (length w) 0) (sym (length-replicate {A = ℕ} (length w) 0)) (λ i l. so refl i l ∙ sym (get_or-replicate (length w) i 0 0 l))

two_parts : (l p r : List ℕ) (e : ℕ) → length (l ++ p) ≡ e → take e (l ++ (p ++ r)) ≡ l ++ p
two_parts l p r e h = ap (take e) (sym (append_assoc l p r)) ∙ take_at (l ++ p) r e h

-- the words before e are 0 where those before a are and the part from a to e is cleared
pub wiped_part : (a e : ℕ) (w p : List ℕ) → a ≤ e → e ≤ length w → take a w ≡ replicate a 0 → p ≡ replicate (length (take (e - a) (drop a w))) 0
    → take e (take a w ++ (p ++ drop (e - a) (drop a w))) ≡ replicate e 0
wiped_part a e w p h k front part = two_parts (take a w) p (drop (e - a) (drop a w)) e size ∙ rw (front, part, replicate-append-replicate) (ap (λ (m : ℕ). replicate m 0) all)
  where
    all : a + length (take (e - a) (drop a w)) ≡ e
    all = simp (length-take, length-drop) (omega arith)

    size : length (take a w ++ p) ≡ e
    size = rw (front, part) (simp (length-append, length-replicate) all)
