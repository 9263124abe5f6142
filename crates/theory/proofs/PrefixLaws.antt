-- What an array holds so far, entry by entry: its length, a store past it, one more entry (`upto_push`), and a prefix in two parts (`upto_split`).
use mathlib.Core.Path.{◌≡◌, refl, ap, ap₂, ◌∙◌, subst}
use mathlib.Core.List.Memᴰ
use mathlib.Core.List.{List, ◌∷◌, ◌++◌}
use Prim.Native.Nat.{ℕ, zero, suc, ◌+◌, ◌-◌, ◌≤◌, ◌<◌}
use native.Mathlib.Nat.{add-zero, add-suc, not-suc-le-zero}
use native.Mathlib.Omega.{arith}
use native.Mathlib.Decide.{ℕ_discrete}
use lib.ListN.{length, get_or, set}
use lib.Seq.{get_or-set_same, get_or-set_other}
use Rattle.theory.specs.Sets.{Mem}
use Rattle.theory.specs.Counts.{Distinct}
use Rattle.theory.specs.Prefix.{upto, between}

pub upto_length : (n : ℕ) (l : List ℕ) → length (upto n l) ≡ n
unfolding upto
upto_length zero l = refl
upto_length (suc n) l = ap suc (upto_length n l)

pub between_length : (from n : ℕ) (l : List ℕ) → length (between from n l) ≡ n
unfolding between
between_length from zero l = refl
between_length from (suc n) l = ap suc (between_length from n l)

-- arrays that agree on the first n entries
pub upto_same : (n : ℕ) (k l : List ℕ) → ((i : ℕ) → i < n → get_or k i 0 ≡ get_or l i 0) → upto n k ≡ upto n l
unfolding upto
upto_same zero k l h = refl
upto_same (suc n) k l h = ap₂ (λ (a : ℕ) (b : List ℕ). a ∷ b) (h n (omega arith)) (upto_same n k l (λ i j. h i (omega arith)))

pub between_same : (from n : ℕ) (k l : List ℕ) → ((i : ℕ) → i < from + n → get_or k i 0 ≡ get_or l i 0) → between from n k ≡ between from n l
unfolding between
between_same from zero k l h = refl
between_same from (suc n) k l h = ap₂ (λ (a : ℕ) (b : List ℕ). a ∷ b) (h (from + n) (omega arith)) (between_same from n k l (λ i j. h i (omega arith)))

-- a store at or past n leaves them
upto_past : (n i x : ℕ) (l : List ℕ) → n ≤ i → upto n (set l i x) ≡ upto n l
upto_past n i x l h = upto_same n (set l i x) l (λ j k. get_or-set_other l i j x 0 (λ e. omega arith))

-- one more
pub upto_push : (n x : ℕ) (l : List ℕ) → n < length l → upto (suc n) (set l n x) ≡ x ∷ upto n l
unfolding upto
upto_push n x l h = ap₂ (λ (a : ℕ) (b : List ℕ). a ∷ b) (get_or-set_same l n x 0 h) (upto_past n n x l (omega arith))

-- the last one, and the ones before it
pub upto_turn : (n : ℕ) (l : List ℕ) → 0 < n → upto n l ≡ get_or l (n - 1) 0 ∷ upto (n - 1) l
unfolding upto
upto_turn zero l h = absurd (not-suc-le-zero h)
upto_turn (suc n) l h = let e : suc n - 1 ≡ n = omega arith in rw e refl

-- each of them
pub upto_mem : (n i : ℕ) (l : List ℕ) → i < n → Mem (get_or l i 0) (upto n l)
unfolding upto
upto_mem zero i l h = absurd (not-suc-le-zero h)
upto_mem (suc n) i l h = go (ℕ_discrete i n) (upto_mem n i l)
  where
    go : Dec (i ≡ n) → (i < n → Mem (get_or l i 0) (upto n l)) → Mem (get_or l i 0) (get_or l n 0 ∷ upto n l)
    go (yes e) rest = Memᴰ.head (ap (λ (z : ℕ). get_or l z 0) e)
    go (no e) rest = Memᴰ.tail (rest (omega arith))

pub upto_split : (from n : ℕ) (l : List ℕ) → upto (from + n) l ≡ between from n l ++ upto from l
unfolding upto between
upto_split from zero l = ap (λ (z : ℕ). upto z l) (add-zero from)
upto_split from (suc n) l = ap (λ (z : ℕ). upto z l) (add-suc from n) ∙ ap (λ (k : List ℕ). get_or l (from + n) 0 ∷ k) (upto_split from n l)

pub between_mem : (from n i : ℕ) (l : List ℕ) → from ≤ i → i < from + n → Mem (get_or l i 0) (between from n l)
unfolding between
between_mem from zero i l h k = absurd (omega arith)
between_mem from (suc n) i l h k = go (ℕ_discrete i (from + n)) (between_mem from n i l h)
  where
    go : Dec (i ≡ from + n) → (i < from + n → Mem (get_or l i 0) (between from n l)) → Mem (get_or l i 0) (get_or l (from + n) 0 ∷ between from n l)
    go (yes e) rest = Memᴰ.head (ap (λ (z : ℕ). get_or l z 0) e)
    go (no e) rest = Memᴰ.tail (rest (omega arith))

-- an entry is not among those before it
pub upto_once : (n i : ℕ) (l : List ℕ) → Distinct (upto n l) → i < n → Mem (get_or l i 0) (upto i l) → ⊥
unfolding upto
upto_once zero i l d h m = not-suc-le-zero h
upto_once (suc n) i l d h m = go (ℕ_discrete i n) (upto_once n i l d.1)
  where
    go : Dec (i ≡ n) → (i < n → Mem (get_or l i 0) (upto i l) → ⊥) → ⊥
    go (yes e) rest = d.0 (subst (λ (k : ℕ). Mem (get_or l k 0) (upto k l)) e m)
    go (no e) rest = rest (omega arith) m
