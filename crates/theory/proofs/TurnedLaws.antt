-- The first entries of an array in order (`take`) and the last one first (`upto`): the same members (`same_members`), and no repeats where the other has none.
use mathlib.Core.Path.{◌≡◌, refl, sym, subst}
use mathlib.Core.Logic.{◌⊎◌, inl, inr, ◌↔◌, ◌≢◌}
use mathlib.Core.List.Memᴰ
use mathlib.Core.List.{List, [], ◌∷◌}
use Prim.Native.Nat.{ℕ, zero, suc, ◌≤◌, ◌<◌}
use native.Mathlib.Nat.{not-suc-le-zero}
use native.Mathlib.Omega.{arith}
use lib.ListN.{length, get_or, take}
use Rattle.theory.specs.Sets.{Mem}
use Rattle.theory.specs.Counts.{Distinct}
use Rattle.theory.specs.Prefix.{upto}
use Rattle.theory.proofs.PrefixLaws.{upto_mem}

mem_upto : (n : ℕ) (l : List ℕ) {x : ℕ} → Mem x (upto n l) → (i : ℕ) × (i < n) × (x ≡ get_or l i 0)
unfolding upto
mem_upto zero l m = absurd (Memᴰ.not-nil m)
mem_upto (suc n) l {x} m = go (Memᴰ.cases_cons m) (mem_upto n l)
  where
    go : (x ≡ get_or l n 0) ⊎ Mem x (upto n l) → (Mem x (upto n l) → (i : ℕ) × (i < n) × (x ≡ get_or l i 0)) → (i : ℕ) × (i < suc n) × (x ≡ get_or l i 0)
    go (inl e) rest = (n, omega arith, e)
    go (inr k) rest = let r = rest k in let h : r.0 < n = r.1 in (r.0, omega arith, r.2)

mem_take : (n : ℕ) (l : List ℕ) {x : ℕ} → Mem x (take n l) → (i : ℕ) × (i < n) × (x ≡ get_or l i 0)
mem_take zero l m = absurd (Memᴰ.not-nil m)
mem_take (suc n) [] m = absurd (Memᴰ.not-nil m)
mem_take (suc n) (y ∷ l) {x} m = go (Memᴰ.cases_cons m) (mem_take n l)
  where
    go : (x ≡ y) ⊎ Mem x (take n l) → (Mem x (take n l) → (i : ℕ) × (i < n) × (x ≡ get_or l i 0)) → (i : ℕ) × (i < suc n) × (x ≡ get_or (y ∷ l) i 0)
    go (inl e) rest = (0, omega arith, e)
    go (inr k) rest = let r = rest k in let h : r.0 < n = r.1 in (suc r.0, omega arith, r.2)

take_mem : (n i : ℕ) (l : List ℕ) → i < n → i < length l → Mem (get_or l i 0) (take n l)
take_mem zero i l h k = absurd (not-suc-le-zero h)
take_mem (suc n) i [] h k = absurd (not-suc-le-zero k)
take_mem (suc n) zero (y ∷ l) h k = Memᴰ.head refl
take_mem (suc n) (suc i) (y ∷ l) h k = Memᴰ.tail (take_mem n i l (omega arith) (omega arith))

module _ (n : ℕ) (l : List ℕ) (long : n ≤ length l) where
  pub same_members : (x : ℕ) → Mem x (upto n l) ↔ Mem x (take n l)
  same_members x = (
    λ m. let r = mem_upto n l m in let h : r.0 < n = r.1 in subst (λ (z : ℕ). Mem z (take n l)) (sym r.2) (take_mem n r.0 l h (omega arith)),
    λ m. let r = mem_take n l m in subst (λ (z : ℕ). Mem z (upto n l)) (sym r.2) (upto_mem n r.0 l r.1),
  )

-- entries at two places of a list without repeats differ
pub apart : (n : ℕ) (l : List ℕ) → Distinct (take n l) → (i j : ℕ) → i < j → j < n → j < length l → get_or l i 0 ≢ get_or l j 0
apart zero l d i j h k m e = not-suc-le-zero k
apart (suc n) [] d i j h k m e = not-suc-le-zero m
apart (suc n) (y ∷ l) d zero zero h k m e = not-suc-le-zero h
apart (suc n) (y ∷ l) d zero (suc j) h k m e = d.0 (subst (λ (z : ℕ). Mem z (take n l)) (sym e) (take_mem n j l (omega arith) (omega arith)))
apart (suc n) (y ∷ l) d (suc i) zero h k m e = not-suc-le-zero h
apart (suc n) (y ∷ l) d (suc i) (suc j) h k m e = apart n l d.1 i j (omega arith) (omega arith) (omega arith) e

pub upto_distinct : (n : ℕ) (l : List ℕ) → ((i j : ℕ) → i < j → j < n → get_or l i 0 ≢ get_or l j 0) → Distinct (upto n l)
unfolding upto
upto_distinct zero l h = tt
upto_distinct (suc n) l h = ((λ m. let r = mem_upto n l m in let k : r.0 < n = r.1 in h r.0 n k (omega arith) (sym r.2)), upto_distinct n l (λ i j a c. h i j a (omega arith)))
