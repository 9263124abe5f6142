-- Counting the entries of a list that lie in a set: one more number in the set adds its occurrences (`count_more`), all are counted exactly
-- if all lie in it (`count_all`, `count_full`). Lists without repeats: `subset_length`, `pigeonhole`, `covers`. Sums below a bound.
use mathlib.Core.Path.{◌≡◌, refl, sym, ap, ap₂, ◌∙◌, subst}
use mathlib.Core.Logic.{◌⊎◌, inl, inr, ◌≢◌}
use mathlib.Core.Bool.{Bool, true, false, ◌||◌, cond}
use mathlib.Core.List.Memᴰ
use mathlib.Core.List.{List, [], ◌∷◌, ◌++◌}
use Prim.Native.Nat.{ℕ, zero, suc, ◌+◌, ◌≤◌, ◌<◌, zero-le}
use native.Mathlib.Nat.{not-suc-le-zero}
use native.Mathlib.Omega.{arith}
use native.Mathlib.Decide.{ℕ_discrete, dec_lt}
use borrow.Author.Tests.{lt-ltb, le-ltb}
use lib.Dec.{eqb, ltb}
use lib.ListN.{length}
use Rattle.theory.specs.Sets.{Set, Is, Mem, any, member, sum_below}
use Rattle.theory.specs.Counts.{count_in, occ, Distinct}
use Rattle.theory.proofs.SetLaws.{bool_cases, is_false, eq_is, is_eq, mem_member, member_mem}

-- ---- one entry

pub count_in_lem : (s : Set) (x : ℕ) (l : List ℕ) → Is (s x) → count_in s (x ∷ l) ≡ suc (count_in s l)
unfolding count_in
count_in_lem s x l h = ap (λ (b : Bool). cond b (suc (count_in s l)) (count_in s l)) h

pub count_out : (s : Set) (x : ℕ) (l : List ℕ) → s x ≡ false → count_in s (x ∷ l) ≡ count_in s l
unfolding count_in
count_out s x l h = ap (λ (b : Bool). cond b (suc (count_in s l)) (count_in s l)) h

pub occ_same : (v : ℕ) (l : List ℕ) → occ v (v ∷ l) ≡ suc (occ v l)
occ_same v l = count_in_lem (λ x. eqb v x) v l (is_eq v v refl)

pub occ_other : (v x : ℕ) (l : List ℕ) → v ≢ x → occ v (x ∷ l) ≡ occ v l
occ_other v x l n = count_out (λ x. eqb v x) x l (is_false (eqb v x) (λ p. n (eq_is v x p)))

pub occ_mem : {v : ℕ} {l : List ℕ} → Mem v l → 0 < occ v l
occ_mem {v} (Memᴰ.head {x = x} {xs = l} e) = let h = occ_same v l in subst (λ (z : ℕ). 0 < occ v (z ∷ l)) e (omega arith)
occ_mem {v} (Memᴰ.tail {x = x} {xs = l} m) = go (bool_cases (eqb v x)) (occ_mem m)
  where
    go : (eqb v x ≡ true) ⊎ (eqb v x ≡ false) → 0 < occ v l → 0 < occ v (x ∷ l)
    go (inl p) h = let k = count_in_lem (λ x. eqb v x) x l p in omega arith
    go (inr p) h = let k = count_out (λ x. eqb v x) x l p in omega arith

pub mem_occ : (v : ℕ) (l : List ℕ) → 0 < occ v l → Mem v l
unfolding count_in
mem_occ v [] h = absurd (not-suc-le-zero h)
mem_occ v (x ∷ l) h = go (ℕ_discrete v x) (mem_occ v l)
  where
    go : Dec (v ≡ x) → (0 < occ v l → Mem v l) → Mem v (x ∷ l)
    go (yes e) rest = Memᴰ.head e
    go (no n) rest = let k = occ_other v x l n in Memᴰ.tail (rest (omega arith))

pub occ_none : (v : ℕ) (l : List ℕ) → (Mem v l → ⊥) → occ v l ≡ 0
occ_none v l n = go (occ v l) refl
  where
    go : (k : ℕ) → occ v l ≡ k → occ v l ≡ 0
    go zero e = e
    go (suc k) e = absurd (n (mem_occ v l (omega arith)))

pub count_append : (s : Set) (k l : List ℕ) → count_in s (k ++ l) ≡ count_in s k + count_in s l
unfolding count_in
count_append s [] l = omega arith
count_append s (x ∷ k) l = go (s x) (count_append s k l)
  where
    go : (b : Bool) → count_in s (k ++ l) ≡ count_in s k + count_in s l → cond b (suc (count_in s (k ++ l))) (count_in s (k ++ l)) ≡ cond b (suc (count_in s k)) (count_in s k) + count_in s l
    go true h = omega arith
    go false h = omega arith

-- ---- all of them

pub count_le : (s : Set) (l : List ℕ) → count_in s l ≤ length l
unfolding count_in
count_le s [] = omega arith
count_le s (x ∷ l) = go (s x) (count_le s l)
  where
    go : (b : Bool) → count_in s l ≤ length l → cond b (suc (count_in s l)) (count_in s l) ≤ suc (length l)
    go true h = omega arith
    go false h = omega arith

pub count_all : (s : Set) (l : List ℕ) → ((x : ℕ) → Mem x l → Is (s x)) → count_in s l ≡ length l
unfolding count_in
count_all s [] h = refl
count_all s (x ∷ l) h = count_in_lem s x l (h x (Memᴰ.head refl)) ∙ ap suc (count_all s l (λ y m. h y (Memᴰ.tail m)))

pub count_full : (s : Set) (l : List ℕ) {x : ℕ} → length l ≤ count_in s l → Mem x l → Is (s x)
count_full s [] {x = x} h m = elim m [ ]
count_full s (y ∷ l) {x = x} h m = go (bool_cases (s y)) (Memᴰ.cases_cons m) (λ k i. count_full s l {x = x} k i)
  where
    go : (s y ≡ true) ⊎ (s y ≡ false) → (x ≡ y) ⊎ Mem x l → (length l ≤ count_in s l → Mem x l → Is (s x)) → Is (s x)
    go (inl p) (inl e) rest = subst (λ (z : ℕ). Is (s z)) (sym e) p
    go (inl p) (inr i) rest = let k = count_in_lem s y l p in rest (omega arith) i
    go (inr p) i rest = let k = count_out s y l p in let j = count_le s l in absurd (omega arith)

-- t is s and the one number u more
pub count_more : (s t : Set) (u : ℕ) → s u ≡ false → Is (t u) → ((x : ℕ) → x ≢ u → t x ≡ s x) → (l : List ℕ) → count_in t l ≡ count_in s l + occ u l
unfolding count_in
count_more s t u out in' same [] = refl
count_more s t u out in' same (x ∷ l) = go (ℕ_discrete x u) (count_more s t u out in' same l)
  where
    go : Dec (x ≡ u) → count_in t l ≡ count_in s l + occ u l → count_in t (x ∷ l) ≡ count_in s (x ∷ l) + occ u (x ∷ l)
    go (yes e) h =
        subst (λ (z : ℕ). count_in t (z ∷ l) ≡ count_in s (z ∷ l) + occ u (z ∷ l)) (sym e)
        (let a = count_in_lem t u l in' in let c = count_out s u l out in let d = occ_same u l in omega arith)
    go (no n) h =
        let d = occ_other u x l (λ q. n (sym q)) in
        let e : count_in t (x ∷ l) ≡ cond (s x) (suc (count_in t l)) (count_in t l) = ap (λ (b : Bool). cond b (suc (count_in t l)) (count_in t l)) (same x n) in
        let f = both (s x) h in
        omega arith
      where
        both : (b : Bool) → count_in t l ≡ count_in s l + occ u l → cond b (suc (count_in t l)) (count_in t l) ≡ cond b (suc (count_in s l)) (count_in s l) + occ u l
        both true q = omega arith
        both false q = omega arith

-- the numbers below n, and n
pub count_below : (n : ℕ) (l : List ℕ) → count_in (λ x. ltb x (suc n)) l ≡ count_in (λ x. ltb x n) l + occ n l
count_below n l = count_more (λ x. ltb x n) (λ x. ltb x (suc n)) n (le-ltb n n (omega arith)) (lt-ltb n (suc n) (omega arith)) (λ x k. go x k (dec_lt x n)) l
  where
    go : (x : ℕ) → x ≢ n → Dec (x < n) → ltb x (suc n) ≡ ltb x n
    go x k (yes p) = lt-ltb x (suc n) (omega arith) ∙ sym (lt-ltb x n p)
    go x k (no p) = le-ltb x (suc n) (omega arith) ∙ sym (le-ltb x n (omega arith))

-- ---- lists without repeats

member_cons : (u x : ℕ) (d : List ℕ) → member u (x ∷ d) ≡ eqb u x || member u d
unfolding member any
member_cons u x d = refl

pub member_more : (u : ℕ) (d : List ℕ) → (Mem u d → ⊥) → (l : List ℕ) → count_in (λ x. member x (u ∷ d)) l ≡ count_in (λ x. member x d) l + occ u l
member_more u d n l =
    count_more (λ x. member x d) (λ x. member x (u ∷ d)) u (is_false (member u d) (λ p. n (member_mem u d p))) (mem_member (Memᴰ.head refl))
    (λ x k. member_cons x u d ∙ ap (λ (b : Bool). b || member x d) (is_false (eqb x u) (λ p. k (eq_is x u p)))) l

pub subset_length : (k l : List ℕ) → Distinct k → ((x : ℕ) → Mem x k → Mem x l) → length k ≤ length l
subset_length k l d h = let a = go k d h in let c = count_le (λ x. member x k) l in omega arith
  where
    go : (k : List ℕ) → Distinct k → ((x : ℕ) → Mem x k → Mem x l) → length k ≤ count_in (λ x. member x k) l
    go [] d h = zero-le
    go (x ∷ k) d h =
        let a = go k d.1 (λ y m. h y (Memᴰ.tail m)) in
        let c = member_more x k d.0 l in
        let o = occ_mem (h x (Memᴰ.head refl)) in
        omega arith

-- b - 1, .. 1, 0
below : ℕ → List ℕ
below zero = []
below (suc b) = b ∷ below b

below_mem : (b x : ℕ) → x < b → Mem x (below b)
unfolding below
below_mem zero x h = absurd (not-suc-le-zero h)
below_mem (suc b) x h = go (ℕ_discrete x b) (below_mem b x)
  where
    go : Dec (x ≡ b) → (x < b → Mem x (below b)) → Mem x (b ∷ below b)
    go (yes e) rest = Memᴰ.head e
    go (no n) rest = Memᴰ.tail (rest (omega arith))

below_low : (b x : ℕ) → Mem x (below b) → x < b
unfolding below
below_low zero x m = elim m [ ]
below_low (suc b) x m = go (Memᴰ.cases_cons m) (below_low b x)
  where
    go : (x ≡ b) ⊎ Mem x (below b) → (Mem x (below b) → x < b) → x < suc b
    go (inl e) rest = omega arith
    go (inr i) rest = let h = rest i in omega arith

below_length : (b : ℕ) → length (below b) ≡ b
unfolding below
below_length zero = refl
below_length (suc b) = ap suc (below_length b)

below_distinct : (b : ℕ) → Distinct (below b)
unfolding below
below_distinct zero = tt
below_distinct (suc b) = ((λ m. let h = below_low b b m in omega arith), below_distinct b)

-- different numbers below b are at most b
pub pigeonhole : (b : ℕ) (l : List ℕ) → Distinct l → ((x : ℕ) → Mem x l → x < b) → length l ≤ b
pigeonhole b l d low = let a = subset_length l (below b) d (λ x m. below_mem b x (low x m)) in let c = below_length b in omega arith

-- and a list that has every number below b is at least b long
pub covers : (b : ℕ) (l : List ℕ) → ((v : ℕ) → v < b → Mem v l) → b ≤ length l
covers b l h = let a = subset_length (below b) l (below_distinct b) (λ x m. h x (below_low b x m)) in let c = below_length b in omega arith

-- ---- sums

pub sum_step : (r : ℕ) (f : ℕ → ℕ) → sum_below (suc r) f ≡ f r + sum_below r f
unfolding sum_below
sum_step r f = refl

pub sum_le : (n : ℕ) (f h : ℕ → ℕ) → ((i : ℕ) → i < n → f i ≤ h i) → sum_below n f ≤ sum_below n h
unfolding sum_below
sum_le zero f h p = zero-le
sum_le (suc n) f h p = let a = p n (omega arith) in let c = sum_le n f h (λ i l. p i (omega arith)) in omega arith

pub sum_same : (n : ℕ) (f h : ℕ → ℕ) → ((i : ℕ) → i < n → f i ≡ h i) → sum_below n f ≡ sum_below n h
unfolding sum_below
sum_same zero f h p = refl
sum_same (suc n) f h p = ap₂ (λ (a c : ℕ). a + c) (p n (omega arith)) (sum_same n f h (λ i l. p i (omega arith)))

pub sum_mono : (r s : ℕ) (f : ℕ → ℕ) → r ≤ s → sum_below r f ≤ sum_below s f
unfolding sum_below
sum_mono r zero f h = let e : r ≡ 0 = omega arith in rw e (omega arith)
sum_mono r (suc s) f h = go (ℕ_discrete r (suc s)) (sum_mono r s f)
  where
    go : Dec (r ≡ suc s) → (r ≤ s → sum_below r f ≤ sum_below s f) → sum_below r f ≤ f s + sum_below s f
    go (yes e) rest = rw (ap (λ (k : ℕ). sum_below k f) e) (omega arith)
    go (no n) rest = let k = rest (omega arith) in omega arith

-- each entry is counted once
pub sum_occ : (n : ℕ) (l : List ℕ) → sum_below n (λ r. occ r l) ≤ length l
unfolding sum_below
sum_occ n l = let a = go n in let c = count_le (λ x. ltb x n) l in omega arith
  where
    go : (n : ℕ) → sum_below n (λ r. occ r l) ≤ count_in (λ x. ltb x n) l
    go zero = zero-le
    go (suc n) = let a = go n in let c = count_below n l in omega arith

pub sum_one : (n : ℕ) (f : ℕ → ℕ) (i : ℕ) → i < n → f i ≤ sum_below n f
sum_one n f i h = let a = sum_mono (suc i) n f h in let c = sum_step i f in omega arith

-- one term less, and no other more
pub sum_less : (n : ℕ) (f h : ℕ → ℕ) (i : ℕ) → i < n → h i < f i → ((j : ℕ) → j < n → j ≢ i → h j ≤ f j) → sum_below n h < sum_below n f
unfolding sum_below
sum_less zero f h i l less others = absurd (not-suc-le-zero l)
sum_less (suc n) f h i l less others = go (ℕ_discrete n i) (sum_less n f h i)
  where
    go : Dec (n ≡ i) → (i < n → h i < f i → ((j : ℕ) → j < n → j ≢ i → h j ≤ f j) → sum_below n h < sum_below n f) → h n + sum_below n h < f n + sum_below n f
    go (yes e) rest = let a : h n < f n = subst (λ (k : ℕ). h k < f k) (sym e) less in let c = sum_le n h f (λ j k. others j (omega arith) (λ q. omega arith)) in omega arith
    go (no m) rest = let a = others n (omega arith) m in let c = rest (omega arith) less (λ j k q. others j (omega arith) q) in omega arith
