-- The table that `least` computes is the least set below the bound that is closed under the step (a monotone one): `least_closed` and
-- `least_least`; and what the step passes on holds of each member: `least_induct`.
use mathlib.Core.Path.{◌≡◌, refl, sym, ap, ◌∙◌, subst}
use mathlib.Core.Logic.{◌⊎◌, inl, inr}
use mathlib.Core.Bool.{Bool, true, false, not, ◌&&◌}
use Prim.Native.Nat.{ℕ, zero, suc, ◌+◌, ◌≤◌, ◌<◌, zero-le}
use native.Mathlib.Nat.{not-suc-le-zero, le_of_suc-le-suc}
use native.Mathlib.Omega.{arith}
use native.Mathlib.Decide.{ℕ_discrete, dec_lt}
use lib.ListN.{get_or}
use Rattle.theory.specs.Sets.{Is, Set, ◌⊆◌, any_below}
use Rattle.theory.specs.Least.{has, table_from, grow, least}
use Rattle.theory.proofs.SetLaws.{bool_cases, clash, and_intro, and_left, and_right, not_true, not_false, below_found, below_holds}

pub table_at : (i n j : ℕ) (f : Set) → j < n → get_or (table_from i n f) j false ≡ f (i + j)
unfolding table_from
table_at i zero j f h = absurd (not-suc-le-zero h)
table_at i (suc n) zero f h = ap f (omega arith)
table_at i (suc n) (suc j) f h = table_at (suc i) n j f (le_of_suc-le-suc h) ∙ ap f (omega arith)

pub table_past : (i n j : ℕ) (f : Set) → n ≤ j → get_or (table_from i n f) j false ≡ false
unfolding table_from
table_past i zero j f h = refl
table_past i (suc n) zero f h = absurd (not-suc-le-zero h)
table_past i (suc n) (suc j) f h = table_past (suc i) n j f (le_of_suc-le-suc h)

-- how many numbers below n are in the set
unfoldable pub one : Bool → ℕ
one true = 1
one false = 0

unfoldable pub count : ℕ → Set → ℕ
count zero s = 0
count (suc n) s = one (s n) + count n s

one_mono : (a b : Bool) → (Is a → Is b) → one a ≤ one b
unfolding one
one_mono false b h = zero-le
one_mono true true h = omega arith
one_mono true false h = clash (h refl) refl

pub count_le : (n : ℕ) (s : Set) → count n s ≤ n
unfolding count one
count_le zero s = zero-le
count_le (suc n) s = go (s n) (count_le n s)
  where
    go : (b : Bool) → count n s ≤ n → one b + count n s ≤ suc n
    go true h = omega arith
    go false h = omega arith

pub count_mono : (n : ℕ) (s t : Set) → ((v : ℕ) → v < n → Is (s v) → Is (t v)) → count n s ≤ count n t
unfolding count
count_mono zero s t h = zero-le
count_mono (suc n) s t h =
    let a = one_mono (s n) (t n) (h n (omega arith)) in
    let b = count_mono n s t (λ v l. h v (omega arith)) in
    omega arith

pub count_grows : (n : ℕ) (s t : Set) → ((v : ℕ) → v < n → Is (s v) → Is (t v)) → (w : ℕ) → w < n → s w ≡ false → Is (t w) → count n s < count n t
unfolding count one
count_grows zero s t h w l p q = absurd (not-suc-le-zero l)
count_grows (suc n) s t h w l p q = go (ℕ_discrete w n) (λ k. count_grows n s t (λ v m. h v (omega arith)) w k p q)
  where
    go : Dec (w ≡ n) → (w < n → count n s < count n t) → one (s n) + count n s < one (t n) + count n t
    go (yes e) rest =
        let b = count_mono n s t (λ v m. h v (omega arith)) in
        let x : one (s n) ≡ 0 = ap one (subst (λ (z : ℕ). s z ≡ false) e p) in
        let y : one (t n) ≡ 1 = ap one (subst (λ (z : ℕ). t z ≡ true) e q) in
        omega arith
    go (no e) rest =
        let a = one_mono (s n) (t n) (h n (omega arith)) in
        let b = rest (omega arith) in
        omega arith

-- a set that counts to n holds every number below n
pub count_full : (n : ℕ) (s : Set) → n ≤ count n s → (v : ℕ) → v < n → Is (s v)
unfolding count one
count_full n s h v l = go (bool_cases (s v))
  where
    go : (s v ≡ true) ⊎ (s v ≡ false) → Is (s v)
    go (inl p) = p
    go (inr p) =
        let a = count_grows n s (λ _. true) (λ _ _ _. refl) v l p refl in
        let b = count_le n (λ _. true) in
        absurd (omega arith)

-- ---- the iteration

module _ (B : ℕ) (F : Set → Set) where
  grow_in : (k v : ℕ) → Is (has (grow B F (suc k)) v) → (v < B) × Is (F (has (grow B F k)) v)
  unfolding grow has
  grow_in k v h = go (dec_lt v B)
    where
      go : Dec (v < B) → (v < B) × Is (F (has (grow B F k)) v)
      go (yes l) = (l, ap (F (has (grow B F k))) (omega arith) ∙ sym (table_at 0 B v (F (has (grow B F k))) l) ∙ h)
      go (no l) = clash h (table_past 0 B v (F (has (grow B F k))) (omega arith))

  grow_out : (k v : ℕ) → v < B → Is (F (has (grow B F k)) v) → Is (has (grow B F (suc k)) v)
  unfolding grow has
  grow_out k v l h = table_at 0 B v (F (has (grow B F k))) l ∙ ap (F (has (grow B F k))) (omega arith) ∙ h

  -- induction: what the step passes on from any set holds of every member
  grow_induct : (P : ℕ → Type 0) → ((s : Set) → ((v : ℕ) → Is (s v) → P v) → (v : ℕ) → v < B → Is (F s v) → P v) → (k v : ℕ) → Is (has (grow B F k) v) → P v
  unfolding grow has
  grow_induct P step zero v h = clash refl (sym h)
  grow_induct P step (suc k) v h =
      let r = grow_in k v h in
      step (has (grow B F k)) (grow_induct P step k) v r.0 r.1

  pub least_induct : (P : ℕ → Type 0) → ((s : Set) → ((v : ℕ) → Is (s v) → P v) → (v : ℕ) → v < B → Is (F s v) → P v) → (v : ℕ) → Is (has (least B F) v) → P v
  unfolding least
  least_induct P step v h = grow_induct P step B v h

  pub least_bound : (v : ℕ) → Is (has (least B F) v) → v < B
  least_bound v h = least_induct (λ w. w < B) (λ s ih w l p. l) v h

  module _ (mono : (s t : Set) → s ⊆ t → F s ⊆ F t) where
    -- the least among the closed sets
    pub least_least : (t : Set) → ((v : ℕ) → v < B → Is (F t v) → Is (t v)) → has (least B F) ⊆ t
    least_least t closed v h = least_induct (λ w. Is (t w)) (λ s ih w l p. closed w l (mono s t ih w p)) v h

    grow_up : (k : ℕ) → has (grow B F k) ⊆ has (grow B F (suc k))
    unfolding grow has
    grow_up zero v h = clash refl (sym h)
    grow_up (suc k) v h =
        let r = grow_in k v h in
        grow_out (suc k) v r.0 (mono (has (grow B F k)) (has (grow B F (suc k))) (grow_up k) v r.1)

    Still : ℕ → Type 0
    Still k = has (grow B F (suc k)) ⊆ has (grow B F k)

    still_suc : (k : ℕ) → Still k → Still (suc k)
    unfolding Still
    still_suc k h v p =
        let r = grow_in (suc k) v p in
        grow_out k v r.0 (mono (has (grow B F (suc k))) (has (grow B F k)) h v r.1)

    -- each round is the last, or adds a number
    progress : (k : ℕ) → Still k ⊎ (k ≤ count B (has (grow B F k)))
    unfolding Still
    progress zero = inr zero-le
    progress (suc k) = go (progress k) (bool_cases (any_below B fresh))
      where
        fresh : Set
        fresh v = not (has (grow B F k) v) && has (grow B F (suc k)) v

        go : Still k ⊎ (k ≤ count B (has (grow B F k))) → (any_below B fresh ≡ true) ⊎ (any_below B fresh ≡ false) → Still (suc k) ⊎ (suc k ≤ count B (has (grow B F (suc k))))
        go (inl s) c = inl (still_suc k s)
        go (inr n) (inl c) =
            let r = below_found B fresh c in
            let p = not_true (has (grow B F k) r.0) (and_left (not (has (grow B F k) r.0)) (has (grow B F (suc k)) r.0) r.2) in
            let q = and_right (not (has (grow B F k) r.0)) (has (grow B F (suc k)) r.0) r.2 in
            let m = count_grows B (has (grow B F k)) (has (grow B F (suc k))) (λ v _ h. grow_up k v h) r.0 r.1 p q in
            inr (omega arith)
        go (inr n) (inr c) = inl (still_suc k (λ v h. same v h (bool_cases (has (grow B F k) v))))
          where
            same : (v : ℕ) → Is (has (grow B F (suc k)) v) → (has (grow B F k) v ≡ true) ⊎ (has (grow B F k) v ≡ false) → Is (has (grow B F k) v)
            same v h (inl p) = p
            same v h (inr p) = clash (below_holds B fresh v (grow_in k v h).0 (and_intro (not_false (has (grow B F k) v) p) h)) c

    pub least_closed : (v : ℕ) → v < B → Is (F (has (least B F)) v) → Is (has (least B F) v)
    unfolding least Still
    least_closed v l h = go (progress B)
      where
        go : Still B ⊎ (B ≤ count B (has (grow B F B))) → Is (has (grow B F B) v)
        go (inl s) = s v (grow_out B v l h)
        go (inr n) = count_full B (has (grow B F B)) n v l
