-- The list of the undecided atoms, number by number (`listed_none` .. `listed_skip`), and counts that are added: none yet (`added_none`), an atom more (`counted`), one list of counts
-- after another (`added_twice`), and what that makes of the whole output (`at_three`, `added_low`).
use mathlib.Core.Path.{◌≡◌, refl, sym, ap, ◌∙◌}
use mathlib.Core.Logic.{◌⊎◌, inl, inr}
use mathlib.Core.Bool.{Bool, true, false, cond}
use mathlib.Core.List.{List, [], ◌∷◌, ◌++◌}
use Prim.Native.Nat.{ℕ, zero, suc, ◌+◌, ◌*◌, ◌/◌, ◌%◌, ◌≤◌, ◌<◌}
use native.Mathlib.Nat.{not-suc-le-zero}
use native.Mathlib.Numerals.{add-one}
use native.Mathlib.Decide.{ℕ_discrete, dec_lt}
use native.Mathlib.Omega.{arith}
use lib.ListN.{length, get_or, set, length-append, length-set}
use lib.Seq.{take-suc-set, get_or-set_same, get_or-set_other}
use Rattle.theory.specs.Sets.{Set, Is, members}
use Rattle.theory.proofs.SetLaws.{clash}
use Rattle.tally.specs.Counting.{Listed, Added, ChoiceAdded}

-- ---- the list

module _ (s : Set) (n : ℕ) where
  members_on : s n ≡ true → members (n + 1) s ≡ members n s ++ (n ∷ [])
  unfolding members
  members_on t = rw (add-one n, t) refl

  members_off : s n ≡ false → members (n + 1) s ≡ members n s
  unfolding members
  members_off f = rw (add-one n, f) refl

pub listed_none : (s : Set) (list : List ℕ) → length list ≡ 12 → Listed s list 0 0
unfolding members
listed_none s list e = record { size = e; count = refl; few = omega arith; listed = λ _. refl }

module _ {s : Set} {list : List ℕ} {n k : ℕ} (l : Listed s list n k) where
  more : s n ≡ true → k + 1 ≡ length (members (n + 1) s)
  more t = let e = l.count in rw (members_on s n t) (simp length-append (omega arith))

  pub listed_put : s n ≡ true → k < 12 → Listed s (set list k n) (n + 1) (k + 1)
  listed_put t h = record {
    size = length-set list k n ∙ l.size;
    count = more t;
    few = let f = l.few in omega arith;
    listed = λ _. rw (add-one k, members_on s n t) (take-suc-set list k n (let z = l.size in omega arith) ∙ ap (λ (x : List ℕ). x ++ (n ∷ [])) (l.listed (omega arith)));
  }

  pub listed_many : s n ≡ true → 12 ≤ k → Listed s list (n + 1) (k + 1)
  listed_many t h = record { size = l.size; count = more t; few = let f = l.few in omega arith; listed = λ q. absurd (omega arith) }

  pub listed_skip : s n ≡ false → Listed s list (n + 1) k
  listed_skip f = record { size = l.size; count = rw (members_off s n f) l.count; few = let g = l.few in omega arith; listed = λ q. rw (members_off s n f) (l.listed q) }

-- ---- counts

pub added_none : {f g h : ℕ → ℕ} {out : List ℕ} → Added f g h out out 0
added_none = record {
  size = refl;
  first = λ a l. absurd (not-suc-le-zero l);
  second = λ a l. absurd (not-suc-le-zero l);
  third = λ a l. absurd (not-suc-le-zero l);
  rest = λ i l. refl;
}

-- an atom more: its three counts, all others as they were
added_next : {f g h : ℕ → ℕ} {out o o' : List ℕ} {n : ℕ} → Added f g h out o n → length o' ≡ length o
    → get_or o' (3 * n) 0 ≡ get_or o (3 * n) 0 + f n → get_or o' (3 * n + 1) 0 ≡ get_or o (3 * n + 1) 0 + g n → get_or o' (3 * n + 2) 0 ≡ get_or o (3 * n + 2) 0 + h n
    → ((i : ℕ) → (i < 3 * n) ⊎ (3 * n + 3 ≤ i) → get_or o' i 0 ≡ get_or o i 0) → Added f g h out o' (n + 1)
added_next {f} {g} {h} {out} {o} {o'} {n} r size p q s same = record {
  size = size ∙ r.size;
  first = λ a l. go₁ a l (ℕ_discrete a n);
  second = λ a l. go₂ a l (ℕ_discrete a n);
  third = λ a l. go₃ a l (ℕ_discrete a n);
  rest = λ i l. same i (inr (omega arith)) ∙ r.rest i (omega arith);
}
  where
    go₁ : (a : ℕ) → a < n + 1 → Dec (a ≡ n) → get_or o' (3 * a) 0 ≡ get_or out (3 * a) 0 + f a
    go₁ a l (yes e) = rw e (p ∙ ap (λ (x : ℕ). x + f n) (r.rest (3 * n) (omega arith)))
    go₁ a l (no e) = same (3 * a) (inl (omega arith)) ∙ r.first a (omega arith)

    go₂ : (a : ℕ) → a < n + 1 → Dec (a ≡ n) → get_or o' (3 * a + 1) 0 ≡ get_or out (3 * a + 1) 0 + g a
    go₂ a l (yes e) = rw e (q ∙ ap (λ (x : ℕ). x + g n) (r.rest (3 * n + 1) (omega arith)))
    go₂ a l (no e) = same (3 * a + 1) (inl (omega arith)) ∙ r.second a (omega arith)

    go₃ : (a : ℕ) → a < n + 1 → Dec (a ≡ n) → get_or o' (3 * a + 2) 0 ≡ get_or out (3 * a + 2) 0 + h a
    go₃ a l (yes e) = rw e (s ∙ ap (λ (x : ℕ). x + h n) (r.rest (3 * n + 2) (omega arith)))
    go₃ a l (no e) = same (3 * a + 2) (inl (omega arith)) ∙ r.third a (omega arith)

-- one step on at the count of what became of the atom
pub counted : (missing cut : Set) {out o : List ℕ} {n which x : ℕ} → ChoiceAdded missing cut out o n → which ≡ cond (missing n) 0 (cond (cut n) 1 2) → (Is (missing n) → cut n ≡ false) → 3 * n + 2 < length o
    → x ≡ get_or o (3 * n + which) 0 + 1 → ChoiceAdded missing cut out (set o (3 * n + which) x) (n + 1)
counted missing cut {out} {o} {n} {which} {x} r e apart low ex = go (missing n) refl (cut n) refl
  where
    here : (k : ℕ) → which ≡ k → k ≤ 2 → get_or (set o (3 * n + which) x) (3 * n + k) 0 ≡ get_or o (3 * n + k) 0 + 1
    here k q l = rw q (get_or-set_same o (3 * n + k) x 0 (omega arith) ∙ (rw q at ex))

    other : (k i : ℕ) → which ≡ k → (i ≡ 3 * n + k → ⊥) → get_or (set o (3 * n + which) x) i 0 ≡ get_or o i 0
    other k i q u = rw q (get_or-set_other o (3 * n + k) i x 0 u)

    away : (k : ℕ) → which ≡ k → k ≤ 2 → (i : ℕ) → (i < 3 * n) ⊎ (3 * n + 3 ≤ i) → get_or (set o (3 * n + which) x) i 0 ≡ get_or o i 0
    away k q l i (inl h) = other k i q (λ z. omega arith)
    away k q l i (inr h) = other k i q (λ z. omega arith)

    none : (i : ℕ) → get_or o i 0 ≡ get_or o i 0 + 0
    none i = omega arith

    go : (m : Bool) → missing n ≡ m → (c : Bool) → cut n ≡ c → ChoiceAdded missing cut out (set o (3 * n + which) x) (n + 1)
    go true p true q = clash q (apart p)
    go true p false q =
        let w : which ≡ 0 = e ∙ rw p refl in
        let z : 3 * n + 0 ≡ 3 * n = omega arith in
        added_next r (length-set o (3 * n + which) x) (rw p (sym (ap (λ (i : ℕ). get_or (set o (3 * n + which) x) i 0) z) ∙ here 0 w (omega arith) ∙ ap (λ (i : ℕ). get_or o i 0 + 1) z)) (rw q (other 0 (3 * n + 1) w (λ y. omega arith) ∙ none (3 * n + 1))) (rw p (other 0 (3 * n + 2) w (λ y. omega arith) ∙ none (3 * n + 2)))
        (away 0 w (omega arith))
    go false p true q =
        let w : which ≡ 1 = e ∙ rw (p, q) refl in
        added_next r (length-set o (3 * n + which) x) (rw p (other 1 (3 * n) w (λ y. omega arith) ∙ none (3 * n))) (rw q (here 1 w (omega arith))) (rw (p, q) (other 1 (3 * n + 2) w (λ y. omega arith) ∙ none (3 * n + 2)))
        (away 1 w (omega arith))
    go false p false q =
        let w : which ≡ 2 = e ∙ rw (p, q) refl in
        added_next r (length-set o (3 * n + which) x) (rw p (other 2 (3 * n) w (λ y. omega arith) ∙ none (3 * n))) (rw q (other 2 (3 * n + 1) w (λ y. omega arith) ∙ none (3 * n + 1))) (rw (p, q) (here 2 w (omega arith)))
        (away 2 w (omega arith))

-- the same counts by another name
pub added_same : {f g h f' g' h' : ℕ → ℕ} {out o : List ℕ} {n m : ℕ} → n ≡ m → ((a : ℕ) → a < n → f a ≡ f' a) → ((a : ℕ) → a < n → g a ≡ g' a) → ((a : ℕ) → a < n → h a ≡ h' a) → Added f g h out o n → Added f' g' h' out o m
added_same {out = out} e p q s r = record {
  size = r.size;
  first = λ a l. r.first a (omega arith) ∙ ap (λ (x : ℕ). get_or out (3 * a) 0 + x) (p a (omega arith));
  second = λ a l. r.second a (omega arith) ∙ ap (λ (x : ℕ). get_or out (3 * a + 1) 0 + x) (q a (omega arith));
  third = λ a l. r.third a (omega arith) ∙ ap (λ (x : ℕ). get_or out (3 * a + 2) 0 + x) (s a (omega arith));
  rest = λ i l. r.rest i (omega arith);
}

-- one after the other
pub added_twice : {f g h f₁ g₁ h₁ f₂ g₂ h₂ : ℕ → ℕ} {out o₁ o₂ : List ℕ} {n : ℕ} → ((a : ℕ) → f a ≡ f₁ a + f₂ a) → ((a : ℕ) → g a ≡ g₁ a + g₂ a) → ((a : ℕ) → h a ≡ h₁ a + h₂ a)
    → Added f₁ g₁ h₁ out o₁ n → Added f₂ g₂ h₂ o₁ o₂ n → Added f g h out o₂ n
added_twice p q s r t = record {
  size = t.size ∙ r.size;
  first = λ a l. let x = r.first a l in let y = t.first a l in let z = p a in omega arith;
  second = λ a l. let x = r.second a l in let y = t.second a l in let z = q a in omega arith;
  third = λ a l. let x = r.third a l in let y = t.third a l in let z = s a in omega arith;
  rest = λ i l. t.rest i l ∙ r.rest i l;
}

-- what holds of three entries an atom holds of all
pub at_three : (P : ℕ → Type 0) (n : ℕ) → ((a : ℕ) → a < n → P (3 * a) × P (3 * a + 1) × P (3 * a + 2)) → (i : ℕ) → i < 3 * n → P i
at_three P n each i l = go (i % 3) refl (each (i / 3) (omega arith))
  where
    go : (r : ℕ) → i % 3 ≡ r → P (3 * (i / 3)) × P (3 * (i / 3) + 1) × P (3 * (i / 3) + 2) → P i
    go zero e p = let q : i ≡ 3 * (i / 3) = omega arith in rw q p.0
    go (suc zero) e p = let q : i ≡ 3 * (i / 3) + 1 = omega arith in rw q p.1
    go (suc (suc zero)) e p = let q : i ≡ 3 * (i / 3) + 2 = omega arith in rw q p.2
    go (suc (suc (suc r))) e p = absurd (omega arith)

-- no count grows by more than k
pub added_low : {f g h : ℕ → ℕ} {out o : List ℕ} {n k : ℕ} → ((a : ℕ) → (f a ≤ k) × (g a ≤ k) × (h a ≤ k)) → Added f g h out o n → (i : ℕ) → get_or o i 0 ≤ get_or out i 0 + k
added_low {f} {g} {h} {out} {o} {n} {k} few r i = go (dec_lt i (3 * n))
  where
    go : Dec (i < 3 * n) → get_or o i 0 ≤ get_or out i 0 + k
    go (yes l) = at_three (λ j. get_or o j 0 ≤ get_or out j 0 + k) n (λ a m. let b = few a in let x = r.first a m in let y = r.second a m in let z = r.third a m in (omega arith, omega arith, omega arith)) i l
    go (no l) = let e = r.rest i (omega arith) in omega arith
