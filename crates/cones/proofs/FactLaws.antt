-- The members of a set below a bound: the next number is one (`members_in`) or is none (`members_out`); sets that agree below it have the same (`members_agree`). The facts that a cone lists are the producers in
-- the set, and no others (`fact_mem`).
use mathlib.Core.Path.{◌≡◌, refl, sym, ap, subst}
use mathlib.Core.Logic.{◌⊎◌, inl, inr, ◌↔◌}
use mathlib.Core.Bool.{Bool, true, false, cond}
use mathlib.Core.List.Memᴰ
use mathlib.Core.List.{List, [], ◌∷◌, ◌++◌}
use Prim.Native.Nat.{ℕ, zero, suc, ◌+◌, ◌<◌}
use native.Mathlib.Nat.{not-suc-le-zero}
use native.Mathlib.Numerals.{add-one}
use native.Mathlib.Omega.{arith}
use native.Mathlib.Decide.{ℕ_discrete}
use Rattle.theory.specs.Sets.{Is, Set, Mem, members}
use Rattle.theory.specs.Theory.{Theory}
use Rattle.theory.proofs.SetLaws.{bool_cases, clash}
use Rattle.area.specs.declared.Bases.{Bases}
use Rattle.cones.specs.declared.Cone.{Cone}
use Rattle.cones.specs.Cones.{facts_of, Held}

pub members_in : (p : ℕ) (s : Set) → Is (s p) → members (p + 1) s ≡ members p s ++ (p ∷ [])
unfolding members
members_in p s h = rw add-one (ap (λ (t : Bool). cond t (members p s ++ (p ∷ [])) (members p s)) h)

pub members_out : (p : ℕ) (s : Set) → s p ≡ false → members (p + 1) s ≡ members p s
unfolding members
members_out p s h = rw add-one (ap (λ (t : Bool). cond t (members p s ++ (p ∷ [])) (members p s)) h)

-- sets that agree below the bound have the same members
pub members_agree : (n : ℕ) (s t : Set) → ((x : ℕ) → x < n → s x ≡ t x) → members n s ≡ members n t
unfolding members
members_agree zero s t h = refl
members_agree (suc n) s t h = rw (h n (omega arith), members_agree n s t (λ x l. h x (omega arith))) refl

-- a number below the bound is a member exactly if it is in the set
pub members_mem : (n : ℕ) (s : Set) (x : ℕ) → Mem x (members n s) ↔ ((x < n) × Is (s x))
unfolding members
members_mem zero s x = ((λ m. absurd (Memᴰ.not-nil m)), λ h. absurd (not-suc-le-zero h.0))
members_mem (suc n) s x = go (bool_cases (s n)) (members_mem n s x)
  where
    go : (s n ≡ true) ⊎ (s n ≡ false) → Mem x (members n s) ↔ ((x < n) × Is (s x)) → Mem x (cond (s n) (members n s ++ (n ∷ [])) (members n s)) ↔ ((x < suc n) × Is (s x))
    go (inl e) r = rw e ((λ m. to (Memᴰ.append_cases (members n s) m)), λ h. from h (ℕ_discrete x n))
      where
        to : Mem x (members n s) ⊎ Mem x (n ∷ []) → (x < suc n) × Is (s x)
        to (inl m) = let h = r.0 m in let l : x < n = h.0 in (omega arith, h.1)
        to (inr m) = let q = Memᴰ.eq_of_singleton m in (omega arith, subst (λ (z : ℕ). Is (s z)) (sym q) e)

        from : (x < suc n) × Is (s x) → Dec (x ≡ n) → Mem x (members n s ++ (n ∷ []))
        from h (yes q) = Memᴰ.append_right (members n s) (Memᴰ.head q)
        from h (no q) = let l : x < suc n = h.0 in Memᴰ.append_left (n ∷ []) (r.1 (omega arith, h.1))
    go (inr e) r = rw e ((λ m. let h = r.0 m in let l : x < n = h.0 in (omega arith, h.1)), λ h. from h (ℕ_discrete x n))
      where
        from : (x < suc n) × Is (s x) → Dec (x ≡ n) → Mem x (members n s)
        from h (yes q) = clash (subst (λ (z : ℕ). Is (s z)) q h.1) e
        from h (no q) = let l : x < suc n = h.0 in r.1 (omega arith, h.1)

pub fact_mem : {th : Theory} {s facts : Set} {b : Bases} {w : List ℕ} {c : Cone} → Held th s facts b w c → (p : ℕ) → Mem p (facts_of b w c.facts) ↔ ((p < th.producers) × Is (facts p))
fact_mem {th} {facts = facts} h p = rw h.lists (members_mem th.producers facts p)
