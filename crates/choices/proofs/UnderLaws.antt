-- When an Atom is true under the pass (`atom_cases`, `atom_on`, `atom_off`), and truth passes from one set of cuts to another node by node (`Carries`, `fires_under`).
use mathlib.Core.Path.{◌≡◌, refl, subst}
use mathlib.Core.Logic.{◌⊎◌, inl, inr}
use mathlib.Core.Bool.{Bool, false, not, ◌&&◌}
use mathlib.Core.List.{List}
use Prim.Native.Nat.{ℕ, zero, suc, ◌<◌}
use native.Mathlib.Omega.{arith}
use Rattle.theory.specs.Sets.{Is, Set}
use Rattle.theory.specs.Theory.{Theory, WellFormed, Kind, False, Atom, And, Or, Opaque, Absorbed}
use Rattle.theory.specs.Truth.{holds, truth_in, truth, fires}
use Rattle.theory.specs.Founded.{atom_truth}
use Rattle.theory.proofs.SetLaws.{any_found, any_holds, all_at, all_holds, and_intro, and_left, and_right, or_cases, or_left, or_right, not_true, not_false}

-- ---- a true Atom

-- an Atom that is true under the pass: of a cyclic founded atom, or of one that is neither cyclic nor cut
pub atom_cases : (c cut s : Set) (a : ℕ) → Is (atom_truth c cut s a) → (Is (c a) × Is (s a)) ⊎ ((c a ≡ false) × (cut a ≡ false))
unfolding atom_truth
atom_cases c cut s a p = go (or_cases (c a && s a) (not (c a) && not (cut a)) p)
  where
    go : Is (c a && s a) ⊎ Is (not (c a) && not (cut a)) → (Is (c a) × Is (s a)) ⊎ ((c a ≡ false) × (cut a ≡ false))
    go (inl q) = inl (and_left (c a) (s a) q, and_right (c a) (s a) q)
    go (inr q) = inr (not_true (c a) (and_left (not (c a)) _ q), not_true (cut a) (and_right (not (c a)) _ q))

pub atom_on : (c cut s : Set) (a : ℕ) → Is (c a) → Is (s a) → Is (atom_truth c cut s a)
unfolding atom_truth
atom_on c cut s a p q = or_left (c a && s a) _ (and_intro p q)

pub atom_off : (c cut s : Set) (a : ℕ) → c a ≡ false → cut a ≡ false → Is (atom_truth c cut s a)
unfolding atom_truth
atom_off c cut s a p q = or_right (c a && s a) _ (and_intro (not_false (c a) p) (not_false (cut a) q))

-- ---- node by node

-- what is not cut, and as an Atom true, is so too under the other cuts
abbrev pub Carries : Theory → (never atom other atom_other : Set) → Type 0
Carries th never atom other atom_other =
    (n : ℕ) → n < th.nodes → never n ≡ false → (th.kind n ≡ Atom → Is (atom (th.operand n)))
    → (other n ≡ false) × (th.kind n ≡ Atom → Is (atom_other (th.operand n)))

holds_atom : (k : Kind) (v : Bool) (t : Set) (l : List ℕ) → Is (holds k v t l) → k ≡ Atom → Is v
unfolding holds
holds_atom k v t l p e = subst (λ (x : Kind). Is (holds x v t l)) e p

holds_under : (k : Kind) (v w : Bool) (s t : Set) (l : List ℕ) → (k ≡ Atom → Is w) → ((m : ℕ) → mathlib.Core.List.Memᴰ m l → Is (s m) → Is (t m)) → Is (holds k v s l) → Is (holds k w t l)
unfolding holds
holds_under False v w s t l h i p = p
holds_under Atom v w s t l h i p = h refl
holds_under And v w s t l h i p = all_holds t l (λ x m. i x m (all_at s p m))
holds_under Or v w s t l h i p = let r = any_found s l p in any_holds t r.1 (i r.0 r.1 r.2)
holds_under Opaque v w s t l h i p = p
holds_under Absorbed v w s t l h i p = p

module _ (th : Theory) (ok : WellFormed th) (never atom other atom_other : Set) (carries : Carries th never atom other atom_other) where
  truth_in_under : (k n : ℕ) → n < th.nodes → Is (truth_in th never atom k n) → Is (truth_in th other atom_other k n)
  unfolding truth_in
  truth_in_under zero n l p = p
  truth_in_under (suc k) n l p =
      let b = and_right (not (never n)) _ p in
      let r = carries n l (not_true (never n) (and_left (not (never n)) _ p)) (holds_atom (th.kind n) _ _ (th.leaves n) b) in
      and_intro (not_false (other n) r.0)
      (holds_under (th.kind n) _ _ _ _ (th.leaves n) r.1 (λ m i q. let h = ok.leaf_low n m l i in truth_in_under k m (omega arith) q) b)

  pub fires_under : (p : ℕ) → p < th.producers → Is (fires th never atom (th.body p)) → Is (fires th other atom_other (th.body p))
  unfolding fires truth
  fires_under p l f = go (th.body p) refl f
    where
      go : (k : ℕ) → th.body p ≡ k → Is (fires th never atom k) → Is (fires th other atom_other k)
      go zero e q = q
      go (suc n) e q = truth_in_under (suc n) n (ok.body_low p n l e) q
