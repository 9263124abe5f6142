-- Demand 3 on the rules: an atom is missing exactly if it is in some unfounded set (`missing_exactly`). The missing set is itself one
-- (`missing_unfounded`), every other lies inside it (`unfounded_missing`), and the union of two is one (`union_unfounded`). What this takes of the pass holds with any set of marked atoms
-- (`among_apart`, `among_below`).
use mathlib.Core.Path.{◌≡◌, refl}
use mathlib.Core.Logic.{◌⊎◌, inl, inr, ⊎_elim, ◌↔◌}
use mathlib.Core.Bool.{true, false, not, ◌&&◌, ◌||◌}
use Prim.Native.Nat.{ℕ, zero, suc, ◌<◌}
use Rattle.theory.specs.Sets.{Is, Set, ◌⊆◌, Mem}
use Rattle.theory.specs.Theory.{Theory}
use Rattle.theory.specs.Truth.{truth, fires}
use Rattle.theory.specs.Founded.{cyclic, atom_truth, founded_among, founded, missing}
use Rattle.theory.specs.Unfounded.{atom_truth_without, Unfounded}
use Rattle.theory.proofs.SetLaws.{is_false, bool_cases, clash, and_intro, and_left, and_right, or_cases, or_left, or_right, not_true, not_false}
use Rattle.theory.proofs.TruthLaws.{truth_mono, fires_mono}
use Rattle.theory.proofs.CycleLaws.{cyclic_walk}
use Rattle.theory.proofs.FoundedLaws.{DerivedAmong, among_induct, founded_closed, missing_parts}

-- a smaller set taken as false leaves more atoms true
without_mono : (u w cut : Set) → u ⊆ w → atom_truth_without w cut ⊆ atom_truth_without u cut
unfolding atom_truth_without
without_mono u w cut h a q =
    and_intro
    (not_false (u a) (is_false (u a) (λ z. clash (h a z) (not_true (w a) (and_left (not (w a)) (not (cut a)) q)))))
    (and_right (not (w a)) (not (cut a)) q)

-- ---- any set of marked atoms

module _ (th : Theory) (marked never atom_never u : Set) where
  -- no member of a set is founded if no producer gives it one, unless it is cut, once all members are taken as false
  pub among_apart : u ⊆ marked → ((a : ℕ) → Is (u a) → atom_never a ≡ false → (p : ℕ) → p < th.producers → Mem a (th.heads p) → th.body p ≡ 0 → ⊥)
      → ((a : ℕ) → Is (u a) → atom_never a ≡ false → (p n : ℕ) → p < th.producers → Mem a (th.heads p) → th.body p ≡ suc n → truth th never (atom_truth_without u atom_never) n ≡ false)
      → (a : ℕ) → Is (founded_among th marked never atom_never a) → (atom_never a ≡ false) × (u a ≡ false)
  unfolding atom_truth atom_truth_without fires
  among_apart inside no_fact unmet = among_induct th marked never atom_never (λ a. (atom_never a ≡ false) × (u a ≡ false)) pass
    where
      below : (s : Set) → ((b : ℕ) → Is (s b) → (atom_never b ≡ false) × (u b ≡ false)) → atom_truth marked atom_never s ⊆ atom_truth_without u atom_never
      below s ih b q = go (or_cases (marked b && s b) (not (marked b) && not (atom_never b)) q)
        where
          go : Is (marked b && s b) ⊎ Is (not (marked b) && not (atom_never b)) → Is (not (u b) && not (atom_never b))
          go (inl x) = let y = ih b (and_right (marked b) (s b) x) in and_intro (not_false (u b) y.1) (not_false (atom_never b) y.0)
          go (inr x) =
              let k = not_true (marked b) (and_left (not (marked b)) (not (atom_never b)) x) in
              and_intro (not_false (u b) (is_false (u b) (λ z. clash (inside b z) k))) (and_right (not (marked b)) (not (atom_never b)) x)

      refute : (a p : ℕ) → Is (u a) → atom_never a ≡ false → p < th.producers → Mem a (th.heads p) → (k : ℕ) → th.body p ≡ k → Is (fires th never (atom_truth_without u atom_never) k) → ⊥
      refute a p z c l m zero e f = no_fact a z c p l m e
      refute a p z c l m (suc n) e f = clash f (unmet a z c p n l m e)

      pass : (s : Set) → ((b : ℕ) → Is (s b) → (atom_never b ≡ false) × (u b ≡ false)) → (a : ℕ) → a < th.atoms → DerivedAmong th marked never atom_never s a → (atom_never a ≡ false) × (u a ≡ false)
      pass s ih a low d =
          (d.uncut, is_false (u a) (λ z. refute a d.by z d.uncut d.by_low d.head (th.body d.by) refl (fires_mono th never _ _ (below s ih) (th.body d.by) d.fired)))

  -- a set that has every marked atom which is neither cut nor founded leaves no Atom true that is not
  pub among_below : ((b : ℕ) → Is (marked b) → atom_never b ≡ false → founded_among th marked never atom_never b ≡ false → Is (u b))
      → atom_truth_without u atom_never ⊆ atom_truth marked atom_never (founded_among th marked never atom_never)
  unfolding atom_truth_without atom_truth
  among_below full b q = go (bool_cases (marked b)) (bool_cases (founded_among th marked never atom_never b))
    where
      c : Is (not (atom_never b))
      c = and_right (not (u b)) (not (atom_never b)) q

      go : (marked b ≡ true) ⊎ (marked b ≡ false) → (founded_among th marked never atom_never b ≡ true) ⊎ (founded_among th marked never atom_never b ≡ false)
          → Is (marked b && founded_among th marked never atom_never b || not (marked b) && not (atom_never b))
      go (inl m) (inl s) = or_left (marked b && founded_among th marked never atom_never b) _ (and_intro m s)
      go (inl m) (inr s) = clash (full b m (not_true (atom_never b) c) s) (not_true (u b) (and_left (not (u b)) (not (atom_never b)) q))
      go (inr m) s = or_right (marked b && founded_among th marked never atom_never b) _ (and_intro (not_false (marked b) m) c)

-- ---- the cyclic atoms

module _ (th : Theory) (never atom_never : Set) where
  -- no member of an unfounded set is founded
  founded_apart : (u : Set) → Unfounded th never atom_never u → (a : ℕ) → Is (founded th never atom_never a) → u a ≡ false
  unfolding founded
  founded_apart u U a p = (among_apart th (cyclic th) never atom_never u (λ b z. (cyclic_walk th b).1 (U.atom b z, U.closed b z)) (λ b z c. U.no_fact b z) (λ b z c. U.unmet b z) a p).1

  pub unfounded_missing : (u : Set) → Unfounded th never atom_never u → u ⊆ missing th never atom_never
  unfounded_missing u U a z =
      (missing_parts th never atom_never a).1
      ((cyclic_walk th a).1 (U.atom a z, U.closed a z), U.uncut a z, is_false (founded th never atom_never a) (λ p. clash z (founded_apart u U a p)))

  pub missing_unfounded : Unfounded th never atom_never (missing th never atom_never)
  unfolding fires founded
  missing_unfounded = record {
    atom = λ a z. ((cyclic_walk th a).0 (parts a z).0).0;
    uncut = λ a z. (parts a z).1;
    closed = λ a z. ((cyclic_walk th a).0 (parts a z).0).1;
    no_fact = λ a z p l m e. clash (founded_closed th never atom_never a p (parts a z).0 (parts a z).1 l m (rw e refl)) (parts a z).2;
    unmet = λ a z p n l m e. is_false _ (λ q. clash (founded_closed th never atom_never a p (parts a z).0 (parts a z).1 l m (rw e (truth_mono th never _ _ below n q))) (parts a z).2);
  }
    where
      parts : (a : ℕ) → Is (missing th never atom_never a) → Is (cyclic th a) × (atom_never a ≡ false) × (founded th never atom_never a ≡ false)
      parts a z = (missing_parts th never atom_never a).0 z

      below : atom_truth_without (missing th never atom_never) atom_never ⊆ atom_truth (cyclic th) atom_never (founded th never atom_never)
      below = among_below th (cyclic th) never atom_never (missing th never atom_never) (λ b m c s. (missing_parts th never atom_never b).1 (m, c, s))

  pub missing_exactly : (a : ℕ) → Is (missing th never atom_never a) ↔ ((u : Set) × Unfounded th never atom_never u × Is (u a))
  missing_exactly a = (λ z. (missing th never atom_never, missing_unfounded, z), λ q. unfounded_missing q.0 q.1 a q.2)

  pub union_unfounded : (u w : Set) → Unfounded th never atom_never u → Unfounded th never atom_never w → Unfounded th never atom_never (λ a. u a || w a)
  union_unfounded u w U W = record {
    atom = λ a z. ⊎_elim (U.atom a) (W.atom a) (or_cases (u a) (w a) z);
    uncut = λ a z. ⊎_elim (U.uncut a) (W.uncut a) (or_cases (u a) (w a) z);
    closed = λ a z. ⊎_elim (U.closed a) (W.closed a) (or_cases (u a) (w a) z);
    no_fact = λ a z. ⊎_elim (U.no_fact a) (W.no_fact a) (or_cases (u a) (w a) z);
    unmet = λ a z p n l m e. is_false _ (λ t. ⊎_elim (λ i. clash (left n t) (U.unmet a i p n l m e)) (λ i. clash (right n t) (W.unmet a i p n l m e)) (or_cases (u a) (w a) z));
  }
    where
      left : truth th never (atom_truth_without (λ a. u a || w a) atom_never) ⊆ truth th never (atom_truth_without u atom_never)
      left = truth_mono th never _ _ (without_mono u (λ a. u a || w a) atom_never (λ a z. or_left (u a) (w a) z))

      right : truth th never (atom_truth_without (λ a. u a || w a) atom_never) ⊆ truth th never (atom_truth_without w atom_never)
      right = truth_mono th never _ _ (without_mono w (λ a. u a || w a) atom_never (λ a z. or_right (u a) (w a) z))
