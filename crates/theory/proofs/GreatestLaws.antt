-- Request 6's list is exactly the uncut part of the greatest unfounded set of Van Gelder, Ross and Schlipf (`listed_exactly`), which is the atoms that are not founded (`greatest_exactly`) and itself such a
-- set (`greatest_unfounded`). Each atom on the old list is on this one (`missing_listed`).
use mathlib.Core.Path.{◌≡◌, refl}
use mathlib.Core.Logic.{◌↔◌}
use mathlib.Core.Bool.{false, not, ◌&&◌}
use Prim.Native.Nat.{ℕ, ◌<◌}
use Rattle.theory.specs.Sets.{Is, Set, ◌⊆◌, Mem}
use Rattle.theory.specs.Theory.{Theory}
use Rattle.theory.specs.Truth.{fires}
use Rattle.theory.specs.Founded.{atom_truth, founded_among, missing}
use Rattle.theory.specs.Unfounded.{atom_truth_without}
use Rattle.theory.specs.EveryAtom.{every_atom, founded_all, missing_all}
use Rattle.theory.specs.Greatest.{UnfoundedSet, Greatest}
use Rattle.theory.proofs.SetLaws.{is_false, clash, and_intro, and_left, and_right, not_true, not_false}
use Rattle.theory.proofs.TruthLaws.{truth_mono}
use Rattle.theory.proofs.FoundedLaws.{among_closed}
use Rattle.theory.proofs.UnfoundedLaws.{among_apart, among_below, missing_unfounded}
use Rattle.theory.proofs.EveryAtomLaws.{every, all_parts}

module _ (th : Theory) (never atom_never : Set) where
  -- no member of an unfounded set is founded
  founded_outside : (u : Set) → UnfoundedSet th never atom_never u → (a : ℕ) → Is (founded_all th never atom_never a) → u a ≡ false
  unfolding founded_all
  founded_outside u U a p = (among_apart th (every_atom th) never atom_never u (λ b z. (every th b).1 (U.atom b z)) U.no_fact U.unmet a p).1

  -- the atoms that are not founded
  abbrev pub unfounded_atoms : Set
  unfounded_atoms a = every_atom th a && not (founded_all th never atom_never a)

  pub greatest_unfounded : UnfoundedSet th never atom_never unfounded_atoms
  unfolding founded_all fires
  greatest_unfounded = record {
    atom = λ a z. (every th a).0 (and_left (every_atom th a) _ z);
    no_fact = λ a z c p l m e. clash (closed a z c p l m (rw e refl)) (out a z);
    unmet = λ a z c p n l m e. is_false _ (λ q. clash (closed a z c p l m (rw e (truth_mono th never _ _ below n q))) (out a z));
  }
    where
      out : (a : ℕ) → Is (unfounded_atoms a) → founded_among th (every_atom th) never atom_never a ≡ false
      out a z = not_true _ (and_right (every_atom th a) _ z)

      closed : (a : ℕ) → Is (unfounded_atoms a) → atom_never a ≡ false → (p : ℕ) → p < th.producers → Mem a (th.heads p)
          → Is (fires th never (atom_truth (every_atom th) atom_never (founded_among th (every_atom th) never atom_never)) (th.body p)) → Is (founded_among th (every_atom th) never atom_never a)
      closed a z c p l m f = among_closed th (every_atom th) never atom_never a p ((every th a).0 (and_left (every_atom th a) _ z)) (and_left (every_atom th a) _ z) c l m f

      below : atom_truth_without unfounded_atoms atom_never ⊆ atom_truth (every_atom th) atom_never (founded_among th (every_atom th) never atom_never)
      below = among_below th (every_atom th) never atom_never unfounded_atoms (λ b m c s. and_intro m (not_false _ s))

  pub greatest_exactly : (a : ℕ) → Greatest th never atom_never a ↔ ((a < th.atoms) × (founded_all th never atom_never a ≡ false))
  greatest_exactly a = (
    λ (u, U, z). (U.atom a z, is_false (founded_all th never atom_never a) (λ p. clash z (founded_outside u U a p))),
    λ q. (unfounded_atoms, greatest_unfounded, and_intro ((every th a).1 q.0) (not_false (founded_all th never atom_never a) q.1)),
  )

  pub listed_exactly : (a : ℕ) → Is (missing_all th never atom_never a) ↔ ((atom_never a ≡ false) × Greatest th never atom_never a)
  listed_exactly a = (
    λ p. let r = (all_parts th never atom_never a).0 p in (r.1, (greatest_exactly a).1 (r.0, r.2)),
    λ q. let r = (greatest_exactly a).0 q.1 in (all_parts th never atom_never a).1 (r.0, q.0, r.1),
  )

  pub missing_listed : missing th never atom_never ⊆ missing_all th never atom_never
  missing_listed a z =
      let U = missing_unfounded th never atom_never in
      (listed_exactly a).1 (U.uncut a z, (missing th never atom_never, record { atom = U.atom; no_fact = λ b y c. U.no_fact b y; unmet = λ b y c. U.unmet b y }, z))
