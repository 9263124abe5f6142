-- The greatest unfounded set of Van Gelder, Ross and Schlipf (1991), with cut atoms and cut nodes taken as false, and opaque nodes as true unless cut. Unlike `Unfounded`, a set of it may hold
-- cut atoms, and atoms on no closed walk.
use Rattle.std.specs.Prelude.{◌≡◌, false, ℕ, suc, ◌<◌}
use Rattle.theory.specs.Sets.{Set, Is, Mem}
use Rattle.theory.specs.Theory.{Theory}
use Rattle.theory.specs.Truth.{truth}
use Rattle.theory.specs.Unfounded.{atom_truth_without}

-- no producer gives a member unless the member is cut: none is a fact, and each body is false once all members are taken as false
pub record UnfoundedSet (th : Theory) (never atom_never : Set) (u : Set) : Type 0 where
  pub atom : (a : ℕ) → Is (u a) → a < th.atoms
  pub no_fact : (a : ℕ) → Is (u a) → atom_never a ≡ false → (p : ℕ) → p < th.producers → Mem a (th.heads p) → th.body p ≡ 0 → ⊥
  pub unmet : (a : ℕ) → Is (u a) → atom_never a ≡ false → (p n : ℕ) → p < th.producers → Mem a (th.heads p) → th.body p ≡ suc n
      → truth th never (atom_truth_without u atom_never) n ≡ false

-- the union of them all
abbrev pub Greatest : Theory → (never atom_never : Set) → ℕ → Type 0
Greatest th never atom_never a = (u : Set) × UnfoundedSet th never atom_never u × Is (u a)
