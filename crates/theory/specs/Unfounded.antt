-- Unfounded sets of cyclic atoms (document 01: unearned groups), field by field as in demand 3.
use Rattle.std.specs.Prelude.{◌≡◌, false, not, ◌&&◌, ℕ, suc, ◌<◌}
use Rattle.theory.specs.Sets.{Set, Is, Mem}
use Rattle.theory.specs.Walks.{Walk}
use Rattle.theory.specs.Theory.{Theory}
use Rattle.theory.specs.Edges.{preds, body_cone}
use Rattle.theory.specs.Truth.{truth}

-- the truth of an uncut Atom once every member of u is taken as false, and every other atom as true unless cut
unfoldable pub atom_truth_without : (u cut : Set) → Set
atom_truth_without u cut a = not (u a) && not (cut a)

-- on a closed walk along the edges of preparation
abbrev pub OnClosedWalk : Theory → ℕ → Type 0
OnClosedWalk th a = Walk (preds th (body_cone th)) a a

pub record Unfounded (th : Theory) (never atom_never : Set) (u : Set) : Type 0 where
  -- states
  pub atom : (a : ℕ) → Is (u a) → a < th.atoms
  -- not ruled out
  pub uncut : (a : ℕ) → Is (u a) → atom_never a ≡ false
  -- each on a closed chain of the rules as written
  pub closed : (a : ℕ) → Is (u a) → OnClosedWalk th a
  -- none stated as a fact
  pub no_fact : (a : ℕ) → Is (u a) → (p : ℕ) → p < th.producers → Mem a (th.heads p) → th.body p ≡ 0 → ⊥
  -- every rule that concludes a member has a condition that is false
  pub unmet : (a : ℕ) → Is (u a) → (p n : ℕ) → p < th.producers → Mem a (th.heads p) → th.body p ≡ suc n
      → truth th never (atom_truth_without u atom_never) n ≡ false
