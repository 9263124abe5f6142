-- The loop test says yes exactly if preparation marks an atom (request 7; `loop_cyclic`): a closed walk passes an atom, since an edge between nodes goes up
-- (`walk_up`). Where 12 is given preparation has no answer; of the rules the law holds there too.
use mathlib.Core.Path.{◌≡◌, refl, sym, subst}
use mathlib.Core.Logic.{◌⊎◌, inl, inr, ◌↔◌}
use mathlib.Core.List.Memᴰ
use mathlib.Core.List.{List}
use Prim.Native.Nat.{ℕ, ◌+◌, ◌-◌, ◌≤◌, ◌<◌}
use native.Mathlib.Omega.{arith}
use native.Mathlib.Decide.{dec_lt}
use Rattle.theory.specs.Sets.{Is, everyone, Mem}
use Rattle.theory.specs.Walks.{Walk, edge, next}
use Rattle.theory.specs.Theory.{Theory, WellFormed, Kind, False, Atom, And, Or, Opaque, Absorbed}
use Rattle.theory.specs.Edges.{vertices, inputs, preds}
use Rattle.theory.specs.Founded.{has_cycle, cyclic}
use Rattle.theory.proofs.WalkLaws.{walk_cat}
use Rattle.theory.proofs.EdgeLaws.{preds_node, preds_low}
use Rattle.theory.proofs.CycleLaws.{has_cycle_walk}
use Rattle.theory.proofs.ClosedLaws.{cyclic_anywhere}

module _ (th : Theory) (ok : WellFormed th) where
  -- ---- an edge to a node comes from an atom or from a node below

  inputs_up : (n w : ℕ) → n < th.nodes → (k : Kind) → th.kind n ≡ k → Mem w (inputs th k n) → (w < th.atoms) ⊎ (w < th.atoms + n)
  unfolding inputs
  inputs_up n w l False e m = absurd (Memᴰ.not-nil m)
  inputs_up n w l Atom e m = inl (subst (λ (z : ℕ). z < th.atoms) (sym (Memᴰ.eq_of_singleton m)) (ok.operand_low n l e))
  inputs_up n w l And e m = let r = Memᴰ.of_map (λ m. th.atoms + m) (th.leaves n) m in let h = ok.leaf_low n r.0 l r.1 in let q = r.2 in inr (omega arith)
  inputs_up n w l Or e m = let r = Memᴰ.of_map (λ m. th.atoms + m) (th.leaves n) m in let h = ok.leaf_low n r.0 l r.1 in let q = r.2 in inr (omega arith)
  inputs_up n w l Opaque e m = absurd (Memᴰ.not-nil m)
  inputs_up n w l Absorbed e m = absurd (Memᴰ.not-nil m)

  edge_up : (v w : ℕ) → th.atoms ≤ v → Mem w (preds th everyone v) → (w < th.atoms) ⊎ (w < v)
  edge_up v w l m =
      let b = preds_low th everyone v w m in
      let e : th.atoms + (v - th.atoms) ≡ v = omega arith in
      let i = subst (λ (x : List ℕ). Mem w x) (preds_node th everyone (v - th.atoms) (omega arith) refl) (subst (λ (z : ℕ). Mem w (preds th everyone z)) (sym e) m) in
      subst (λ (z : ℕ). (w < th.atoms) ⊎ (w < z)) e (inputs_up (v - th.atoms) w (omega arith) (th.kind (v - th.atoms)) refl i)

  -- ---- a walk passes an atom, or goes up

  Passes : ℕ → ℕ → Type 0
  Passes u v = (a : ℕ) × (a < th.atoms) × ((a ≡ u) ⊎ Walk (preds th everyone) u a) × ((a ≡ v) ⊎ Walk (preds th everyone) a v)

  walk_up : {u v : ℕ} → Walk (preds th everyone) u v → Passes u v ⊎ (u < v)
  unfolding Passes
  walk_up {u} {v} (edge m) = go (dec_lt v th.atoms)
    where
      rise : (u < th.atoms) ⊎ (u < v) → Passes u v ⊎ (u < v)
      rise (inl l) = inl (u, l, inl refl, inr (edge m))
      rise (inr l) = inr l

      go : Dec (v < th.atoms) → Passes u v ⊎ (u < v)
      go (yes l) = inl (v, l, inr (edge m), inl refl)
      go (no l) = rise (edge_up v u (omega arith) m)
  walk_up {u} {v} (next {w = w} p m) = go (walk_up p) (dec_lt v th.atoms)
    where
      on : {a : ℕ} → (a ≡ w) ⊎ Walk (preds th everyone) a w → Walk (preds th everyone) a v
      on (inl e) = edge (Memᴰ.cast e m)
      on (inr q) = next q m

      rise : u < w → (w < th.atoms) ⊎ (w < v) → Passes u v ⊎ (u < v)
      rise k (inl l) = inl (w, l, inr p, inr (edge m))
      rise k (inr l) = inr (omega arith)

      go : Passes u w ⊎ (u < w) → Dec (v < th.atoms) → Passes u v ⊎ (u < v)
      go (inl q) d = inl (q.0, q.1, q.2, inr (on q.3))
      go (inr k) (yes l) = inl (v, l, inr (next p m), inl refl)
      go (inr k) (no l) = rise k (edge_up v w (omega arith) m)

  pub loop_cyclic : Is (has_cycle th) ↔ ((a : ℕ) × Is (cyclic th a))
  unfolding Passes vertices
  loop_cyclic = (there, back)
    where
      -- a closed walk, begun at an atom that it passes
      turn : (v a : ℕ) → Walk (preds th everyone) v v → (a ≡ v) ⊎ Walk (preds th everyone) v a → (a ≡ v) ⊎ Walk (preds th everyone) a v → Walk (preds th everyone) a a
      turn v a p (inl e) q = subst (λ (z : ℕ). Walk (preds th everyone) z z) (sym e) p
      turn v a p (inr r) (inl e) = subst (λ (z : ℕ). Walk (preds th everyone) z z) (sym e) p
      turn v a p (inr r) (inr q) = walk_cat q r

      found : (v : ℕ) → Walk (preds th everyone) v v → Passes v v ⊎ (v < v) → (a : ℕ) × Is (cyclic th a)
      found v p (inl q) = (q.0, (cyclic_anywhere th ok q.0).1 (q.1, turn v q.0 p q.2 q.3))
      found v p (inr l) = absurd (omega arith)

      there : Is (has_cycle th) → (a : ℕ) × Is (cyclic th a)
      there p = let r = (has_cycle_walk th).0 p in found r.0 r.2 (walk_up r.2)

      back : (a : ℕ) × Is (cyclic th a) → Is (has_cycle th)
      back r = let q = (cyclic_anywhere th ok r.0).0 r.1 in let l = q.0 in (has_cycle_walk th).1 (r.0, omega arith, q.1)
