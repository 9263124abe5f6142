-- Walks: one after the other is a walk, and `reached` computes where the walks from a vertex end.
use mathlib.Core.Path.{refl}
use mathlib.Core.Logic.{◌⊎◌, inl, inr}
use mathlib.Core.Bool.{◌||◌}
use mathlib.Core.List.Memᴰ
use mathlib.Core.List.{List}
use Prim.Native.Nat.{ℕ, ◌<◌}
use lib.Dec.{eqb}
use Rattle.theory.specs.Sets.{Is, Set, ◌⊆◌, Mem}
use Rattle.theory.specs.Least.{has, least}
use Rattle.theory.specs.Walks.{Walk, edge, next, reach_step, reached}
use Rattle.theory.proofs.SetLaws.{any_found, any_holds, or_cases, or_left, or_right, eq_is, is_eq}
use Rattle.theory.proofs.LeastLaws.{least_induct, least_closed}

pub walk_cat : {pred : ℕ → List ℕ} {u v w : ℕ} → Walk pred u v → Walk pred v w → Walk pred u w
walk_cat p (edge m) = next p m
walk_cat p (next q m) = next (walk_cat p q) m

module _ (b : ℕ) (pred : ℕ → List ℕ) (u : ℕ) where
  step_mono : (s t : Set) → s ⊆ t → reach_step pred u s ⊆ reach_step pred u t
  unfolding reach_step
  step_mono s t h v p =
      let r = any_found (λ w. eqb u w || s w) (pred v) p in
      any_holds (λ w. eqb u w || t w) r.1 (go r.0 (or_cases (eqb u r.0) (s r.0) r.2))
    where
      go : (w : ℕ) → Is (eqb u w) ⊎ Is (s w) → Is (eqb u w || t w)
      go w (inl q) = or_left (eqb u w) (t w) q
      go w (inr q) = or_right (eqb u w) (t w) (h w q)

  pub reached_walk : (v : ℕ) → Is (has (reached b pred u) v) → Walk pred u v
  unfolding reached reach_step
  reached_walk v h = least_induct b (reach_step pred u) (Walk pred u) step v h
    where
      go : (s : Set) → ((w : ℕ) → Is (s w) → Walk pred u w) → (v w : ℕ) → Mem w (pred v) → Is (eqb u w) ⊎ Is (s w) → Walk pred u v
      go s ih v w m (inl q) = edge (Memᴰ.cast (eq_is u w q) m)
      go s ih v w m (inr q) = next (ih w q) m

      step : (s : Set) → ((w : ℕ) → Is (s w) → Walk pred u w) → (v : ℕ) → v < b → Is (reach_step pred u s v) → Walk pred u v
      step s ih v l p =
          let r = any_found (λ w. eqb u w || s w) (pred v) p in
          go s ih v r.0 r.1 (or_cases (eqb u r.0) (s r.0) r.2)

  pub walk_reached : ((v w : ℕ) → Mem w (pred v) → v < b) → {v : ℕ} → Walk pred u v → Is (has (reached b pred u) v)
  unfolding reached reach_step
  walk_reached low {v} (edge m) =
      least_closed b (reach_step pred u) step_mono v (low v u m)
      (any_holds (λ w. eqb u w || has (least b (reach_step pred u)) w) m (or_left (eqb u u) (has (least b (reach_step pred u)) u) (is_eq u u refl)))
  walk_reached low {v} (next {w = w} p m) =
      least_closed b (reach_step pred u) step_mono v (low v w m)
      (any_holds (λ w. eqb u w || has (least b (reach_step pred u)) w) m (or_right (eqb u w) (has (least b (reach_step pred u)) w) (walk_reached low p)))
