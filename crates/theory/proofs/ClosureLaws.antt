-- The closure is closed under its rules (`closure_closed`), and what they pass on holds of its members (`closure_induct`).
use Prim.Native.Nat.{ℕ, ◌<◌}
use mathlib.Core.List.{List}
use Rattle.theory.specs.Sets.{Is, Set, ◌⊆◌}
use Rattle.theory.specs.Closure.{Mode, dead, free, single, every, fired, close_step, closure}
use Rattle.theory.proofs.SetLaws.{any_found, any_holds, all_at, all_holds}
use Rattle.theory.proofs.LeastLaws.{least_induct, least_closed}

fired_mono : (m : Mode) (s t : Set) (l : List ℕ) → s ⊆ t → Is (fired m s l) → Is (fired m t l)
unfolding fired
fired_mono dead s t l h p = p
fired_mono free s t l h p = p
fired_mono single s t l h p = let r = any_found s l p in any_holds t r.1 (h r.0 r.2)
fired_mono every s t l h p = all_holds t l (λ x m. h x (all_at s p m))

module _ (b : ℕ) (mode : ℕ → Mode) (pred : ℕ → List ℕ) where
  step_mono : (s t : Set) → s ⊆ t → close_step b mode pred s ⊆ close_step b mode pred t
  unfolding close_step
  step_mono s t h v p = fired_mono (mode v) s t (pred v) h p

  pub closure_closed : (v : ℕ) → v < b → Is (fired (mode v) (closure b mode pred) (pred v)) → Is (closure b mode pred v)
  unfolding closure close_step
  closure_closed v l p = least_closed b (close_step b mode pred) step_mono v l p

  pub closure_induct : (P : ℕ → Type 0) → ((s : Set) → ((v : ℕ) → Is (s v) → P v) → (v : ℕ) → v < b → Is (fired (mode v) s (pred v)) → P v) → (v : ℕ) → Is (closure b mode pred v) → P v
  unfolding closure close_step
  closure_induct P step v p = least_induct b (close_step b mode pred) P step v p
