-- Walks in a graph that is given by its predecessor lists: there is an edge from u to v for each entry u of `pred v`.
use Rattle.std.specs.Prelude.{Bool, ◌||◌, List, ℕ, eqb}
use Rattle.theory.specs.Sets.{Set, Mem, any}
use Rattle.theory.specs.Least.{least}

-- a walk along one or more edges; a closed walk (document 01: closed chain) is a walk from a vertex to itself
pub data Walk (pred : ℕ → List ℕ) (u : ℕ) : ℕ → Type 0 where
  edge : {v : ℕ} → Mem u (pred v) → Walk pred u v
  next : {w v : ℕ} → Walk pred u w → Mem w (pred v) → Walk pred u v

-- the vertices below a bound that a walk from u ends at, computed
unfoldable pub reach_step : (ℕ → List ℕ) → ℕ → Set → Set
reach_step pred u s v = any (λ w. eqb u w || s w) (pred v)

unfoldable pub reached : ℕ → (ℕ → List ℕ) → ℕ → List Bool
reached bound pred u = least bound (reach_step pred u)
