-- What a worklist with a count a vertex keeps while it computes a closure, over lists and functions.
use Rattle.std.specs.Prelude.{◌≡◌, false, ◌⊎◌, ◌↔◌, List, ℕ, ◌+◌, ◌≤◌, ◌<◌, length}
use Rattle.theory.specs.Sets.{Is, Mem, member}
use Rattle.theory.specs.Counts.{count_in, occ, Distinct}
use Rattle.theory.specs.Closure.{Mode, dead, free, single, every, waiting, closure}

module _ (b : ℕ) (mode : ℕ → Mode) (pred : ℕ → List ℕ) where
  -- the counts and the first vertices: order has what is found at once, the last one first
  pub record Started (order : List ℕ) (count : ℕ → ℕ) : Type 0 where
    pub distinct : Distinct order
    pub low : (v : ℕ) → Mem v order → v < b
    pub dead_count : (v : ℕ) → v < b → mode v ≡ dead → count v ≡ 0
    pub free_count : (v : ℕ) → v < b → mode v ≡ free → count v ≡ 0
    pub single_count : (v : ℕ) → v < b → mode v ≡ single → count v ≡ 1
    pub every_count : (v : ℕ) → v < b → mode v ≡ every → count v ≡ length (pred v)
    pub first : (v : ℕ) → v < b → Mem v order ↔ ((count v ≡ 0) × (mode v ≡ dead → ⊥))

  -- a row of u that serves: whatever is in it lists u as a predecessor, and each vertex that waits is in it as often as it lists u. Entries to vertices that wait
  -- for nothing may be left out.
  pub record Serves (u : ℕ) (row : List ℕ) : Type 0 where
    pub leads : (v : ℕ) → Mem v row → (v < b) × Mem u (pred v)
    pub each : (v : ℕ) → v < b → Is (waiting (mode v)) → occ v row ≡ occ u (pred v)

  -- rows that serve, for every vertex that can be found
  abbrev pub Serving : (ℕ → List ℕ) → Type 0
  Serving row = (u : ℕ) → u < b → (mode u ≡ dead → ⊥) → Serves u (row u)

  -- order: the vertices found so far, the last one first. done: those of them whose rows have been begun. todo: what is left of the last such
  -- row, or of what is found at once and not in order yet. count v: what v still waits for.
  pub record Worklist (order done todo : List ℕ) (count : ℕ → ℕ) : Type 0 where
    pub distinct : Distinct order
    pub low : (v : ℕ) → Mem v order → v < b
    pub begun : (v : ℕ) → Mem v done → Mem v order
    pub sound : (v : ℕ) → Mem v order → Is (closure b mode pred v)
    pub ahead : (v : ℕ) → Mem v todo → (v < b) × ((waiting (mode v) ≡ false) ⊎ ((u : ℕ) × Mem u done × Mem u (pred v)))
    pub starts : (v : ℕ) → v < b → mode v ≡ free → Mem v order ⊎ Mem v todo
    pub once : (v : ℕ) → v < b → (mode v ≡ every → ⊥) → count v ≤ 1
    pub passed : (u v : ℕ) → v < b → mode v ≡ single → Mem u (pred v) → Mem u done → Mem v order ⊎ Mem v todo
    pub tally : (v : ℕ) → v < b → mode v ≡ every → count v + count_in (λ u. member u done) (pred v) ≡ length (pred v) + occ v todo
    pub idle : (v : ℕ) → v < b → mode v ≡ dead → count v ≡ 0
    pub found : (v : ℕ) → v < b → count v ≡ 0 → Mem v order ⊎ (mode v ≡ dead)
    pub spent : (v : ℕ) → Mem v order → count v ≡ 0
