-- What the start of a worklist keeps while its first vertices are found one after the other, over lists and functions. The start ends
-- with `Started` of specs/Worklist.
use Rattle.std.specs.Prelude.{◌≡◌, ◌⊎◌, ◌↔◌, not, ◌&&◌, cond, List, ℕ, ◌<◌, length}
use Rattle.theory.specs.Sets.{Set, Mem}
use Rattle.theory.specs.Counts.{Distinct}
use Rattle.theory.specs.Closure.{Mode, dead, free, single, every}

-- how many entries a vertex waits for, of the n that lead to it
unfoldable pub waits : Mode → ℕ → ℕ
waits dead n = 0
waits free n = 0
waits single n = 1
waits every n = n

-- how many it waits for before the facts and the nodes are looked at: an atom that is cyclic and not cut for one, every other vertex for nothing
unfoldable pub first_count : (cyclic cut : Set) → ℕ → ℕ
first_count cyclic cut v = cond (cyclic v && not (cut v)) 1 0

module _ (b : ℕ) (mode : ℕ → Mode) (pred : ℕ → List ℕ) where
  -- v waits for what it should, and is found if that is nothing
  pub record Settled (order : List ℕ) (count : ℕ → ℕ) (v : ℕ) : Type 0 where
    pub waiting : count v ≡ waits (mode v) (length (pred v))
    pub first : Mem v order ↔ ((count v ≡ 0) × (mode v ≡ dead → ⊥))

  -- settled, or a node that is still to be started, or a head of a fact that is still to be met, and waits for one until then
  abbrev pub Due : (heads nodes order : List ℕ) (count : ℕ → ℕ) → ℕ → Type 0
  Due heads nodes order count v = (Settled order count v ⊎ Mem v nodes) ⊎ (Mem v heads × (mode v ≡ free) × (count v ≡ 1) × (Mem v order → ⊥))

  -- heads: what is left of the heads of facts, repeats kept. nodes: the nodes, as vertices, that are still to be started, each of them once.
  pub record Starting (heads nodes order : List ℕ) (count : ℕ → ℕ) : Type 0 where
    pub distinct : Distinct order
    pub low : (v : ℕ) → Mem v order → v < b
    pub named : (v : ℕ) → Mem v heads → (v < b) × (waits (mode v) (length (pred v)) ≡ 0)
    pub once : Distinct nodes
    pub new : (v : ℕ) → Mem v nodes → (v < b) × (count v ≡ 0) × (Mem v order → ⊥)
    pub each : (v : ℕ) → v < b → Due heads nodes order count v
