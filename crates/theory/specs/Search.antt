-- What the two walks over a graph keep in marks and cursors, over lists and functions. The vertices are the numbers below b that are in the graph;
-- pred gives the predecessor lists. A vertex outside is marked 0, one that no walk has met 1, one that the first walk has met 2, and one that
-- the second has met 3.
use Rattle.std.specs.Prelude.{◌≡◌, ◌⊎◌, false, List, ◌∷◌, ◌++◌, ℕ, ◌<◌}
use Rattle.theory.specs.Sets.{Is, Set, Mem}
use Rattle.theory.specs.Counts.{Distinct}
use Rattle.theory.specs.Components.{Good, Descent, Sweep, Collect}

module _ (b : ℕ) (pred : ℕ → List ℕ) where
  -- an edge leads from a vertex of the graph below b to another
  pub record Within (graph : Set) : Type 0 where
    pub from : (u v : ℕ) → Mem u (pred v) → Is (graph u) × (u < b)
    pub to : (u v : ℕ) → Mem u (pred v) → Is (graph v) × (v < b)

  -- the first walk: the stack and the vertices finished, the last one first; rest v: the predecessors of v that are still to be looked at
  pub record Searching (graph : Set) (stack fin : List ℕ) (mark : ℕ → ℕ) (rest : ℕ → List ℕ) : Type 0 where
    pub descent : Descent pred (λ v w. Mem w (rest v)) stack fin
    pub stack_once : Distinct stack
    pub fin_once : Distinct fin
    pub apart : (v : ℕ) → Mem v stack → Mem v fin → ⊥
    pub low : (v : ℕ) → Mem v stack ⊎ Mem v fin → v < b
    pub inside : (v : ℕ) → Mem v stack ⊎ Mem v fin → Is (graph v)
    pub outside : (v : ℕ) → v < b → graph v ≡ false → mark v ≡ 0
    pub unmet : (v : ℕ) → v < b → Is (graph v) → (mark v ≡ 1) ⊎ (mark v ≡ 2)
    pub met : (v : ℕ) → v < b → mark v ≡ 2 → Mem v stack ⊎ Mem v fin
    pub marked : (v : ℕ) → Mem v stack ⊎ Mem v fin → mark v ≡ 2
    pub behind : (v x : ℕ) → Mem v stack → Mem x (rest v) → Mem x (pred v)

  -- what the first walk leaves: every vertex of the graph, in a finishing order
  pub record Ordered (graph : Set) (fin : List ℕ) : Type 0 where
    pub good : Good pred fin
    pub once : Distinct fin
    pub full : (v : ℕ) → v < b → Is (graph v) → Mem v fin
    pub only : (v : ℕ) → Mem v fin → Is (graph v) × (v < b)

  -- the second walk between two searches: left: the vertices that may still be a root; found: those of whole components
  pub record Swept (graph : Set) (left found : List ℕ) (mark : ℕ → ℕ) : Type 0 where
    pub sweep : Sweep pred (λ v. Mem v found) left
    pub once : Distinct found
    pub low : (v : ℕ) → Mem v found → v < b
    pub outside : (v : ℕ) → v < b → graph v ≡ false → mark v ≡ 0
    pub unmet : (v : ℕ) → v < b → Is (graph v) → (mark v ≡ 2) ⊎ (mark v ≡ 3)
    pub met : (v : ℕ) → v < b → mark v ≡ 3 → Mem v found
    pub marked : (v : ℕ) → Mem v found → mark v ≡ 3

  -- while the component of r is collected: members, those of them whose rows have been begun, and what is left of the last such row
  pub record Collecting (graph : Set) (r : ℕ) (earlier found members begun todo : List ℕ) (mark : ℕ → ℕ) : Type 0 where
    pub sweep : Sweep pred (λ v. Mem v found) (r ∷ earlier)
    pub collect : Collect pred (λ v. Mem v found) (λ x y. (Mem x begun → ⊥) ⊎ Mem y todo) r earlier members
    pub once : Distinct (members ++ found)
    pub low : (v : ℕ) → Mem v (members ++ found) → v < b
    pub started : (v : ℕ) → Mem v begun → Mem v members
    pub ahead : (y : ℕ) → Mem y todo → (y < b) × (Is (graph y) → (x : ℕ) × Mem x members × Mem x (pred y))
    pub outside : (v : ℕ) → v < b → graph v ≡ false → mark v ≡ 0
    pub unmet : (v : ℕ) → v < b → Is (graph v) → (mark v ≡ 2) ⊎ (mark v ≡ 3)
    pub met : (v : ℕ) → v < b → mark v ≡ 3 → Mem v (members ++ found)
    pub marked : (v : ℕ) → Mem v (members ++ found) → mark v ≡ 3
