-- What the two walks of Sharir (1981) keep, over predecessor lists. The first walk goes from a vertex to its predecessors, with a stack, and lists
-- the vertices as they are finished; the second goes along the edges, from the vertex finished last on, and collects a component each time.
use Rattle.std.specs.Prelude.{◌≡◌, ◌⊎◌, List, [], ◌∷◌, ℕ}
use Rattle.theory.specs.Sets.{Mem}
use Rattle.theory.specs.Counts.{Distinct}

module _ (pred : ℕ → List ℕ) where
  -- a walk along no edge or more
  pub data Star (u : ℕ) : ℕ → Type 0 where
    here : {v : ℕ} → u ≡ v → Star u v
    on : {w v : ℕ} → Star u w → Mem w (pred v) → Star u v

  -- a walk along one edge or more, all of whose vertices but the first lie in S
  pub data Via (S : List ℕ) (z : ℕ) : ℕ → Type 0 where
    start : {x : ℕ} → Mem x S → Mem z (pred x) → Via S z x
    step : {y x : ℕ} → Via S z y → Mem x S → Mem y (pred x) → Via S z x

  -- a finishing order, the last one first: whatever a vertex leads to through vertices finished before it leads back to it
  abbrev pub Good : List ℕ → Type 0
  Good [] = Unit {0}
  Good (r ∷ earlier) = Good earlier × ((x : ℕ) → Via earlier r x → Star x r)

  -- a stack, the top first: each vertex is a predecessor of the one under it
  abbrev pub Stacked : List ℕ → Type 0
  Stacked [] = Unit {0}
  Stacked (t ∷ []) = Unit {0}
  Stacked (t ∷ u ∷ rest) = Mem t (pred u) × Stacked (u ∷ rest)

  -- the first walk: the stack, the vertices finished, the last one first; Pend v w: predecessor w of v is still to be looked at
  pub record Descent (Pend : ℕ → ℕ → Type 0) (stack fin : List ℕ) : Type 0 where
    pub good : Good fin
    pub path : Stacked stack
    -- what leads from the stack through finished vertices leads back
    pub back : (z x : ℕ) → Mem z stack → Via fin z x → Star x z
    -- each predecessor of a vertex on the stack is discovered, or is still to be looked at
    pub looked : (v w : ℕ) → Mem v stack → Mem w (pred v) → (Mem w stack ⊎ Mem w fin) ⊎ Pend v w
    -- each predecessor of a finished vertex is discovered
    pub known : (v w : ℕ) → Mem v fin → Mem w (pred v) → Mem w stack ⊎ Mem w fin

  -- in one component
  abbrev pub Same : ℕ → ℕ → Type 0
  Same x y = Star x y × Star y x

  -- between two components: what is done is whole components, and what is not done is among the vertices still to come
  pub record Sweep (Done : ℕ → Type 0) (left : List ℕ) : Type 0 where
    pub good : Good left
    pub whole : (x y : ℕ) → Done x → Same x y → Done y
    pub cover : (x y : ℕ) → Mem x (pred y) → Done y ⊎ Mem y left

  -- the second walk, while C, the component of r, is collected; Pend x y: the edge from x to y is still to be followed
  pub record Collect (Done : ℕ → Type 0) (Pend : ℕ → ℕ → Type 0) (r : ℕ) (earlier C : List ℕ) : Type 0 where
    pub root : Mem r C
    pub via : (x : ℕ) → Mem x C → (x ≡ r) ⊎ Via earlier r x
    pub fresh : (x : ℕ) → Mem x C → Done x → ⊥
    pub followed : (x y : ℕ) → Mem x C → Mem x (pred y) → (Done y ⊎ Mem y C) ⊎ Pend x y
    pub distinct : Distinct C
