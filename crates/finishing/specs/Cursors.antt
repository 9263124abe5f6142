-- What a cursor leaves of a vertex's predecessors. The cursor of an atom is a position in its row of producers, where a fact leads nowhere. That
-- of a node that takes an operand is 1, and 0 once the operand has been looked at; that of any other node is the number of the next link of its
-- chain of leaves.
use Rattle.std.specs.Prelude.{◌≡◌, Bool, true, false, cond, List, [], ◌∷◌, Option, Some, None, map, ℕ, zero, suc, ◌+◌, ◌-◌, ◌≤◌, eqb, ltb, get_or, drop}
use Rattle.theory.specs.Rows.{entries, flat_map}
use Rattle.theory.specs.Words.{node_at, chain, theory_of}
use Rattle.theory.specs.Links.{MeetsOnce}
use Rattle.graph.specs.Kinds.{takes_operand}
use Rattle.adjacency.specs.Tables.{edges_of}
use Rattle.adjacency.specs.declared.Table.TheVariants.{ByHead}

module _ (ws : List ℕ) where
  -- the vertex of a body; a fact has none
  unfoldable pub body_vertex : ℕ → List ℕ
  body_vertex zero = []
  body_vertex (suc n) = ((theory_of ws).atoms + n) ∷ []

  unfoldable pub atom_left : ℕ → ℕ → List ℕ
  atom_left a c = flat_map (λ p. body_vertex ((theory_of ws).body p)) (drop c (entries a (edges_of (theory_of ws) ByHead)))

  -- node n takes an operand
  abbrev pub has_operand : ℕ → Bool
  has_operand n = takes_operand ((theory_of ws).kind n)

  unfoldable pub node_left : Bool → ℕ → ℕ → List ℕ
  node_left true n c = cond (eqb c 0) [] ((theory_of ws).operand n ∷ [])
  node_left false n c = map (λ m. (theory_of ws).atoms + m) (chain ws c)

  unfoldable pub node_first : Bool → ℕ → ℕ
  node_first true n = 1
  node_first false n = get_or ws (node_at n + 2) 0

  -- what the cursor c of vertex v leaves, and the cursor that leaves every predecessor
  unfoldable pub left_of : ℕ → ℕ → List ℕ
  left_of v c = cond (ltb v (theory_of ws).atoms) (atom_left v c) (node_left (has_operand (v - (theory_of ws).atoms)) (v - (theory_of ws).atoms) c)

  unfoldable pub first_of : ℕ → ℕ
  first_of v = cond (ltb v (theory_of ws).atoms) 0 (node_first (has_operand (v - (theory_of ws).atoms)) (v - (theory_of ws).atoms))

  -- a cursor into a chain is a link from which the chain ends
  abbrev pub Linked : ℕ → ℕ → Type 0
  Linked v c = (theory_of ws).atoms ≤ v → has_operand (v - (theory_of ws).atoms) ≡ false → MeetsOnce ws c

-- what a look finds, where l is left before and l' after
abbrev pub Took : Option ℕ → List ℕ → List ℕ → Type 0
Took (Some x) l l' = l ≡ x ∷ l'
Took None l l' = (l ≡ []) × (l' ≡ [])
