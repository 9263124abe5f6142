-- Incidence rows (document 01, "Rows"). A table is a stream of edges; row r is the list of the entries of the edges in row r, in stream
-- order, repeats kept. The four tables, and the edges of the loop test as the rows give them.
use Rattle.std.specs.Prelude.{cond, List, [], ◌∷◌, ◌++◌, map, ℕ, zero, suc, ◌+◌, ◌-◌, eqb, ltb}
use Rattle.theory.specs.Theory.{Theory, Kind, False, Atom, And, Or, Opaque, Absorbed, joins}

pub record Edge : Type 0 where
  pub row : ℕ
  pub entry : ℕ

abbrev pub edge : ℕ → ℕ → Edge
edge r x = record { row = r; entry = x }

-- row r
unfoldable pub entries : ℕ → List Edge → List ℕ
entries r [] = []
entries r (e ∷ l) = cond (eqb r e.row) (e.entry ∷ entries r l) (entries r l)

-- an item is an entry of each of the rows that its keys name
abbrev pub tagged : ℕ → List ℕ → List Edge
tagged i keys = map (λ r. edge r i) keys

-- the edges of n items from i on, item by item
unfoldable pub stream : (ℕ → List ℕ) → ℕ → ℕ → List Edge
stream keys i zero = []
stream keys i (suc n) = tagged i (keys i) ++ stream keys (suc i) n

-- f of each entry, one after the other
unfoldable pub flat_map : (ℕ → List ℕ) → List ℕ → List ℕ
flat_map f [] = []
flat_map f (x ∷ l) = f x ++ flat_map f l

unfoldable pub body_keys : ℕ → List ℕ
body_keys zero = []
body_keys (suc n) = n ∷ []

module _ (th : Theory) where
  unfoldable pub atom_keys : Kind → ℕ → List ℕ
  atom_keys False n = []
  atom_keys Atom n = th.operand n ∷ []
  atom_keys And n = []
  atom_keys Or n = []
  atom_keys Opaque n = []
  atom_keys Absorbed n = []

  unfoldable pub leaf_keys : Kind → ℕ → List ℕ
  leaf_keys k n = cond (joins k) (th.leaves n) []

  -- the tables: nodes per atom, parents per node, producers per head, producers per body
  unfoldable pub atom_nodes : List Edge
  atom_nodes = stream (λ n. atom_keys (th.kind n) n) 0 th.nodes

  unfoldable pub parents : List Edge
  parents = stream (λ n. leaf_keys (th.kind n) n) 0 th.nodes

  unfoldable pub by_head : List Edge
  by_head = stream th.heads 0 th.producers

  unfoldable pub by_body : List Edge
  by_body = stream (λ p. body_keys (th.body p)) 0 th.producers

  -- nodes as vertices
  abbrev pub shifted : List ℕ → List ℕ
  shifted l = map (λ n. th.atoms + n) l

  -- the vertices to which an edge leads from node m, and from vertex u, repeats kept
  unfoldable pub node_succs : ℕ → List ℕ
  node_succs m = shifted (entries m parents) ++ flat_map th.heads (entries m by_body)

  unfoldable pub succs : ℕ → List ℕ
  succs u = cond (ltb u th.atoms) (shifted (entries u atom_nodes)) (node_succs (u - th.atoms))
