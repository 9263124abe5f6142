-- What a table in the words holds, and the four tables.
use Rattle.std.specs.Prelude.{◌≡◌, List, ℕ, ◌+◌, ◌≤◌, ◌<◌, length, get_or, take}
use Rattle.std.proofs.Math.Seq.{slice}
use Rattle.theory.specs.Theory.{Theory}
use Rattle.theory.specs.Rows.{Edge, entries, stream, body_keys, atom_keys, leaf_keys}
use Rattle.area.specs.declared.Bases.{Bases}
use Rattle.adjacency.specs.declared.Table.{Table}
use Rattle.adjacency.specs.declared.Table.TheVariants.{AtomNodes, Parents, ByHead, ByBody}

-- where the entries of row r begin, and row r, in the table of so many rows at base
abbrev pub start_at : List ℕ → (base rows r : ℕ) → ℕ
start_at w base rows r = base + (rows + 1) + get_or w (base + r) 0

abbrev pub row_at : List ℕ → (base rows r : ℕ) → List ℕ
row_at w base rows r = slice (start_at w base rows r) (start_at w base rows (r + 1)) w

-- the table of the edges at base, within the first n words
pub record Tabled (n : ℕ) (w : List ℕ) (base rows : ℕ) (edges : List Edge) : Type 0 where
  pub long : n ≤ length w
  pub rising : (r : ℕ) → r < rows → start_at w base rows r ≤ start_at w base rows (r + 1)
  pub inside : (r : ℕ) → r ≤ rows → start_at w base rows r ≤ n
  pub row : (r : ℕ) → r < rows → row_at w base rows r ≡ entries r edges

module _ (th : Theory) where
  -- a table's rows, its items, and the rows that an item is in
  abbrev pub rows_of : Table → ℕ
  rows_of AtomNodes = th.atoms
  rows_of Parents = th.nodes
  rows_of ByHead = th.atoms
  rows_of ByBody = th.nodes

  abbrev pub items_of : Table → ℕ
  items_of AtomNodes = th.nodes
  items_of Parents = th.nodes
  items_of ByHead = th.producers
  items_of ByBody = th.producers

  abbrev pub keys_of : Table → ℕ → List ℕ
  keys_of AtomNodes n = atom_keys th (th.kind n) n
  keys_of Parents n = leaf_keys th (th.kind n) n
  keys_of ByHead p = th.heads p
  keys_of ByBody p = body_keys (th.body p)

  abbrev pub edges_of : Table → List Edge
  edges_of t = stream (keys_of t) 0 (items_of t)

abbrev pub base_of : Bases → Table → ℕ
base_of b AtomNodes = b.atom_nodes
base_of b Parents = b.parents
base_of b ByHead = b.by_head
base_of b ByBody = b.by_body

abbrev pub next_of : Bases → Table → ℕ
next_of b AtomNodes = b.parents
next_of b Parents = b.by_head
next_of b ByHead = b.by_body
next_of b ByBody = b.states

-- the table stands in its part; what stands before it stays
pub record Built (th : Theory) (b : Bases) (t : Table) (w w' : List ℕ) : Type 0 where
  pub size : length w' ≡ length w
  pub before : take (base_of b t) w' ≡ take (base_of b t) w
  pub table : Tabled (next_of b t) w' (base_of b t) (rows_of th t) (edges_of th t)
