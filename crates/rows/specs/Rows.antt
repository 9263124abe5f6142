-- What is said of the tables that have the rows of the vertices.
use Rattle.std.specs.Prelude.{List, ℕ, ◌+◌, ◌≤◌, ◌<◌, length, get_or}
use Rattle.theory.specs.Theory.{Theory}
use Rattle.area.specs.declared.Bases.{Bases}
use Rattle.adjacency.specs.declared.Table.TheVariants.{AtomNodes, Parents, ByBody}
use Rattle.adjacency.specs.Tables.{start_at, Tabled, edges_of}

-- row r of the table at base lies in the first n words
pub record Spanned (n : ℕ) (w : List ℕ) (base rows r : ℕ) : Type 0 where
  pub row : r < rows
  pub rises : start_at w base rows r ≤ start_at w base rows (r + 1)
  pub ends : start_at w base rows (r + 1) ≤ n
  pub long : n ≤ length w

-- the words from one place to another are producers
abbrev pub Named : (ws w : List ℕ) → ℕ → ℕ → Type 0
Named ws w from to = (i : ℕ) → from ≤ i → i < to → get_or w i 0 < get_or ws 3 0

-- the tables that have the row of a vertex
pub record Tables (th : Theory) (b : Bases) (w : List ℕ) : Type 0 where
  pub atom_nodes : Tabled b.states w b.atom_nodes th.atoms (edges_of th AtomNodes)
  pub parents : Tabled b.states w b.parents th.nodes (edges_of th Parents)
  pub by_body : Tabled b.states w b.by_body th.nodes (edges_of th ByBody)
