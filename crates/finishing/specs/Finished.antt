-- What the first walk is given and what it leaves: the contract of `finish_order`.
use Rattle.std.specs.Prelude.{◌≡◌, false, List, ℕ, ◌≤◌, ◌<◌, length, take}
use Rattle.theory.specs.Sets.{Is}
use Rattle.theory.specs.Words.{theory_of}
use Rattle.theory.specs.Edges.{vertices, in_graph, cone_preds}
use Rattle.theory.specs.Search.{Ordered}
use Rattle.area.specs.declared.Bases.{Bases}
use Rattle.area.specs.Layout.{Based}
use Rattle.adjacency.specs.Tables.{rows_of, edges_of, base_of, next_of, Tabled}
use Rattle.adjacency.specs.declared.Table.TheVariants.{ByHead}
use Rattle.area.specs.Views.{mark_in}
use Rattle.finishing.specs.Latest.{latest}

-- what stays: the length and the tables
pub record Kept (b : Bases) (w w' : List ℕ) : Type 0 where
  pub size : length w' ≡ length w
  pub tables : take b.states w' ≡ take b.states w

module _ (ws : List ℕ) (b : Bases) where
  -- what the walk reads and never writes: the bases, and the producers by head
  pub record Ready (w : List ℕ) : Type 0 where
    pub based : Based ws (length w) b
    pub table : Tabled (next_of b ByHead) w (base_of b ByHead) (rows_of (theory_of ws) ByHead) (edges_of (theory_of ws) ByHead)

  -- the vertices of preparation are marked k, and the others 0
  pub record Marked (k : ℕ) (w : List ℕ) : Type 0 where
    pub inside : (v : ℕ) → v < vertices (theory_of ws) → Is (in_graph (theory_of ws) v) → mark_in b w v ≡ k
    pub outside : (v : ℕ) → v < vertices (theory_of ws) → in_graph (theory_of ws) v ≡ false → mark_in b w v ≡ 0

  -- r vertices from `body_nodes` on, read from the last one: every vertex of preparation, in a finishing order
  pub record Finished (w w' : List ℕ) (r : ℕ) : Type 0 where
    pub kept : Kept b w w'
    pub marks : Marked 2 w'
    pub count : r ≤ vertices (theory_of ws)
    pub ordered : Ordered (vertices (theory_of ws)) (cone_preds (theory_of ws)) (in_graph (theory_of ws)) (latest w' b.body_nodes r)
