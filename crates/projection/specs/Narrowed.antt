-- The narrowed rows by which later pairs go (document 02, request 1; the Rust: `Projection`), with order and repeats: of a theory, and as a table has them.
use Rattle.std.specs.Prelude.{◌≡◌, cond, List, [], filter, ℕ, ◌+◌, ◌-◌, ◌≤◌, ◌<◌, length, ltb}
use Rattle.theory.specs.Sets.{Set, any, sum_below, members}
use Rattle.theory.specs.Theory.{Theory}
use Rattle.theory.specs.Words.{theory_of}
use Rattle.theory.specs.Accepted.{Accepted, edition1}
use Rattle.theory.specs.Rows.{entries, flat_map, shifted, parents, by_body}
use Rattle.theory.specs.Founded.{cyclic, cyclic_cone}
use Rattle.area.specs.declared.Bases.{Bases}
use Rattle.adjacency.specs.Tables.{start_at, row_at}
use Rattle.cones.specs.Cones.{fact_by}
use Rattle.cones.specs.declared.Cone.{Cone}
use Rattle.preparation.specs.Stages.{Standing}

module _ (th : Theory) (marked cone : Set) where
  -- what a pass may find: the marked atoms, and the nodes of the cone
  unfoldable pub in_pass : Set
  in_pass v = cond (ltb v th.atoms) (marked v) (cone (v - th.atoms))

  -- a node of the cone has its parents in the cone, as vertices
  unfoldable pub parent_row : ℕ → List ℕ
  parent_row n = cond (cone n) (filter in_pass (shifted th (entries n (parents th)))) []

  -- and the marked heads of the producers whose body it is
  unfoldable pub body_heads : ℕ → List ℕ
  body_heads n = cond (cone n) (filter in_pass (flat_map th.heads (entries n (by_body th)))) []

  -- the marked heads of the facts
  unfoldable pub fact_heads : List ℕ
  fact_heads = filter in_pass (flat_map th.heads (members th.producers (fact_by th (λ p. any marked (th.heads p)))))

  -- these stand in one more row
  unfoldable pub head_row : ℕ → List ℕ
  head_row n = cond (ltb n th.nodes) (body_heads n) fact_heads

-- how many entries come before row r
abbrev pub start_in : (ℕ → List ℕ) → ℕ → ℕ
start_in row r = sum_below r (λ s. length (row s))

-- a table that stands alone: its offsets, and its rows
pub record RowTable (rows : ℕ) (row : ℕ → List ℕ) (p : List ℕ) : Type 0 where
  pub rising : (r : ℕ) → r < rows → start_at p 0 rows r ≤ start_at p 0 rows (r + 1)
  pub inside : (r : ℕ) → r ≤ rows → start_at p 0 rows r ≤ length p
  pub has : (r : ℕ) → r < rows → row_at p 0 rows r ≡ row r

-- what the rows are narrowed from: an accepted graph, and words in which everything stands that a pass goes by
pub record Sourced (ws : List ℕ) (b : Bases) (w : List ℕ) (c : Cone) : Type 0 where
  pub accepted : Accepted edition1 ws
  pub standing : Standing ws b (cyclic (theory_of ws)) (cyclic_cone (theory_of ws)) w c

-- the narrowed rows of a graph
abbrev pub parents_of : List ℕ → ℕ → List ℕ
parents_of ws = parent_row (theory_of ws) (cyclic (theory_of ws)) (cyclic_cone (theory_of ws))

abbrev pub heads_of : List ℕ → ℕ → List ℕ
heads_of ws = head_row (theory_of ws) (cyclic (theory_of ws)) (cyclic_cone (theory_of ws))
