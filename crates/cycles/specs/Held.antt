-- What the work area holds while the loop test runs. lim is the number of values of a word.
use Rattle.std.specs.Prelude.{◌≡◌, ◌↔◌, cond, List, ℕ, ◌+◌, ◌≤◌, ◌<◌, ltb, length, take}
use Rattle.theory.specs.Sets.{Mem, everyone}
use Rattle.theory.specs.Counts.{occ, Distinct}
use Rattle.theory.specs.Theory.{Theory, WellFormed}
use Rattle.theory.specs.Edges.{bodies_below, preds}
use Rattle.area.specs.declared.Bases.{Bases}
use Rattle.area.specs.Layout.{Laid}
use Rattle.area.specs.Views.{count_at, queued}
use Rattle.rows.specs.Rows.{Tables}

-- what does not change: the counts, the regions, the tables
pub record Shape (lim : ℕ) (th : Theory) (b : Bases) (w : List ℕ) : Type 0 where
  pub ok : WellFormed th
  pub laid : Laid b
  pub atoms : b.atoms ≡ th.atoms
  pub nodes : b.nodes ≡ th.nodes
  pub long : b.end ≤ length w
  pub small : b.atoms + b.nodes < lim
  pub few : (v : ℕ) → v < b.atoms + b.nodes → length (preds th everyone v) < lim
  pub tables : Tables th b w

-- no edge to an atom is counted yet, and every edge to the first n nodes is
pub record Started (lim : ℕ) (th : Theory) (b : Bases) (w : List ℕ) (n : ℕ) : Type 0 where
  pub shape : Shape lim th b w
  pub atoms : (a : ℕ) → a < b.atoms → count_at b w a ≡ 0
  pub nodes : (m : ℕ) → m < n → count_at b w (b.atoms + m) ≡ length (preds th everyone (b.atoms + m))

-- how many edges lead to v: to a node all of them, and to an atom those of the first p producers
abbrev pub degree_by : Theory → ℕ → ℕ → ℕ
degree_by th p v = cond (ltb v th.atoms) (length (bodies_below th v p)) (length (preds th everyone v))

-- those are counted, but for todo
pub record Counting (lim : ℕ) (th : Theory) (b : Bases) (w : List ℕ) (p : ℕ) (todo : List ℕ) : Type 0 where
  pub shape : Shape lim th b w
  pub low : (v : ℕ) → Mem v todo → v < b.atoms + b.nodes
  pub begun : p ≤ th.producers
  pub tally : (v : ℕ) → v < b.atoms + b.nodes → count_at b w v + occ v todo ≡ degree_by th p v

-- the producers that a count is of: those of a theory below a number
pub record Producers : Type 0 where
  pub theory : Theory
  pub below : ℕ

-- the count, head by head; no list grows meanwhile
abbrev pub Heads : (lim : ℕ) (b : Bases) → Producers → List ℕ → ℕ → List ℕ → Type 0
Heads lim b c w t todo = Counting lim c.theory b w c.below todo

-- those of the vertices below k that wait for nothing are on the queue, tail of them; what stands before the queue stays
pub record Looked (b : Bases) (w₀ w : List ℕ) (k tail : ℕ) : Type 0 where
  pub size : length w ≡ length w₀
  pub before : take b.queue w ≡ take b.queue w₀
  pub distinct : Distinct (queued b w tail)
  pub first : (v : ℕ) → Mem v (queued b w tail) ↔ ((v < k) × (count_at b w₀ v ≡ 0))
