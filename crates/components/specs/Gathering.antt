-- What the words hold while the entries of a row are collected: marks and the queue.
use Rattle.std.specs.Prelude.{◌≡◌, List, ℕ, ◌+◌, ◌-◌, ◌≤◌, ◌<◌, length, get_or, drop}
use Rattle.theory.specs.Sets.{Set}
use Rattle.theory.specs.Search.{Within, Collecting}
use Rattle.theory.specs.Prefix.{between}
use Rattle.area.specs.declared.Bases.{Bases}
use Rattle.area.specs.Views.{mark_in, queued}
use Rattle.area.specs.Layout.{Laid}

-- what a search is about: the graph, its root, the vertices that may be a root after it, those of its members whose rows have been begun, and how many
-- vertices of the queue are of other components; and words to hold against, as many of their queue as stay
pub record Ctx : Type 0 where
  pub pred : ℕ → List ℕ
  pub graph : Set
  pub root : ℕ
  pub earlier : List ℕ
  pub begun : List ℕ
  pub from : ℕ
  pub base : List ℕ
  pub front : ℕ

pub record Gathering (lim : ℕ) (b : Bases) (c : Ctx) (w : List ℕ) (t : ℕ) (todo : List ℕ) : Type 0 where
  pub laid : Laid b
  pub long : b.end ≤ length w
  pub small : b.atoms + b.nodes < lim
  -- past the queue nothing changes
  pub kept : (i : ℕ) → b.body_nodes ≤ i → get_or w i 0 ≡ get_or c.base i 0
  -- and the vertices that were on the queue stay
  pub fore : c.front ≤ t
  pub front : (i : ℕ) → i < c.front → get_or w (b.queue + i) 0 ≡ get_or c.base (b.queue + i) 0
  pub within : Within (b.atoms + b.nodes) c.pred c.graph
  pub after : c.from ≤ t
  pub collecting : Collecting (b.atoms + b.nodes) c.pred c.graph c.root c.earlier (queued b w c.from) (between c.from (t - c.from) (drop b.queue w)) c.begun todo (mark_in b w)
