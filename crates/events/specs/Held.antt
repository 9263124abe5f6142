-- What the words hold while the entries of a row are settled: counts and the queue.
use Rattle.std.specs.Prelude.{◌≡◌, List, ◌++◌, ℕ, ◌+◌, ◌≤◌, ◌<◌, length, get_or}
use Rattle.theory.specs.Closure.{Mode}
use Rattle.theory.specs.Worklist.{Worklist}
use Rattle.area.specs.declared.Bases.{Bases}
use Rattle.area.specs.Views.{count_at, queued, Outside}
use Rattle.area.specs.Layout.{Laid}

-- what a worklist is about: the modes and the predecessors, the vertices whose rows have been begun, those that are found and not on the queue; and words to hold against, as many of
-- their queue as stay
pub record Ctx : Type 0 where
  pub mode : ℕ → Mode
  pub pred : ℕ → List ℕ
  pub done : List ℕ
  pub aside : List ℕ
  pub base : List ℕ
  pub front : ℕ

pub record Held (lim : ℕ) (b : Bases) (c : Ctx) (w : List ℕ) (t : ℕ) (todo : List ℕ) : Type 0 where
  pub laid : Laid b
  pub long : b.end ≤ length w
  pub small : b.atoms + b.nodes < lim
  -- the vertices that were on the queue stay
  pub fore : c.front ≤ t
  pub front : (i : ℕ) → i < c.front → get_or w (b.queue + i) 0 ≡ get_or c.base (b.queue + i) 0
  -- counts and queue are written, nothing else
  pub outside : Outside b.dependencies b.body_nodes c.base w
  pub settling : Worklist (b.atoms + b.nodes) c.mode c.pred (queued b w t ++ c.aside) c.done todo (count_at b w)
