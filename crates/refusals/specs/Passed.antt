-- What the parts of the graph check hand on to each other.
use Rattle.std.specs.Prelude.{◌≡◌, Bool, not, ◌&&◌, ◌||◌, List, ℕ, ◌≤◌, ◌<◌, eqb, ltb, leb, length, get_or}
use Rattle.theory.specs.Words.{next_of}
use Rattle.theory.specs.Links.{MeetsOnce}
use Rattle.theory.specs.Accepted.{Edition, size_of}
use Rattle.graph.specs.Layout.{leaf_link, head_link}

-- what rows 1 to 3 leave
pub record Sized (ed : Edition) (ws : List ℕ) : Type 0 where
  pub size : length ws ≡ size_of ws
  pub atoms_few : get_or ws 1 0 ≤ ed.counts
  pub nodes_few : get_or ws 2 0 ≤ ed.counts
  pub producers_few : get_or ws 3 0 ≤ ed.counts
  pub links_few : get_or ws 4 0 ≤ ed.links

-- what rows 4 to 6 leave: every first link and every next is at most K
pub record Linked (ws : List ℕ) : Type 0 where
  pub leaf_first : (n : ℕ) → n < get_or ws 2 0 → leaf_link ws n ≤ get_or ws 4 0
  pub head_first : (p : ℕ) → p < get_or ws 3 0 → head_link ws p ≤ get_or ws 4 0
  pub next_low : (l : ℕ) → 0 < l → l ≤ get_or ws 4 0 → next_of ws l ≤ get_or ws 4 0

-- a next that is neither 0 nor a later link of the graph; where no link has one, no chain comes back
unfoldable pub turns : (next l links : ℕ) → Bool
turns next l links = ltb links next || not (eqb next 0) && leb next l

abbrev pub turns_at : List ℕ → ℕ → Bool
turns_at ws l = turns (next_of ws l) l (get_or ws 4 0)

-- what rows 4 to 6 and 14 leave to those who follow the chains
pub record Chained (ws : List ℕ) : Type 0 where
  pub leaf_chain : (n : ℕ) → n < get_or ws 2 0 → MeetsOnce ws (leaf_link ws n)
  pub head_chain : (p : ℕ) → p < get_or ws 3 0 → MeetsOnce ws (head_link ws p)
