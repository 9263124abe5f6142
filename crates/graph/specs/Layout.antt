-- Where chains begin, and what the accessors ask of the words.
use Rattle.std.specs.Prelude.{◌≡◌, List, ℕ, ◌+◌, ◌-◌, ◌*◌, ◌≤◌, ◌<◌, length, get_or}
use Rattle.theory.specs.Words.{node_at, producer_at}
use Rattle.theory.specs.Links.{MeetsOnce}
use Rattle.theory.specs.Accepted.{size_of}

-- the first link of a node's leaves, of a producer's heads
abbrev pub leaf_link : List ℕ → ℕ → ℕ
leaf_link ws n = get_or ws (node_at n + 2) 0

abbrev pub head_link : List ℕ → ℕ → ℕ
head_link ws p = get_or ws (producer_at ws p + 1) 0

-- the number is one of a node or a producer, and its record lies within the words
pub record NodeIn (ws : List ℕ) (n : ℕ) : Type 0 where
  pub size : length ws ≡ size_of ws
  pub below : n < get_or ws 2 0

pub record ProducerIn (ws : List ℕ) (p : ℕ) : Type 0 where
  pub size : length ws ≡ size_of ws
  pub below : p < get_or ws 3 0

-- the link records begin at word `from`: after the header, the nodes and the producers
pub record LinksFrom (ws : List ℕ) (from : ℕ) : Type 0 where
  pub is : from ≡ 5 + 3 * get_or ws 2 0 + 2 * get_or ws 3 0

-- links are numbered from 1, and their records begin at word `from`
pub record LinkIn (ws : List ℕ) (from l : ℕ) : Type 0 where
  pub some : 0 < l
  pub within : from + 2 * l ≤ length ws

unfoldable pub value_in : List ℕ → (from l : ℕ) → ℕ
value_in ws from l = get_or ws (from + 2 * l - 2) 0

unfoldable pub next_in : List ℕ → (from l : ℕ) → ℕ
next_in ws from l = get_or ws (from + 2 * l - 1) 0

-- what one who follows a chain stands on: the words have their size, the link records begin at word `from`, and the chain from l meets no link twice
pub record Following (ws : List ℕ) (from l : ℕ) : Type 0 where
  pub size : length ws ≡ size_of ws
  pub begin : LinksFrom ws from
  pub once : MeetsOnce ws l
