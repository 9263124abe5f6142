-- The links that a chain meets, and what every part that follows a chain relies on (document 02, request 5: links in any order).
use Rattle.std.specs.Prelude.{◌≡◌, Bool, not, cond, List, ℕ, zero, suc, ◌≤◌, ◌<◌, eqb, get_or}
use Rattle.theory.specs.Words.{next_of}

module _ (ws : List ℕ) where
  -- the link after l; nothing comes after link 0, which ends a chain
  unfoldable pub after : ℕ → ℕ
  after l = cond (eqb l 0) 0 (next_of ws l)

  -- the link at position i of the chain that begins at l, counted from 0; from the chain's end on it is 0
  unfoldable pub link_after : ℕ → ℕ → ℕ
  link_after zero l = l
  link_after (suc i) l = link_after i (after l)

  -- the chain from l comes back to one of its own links: it has the same link at two positions
  pub record ComesBack (l : ℕ) : Type 0 where
    pub first : ℕ
    pub again : ℕ
    pub later : first < again
    pub some : link_after first l ≡ 0 → ⊥
    pub same : link_after again l ≡ link_after first l

  -- what every part that follows a chain relies on: the links that it meets are links of the graph, and it meets none twice
  pub record MeetsOnce (l : ℕ) : Type 0 where
    pub inside : (i : ℕ) → link_after i l ≤ get_or ws 4 0
    pub once : (i j : ℕ) → i < j → link_after j l ≡ link_after i l → link_after i l ≡ 0

  -- the test of refusal 14: after K links the chain is not at its end
  unfoldable pub comes_back : ℕ → Bool
  comes_back l = not (eqb (link_after (get_or ws 4 0) l) 0)
