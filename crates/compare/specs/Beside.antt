-- The walk side by side. The first graph is accepted. Of the second only rows 1 to 3 and 6 of the check have passed, which is all that it takes to follow its words: where the walk
-- finds no difference, what makes the second graph's chains end is found too, and its other rows follow from the first graph's.
use Rattle.std.specs.Prelude.{◌≡◌, false, List, ℕ, ◌+◌, ◌≤◌, ◌<◌, get_or}
use Rattle.std.specs.declared.cmp.Ordering.{Ordering}
use Rattle.std.specs.declared.cmp.Ordering.TheVariants.{Equal}
use Rattle.std.specs.Ordering.{MatchOrdering}
use Rattle.theory.specs.Words.{next_of}
use Rattle.theory.specs.Accepted.{Edition, Accepted}
use Rattle.refusals.specs.Passed.{Sized}
use Rattle.refusals.specs.Search.{Clear}
use Rattle.refusals.specs.Refusals.{bad_edition, bad_counts, bad_size, bad_link}

-- rows 1 to 3 and 6 pass
pub record Walkable (ed : Edition) (ws : List ℕ) : Type 0 where
  pub edition : bad_edition ed ws ≡ false
  pub counts : bad_counts ed ws ≡ false
  pub size : bad_size ws ≡ false
  pub links : Clear (bad_link ws) 1 (get_or ws 4 0 + 1)

-- what a comparison says: the order where the second graph is good, and that it is good where no difference is found
pub record Beside (Good : Type 0) (order found : Ordering) : Type 0 where
  pub told : Good → found ≡ order
  pub good : found ≡ Equal → Good

-- places are compared in turn, and `found` stands at the first that is not Equal: there it is what was answered
pub record Stops (answers : ℕ → Ordering → Type 0) (end : ℕ) (found : Ordering) : Type 0 where
  pub place : ℕ
  pub within : place < end
  pub before : (i : ℕ) → i < place → answers i Equal
  pub at : answers place found

abbrev pub InTurn : (ℕ → Ordering → Type 0) → (end : ℕ) → Ordering → Type 0
InTurn answers end found = MatchOrdering found (Stops answers end found) ((i : ℕ) → i < end → answers i Equal) (Stops answers end found)

-- every next is at most K
abbrev pub Nexts : List ℕ → Type 0
Nexts ws = (l : ℕ) → 0 < l → l ≤ get_or ws 4 0 → next_of ws l ≤ get_or ws 4 0

-- the two graphs as the walk has them
pub record SideBySide (ed : Edition) (x y : List ℕ) : Type 0 where
  pub first : Accepted ed x
  pub second : Sized ed y
  pub nexts : Nexts y
