-- The least set of vertices that is closed under rules of four sorts: a vertex that is never in it, one that always is, one that waits for one of
-- its predecessors, and one that waits for all of them, an entry that is listed twice twice.
use Rattle.std.specs.Prelude.{Bool, true, false, List, ℕ}
use Rattle.theory.specs.Sets.{Set, any, all}
use Rattle.theory.specs.Least.{has, least}

pub data Mode : Type 0 where
  dead free single every : Mode

-- whether a vertex waits for predecessors
unfoldable pub waiting : Mode → Bool
waiting dead = false
waiting free = false
waiting single = true
waiting every = true

unfoldable pub fired : Mode → Set → List ℕ → Bool
fired dead s l = false
fired free s l = true
fired single s l = any s l
fired every s l = all s l

module _ (b : ℕ) (mode : ℕ → Mode) (pred : ℕ → List ℕ) where
  unfoldable pub close_step : Set → Set
  close_step s v = fired (mode v) s (pred v)

  unfoldable pub closure : Set
  closure v = has (least b close_step) v
