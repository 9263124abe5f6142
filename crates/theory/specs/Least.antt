-- The least set of numbers below a bound that is closed under a step: the step is applied to a table of truth values, as often as there
-- are numbers. That the table is that least set: proofs/LeastLaws.
use Rattle.std.specs.Prelude.{Bool, false, List, [], ◌∷◌, ℕ, zero, suc, get_or}
use Rattle.theory.specs.Sets.{Set}

-- a table of truth values, read as a set
unfoldable pub has : List Bool → Set
has l v = get_or l v false

-- the table of a set at i, i + 1, .. i + n - 1
unfoldable pub table_from : ℕ → ℕ → Set → List Bool
table_from i zero s = []
table_from i (suc n) s = s i ∷ table_from (suc i) n s

module _ (bound : ℕ) (step : Set → Set) where
  -- k rounds
  unfoldable pub grow : ℕ → List Bool
  grow zero = []
  grow (suc k) = table_from 0 bound (step (has (grow k)))

  unfoldable pub least : List Bool
  least = grow bound
