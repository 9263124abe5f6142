-- The entries that an array holds so far, the last one first: a queue or a stack of which the first n words are in use.
use Rattle.std.specs.Prelude.{List, [], ◌∷◌, ℕ, zero, suc, ◌+◌, get_or}

-- the first n entries
unfoldable pub upto : ℕ → List ℕ → List ℕ
upto zero l = []
upto (suc n) l = get_or l n 0 ∷ upto n l

-- n entries from an index on
unfoldable pub between : ℕ → ℕ → List ℕ → List ℕ
between from zero l = []
between from (suc n) l = get_or l (from + n) 0 ∷ between from n l
