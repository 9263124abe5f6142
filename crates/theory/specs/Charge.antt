-- What a pass that follows rows counts: at a vertex, and over a list of them.
use Rattle.std.specs.Prelude.{List, [], ◌∷◌, ℕ, ◌+◌, length}
use Rattle.theory.specs.Theory.{Theory}
use Rattle.theory.specs.Rows.{succs}

-- the sum of f over the entries of a list
unfoldable pub sum_over : (ℕ → ℕ) → List ℕ → ℕ
sum_over f [] = 0
sum_over f (x ∷ l) = f x + sum_over f l

-- the vertex and the entries of its row
unfoldable pub charge : Theory → ℕ → ℕ
charge th v = 1 + length (succs th v)
