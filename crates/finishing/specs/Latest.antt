-- A list of vertices in the work area that grows at its end.
use Rattle.std.specs.Prelude.{List, ℕ, drop}
use Rattle.theory.specs.Prefix.{upto}

-- the first n words from base on, the last one first
abbrev pub latest : List ℕ → (base n : ℕ) → List ℕ
latest w base n = upto n (drop base w)
