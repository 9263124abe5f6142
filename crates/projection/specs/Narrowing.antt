-- What a lent part holds while narrowed rows are written into it: the entries that are kept stand one after the other.
use Rattle.std.specs.Prelude.{◌≡◌, cond, List, ◌++◌, filter, ℕ, suc, ◌+◌, ◌≤◌, ◌<◌, length, get_or, take}
use Rattle.std.proofs.Math.Seq.{slice}
use Rattle.theory.specs.Sets.{Set, Mem}
use Rattle.projection.specs.Narrowed.{start_in}

-- what is kept; where the row begins, the part at that time, and the row that is to be
pub record RowBegun : Type 0 where
  pub set : Set
  pub from : ℕ
  pub base : List ℕ
  pub row : List ℕ

-- place: the next one. todo: the vertices still to be looked at; the words at marks tell of each whether it is kept. One word is stored past the row.
pub record Narrowing (w : List ℕ) (marks : ℕ) (c : RowBegun) (p : List ℕ) (place : ℕ) (todo : List ℕ) : Type 0 where
  pub begun : c.from ≤ place
  pub fits : place + length (filter c.set todo) < length p
  pub told : (v : ℕ) → Mem v todo → (marks + v < length w) × (v < 65536) × (get_or w (marks + v) 0 ≡ cond (c.set v) 1 0)
  pub fore : take c.from p ≡ take c.from c.base
  pub size : length p ≡ length c.base
  pub made : slice c.from place p ++ filter c.set todo ≡ c.row

-- a row is written from one place to another
pub record Written (p p' : List ℕ) (place place' : ℕ) (row : List ℕ) : Type 0 where
  pub size : length p' ≡ length p
  pub fore : take place p' ≡ take place p
  pub ends : place' ≡ place + length row
  pub made : slice place place' p' ≡ row

-- the rows below r are written, and the offsets up to r; place is where the next row begins
pub record Rowing (rows : ℕ) (row : ℕ → List ℕ) (p₀ p : List ℕ) (r place : ℕ) : Type 0 where
  pub size : length p ≡ length p₀
  pub place_is : place ≡ rows + 1 + start_in row r
  pub starts : (s : ℕ) → s ≤ r → get_or p s 0 ≡ start_in row s
  pub made : (s : ℕ) → s < r → slice (rows + 1 + start_in row s) (rows + 1 + start_in row (suc s)) p ≡ row s
