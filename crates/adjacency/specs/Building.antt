-- What the row builder keeps, over any list of edges: the part's first rows + 1 words are offsets, and the entries follow. lim is the number
-- of values of a word.
use Rattle.std.specs.Prelude.{◌≡◌, Bool, true, cond, List, [], ◌∷◌, ◌++◌, ℕ, ◌+◌, ◌≤◌, ◌<◌, length, get_or}
use Rattle.theory.specs.Sets.{sum_below}
use Rattle.theory.specs.Rows.{Edge, tagged, entries}

-- the edges lie in the rows, and their entries fit a word
abbrev pub Keyed : (lim rows : ℕ) → List Edge → Type 0
Keyed lim rows [] = Unit {0}
Keyed lim rows (e ∷ l) = (e.row < rows) × (e.entry < lim) × Keyed lim rows l

-- how many entries come before row r
abbrev pub start_of : List Edge → ℕ → ℕ
start_of all r = sum_below r (λ s. length (entries s all))

-- all: the edges. todo: those to come. Word r + 1 is the cursor of row r: it counts from 0, or fills from the row's start.
pub record Building (lim : ℕ) (filling : Bool) (rows : ℕ) (all : List Edge) (q : List ℕ) (t : ℕ) (todo : List Edge) : Type 0 where
  pub done : List Edge
  pub whole : done ++ todo ≡ all
  pub keyed : Keyed lim rows todo
  pub room : rows + 1 + start_of all rows ≤ length q
  pub small : start_of all rows < lim
  pub first : get_or q 0 0 ≡ 0
  pub cursors : (r : ℕ) → r < rows → get_or q (r + 1) 0 ≡ cond filling (start_of all r) 0 + length (entries r done)
  pub filled : filling ≡ true → (r i : ℕ) → r < rows → i < length (entries r done) → get_or q (rows + 1 + (start_of all r + i)) 0 ≡ get_or (entries r all) i 0

-- an item's edges, by the rows that are to come; in a context: all the edges, and those that come after the item's
pub record Around : Type 0 where
  pub all : List Edge
  pub after : List Edge

-- building: what is kept, over all the edges and those to come
abbrev pub Placing : (building : List Edge → List ℕ → ℕ → List Edge → Type 0) (item : ℕ) → Around → List ℕ → ℕ → List ℕ → Type 0
Placing building item c q t keys = building c.all q 0 (tagged item keys ++ c.after)

-- the counts of the rows below r
abbrev pub sum_of : List ℕ → ℕ → ℕ
sum_of q r = sum_below r (λ s. get_or q (s + 1) 0)

-- those counts are starts now
pub record Summed (q₀ q : List ℕ) (r total : ℕ) : Type 0 where
  pub size : length q ≡ length q₀
  pub sofar : total ≡ sum_of q₀ r
  pub made : (s : ℕ) → s < r → get_or q (s + 1) 0 ≡ sum_of q₀ s
  pub first : get_or q 0 0 ≡ get_or q₀ 0 0
  pub rest : (i : ℕ) → r < i → get_or q i 0 ≡ get_or q₀ i 0
