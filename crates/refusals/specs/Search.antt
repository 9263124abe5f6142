-- The first place where a test holds, as the loops of the graph check find it.
use Rattle.std.specs.Prelude.{◌≡◌, Bool, true, false, ℕ, ◌≤◌, ◌<◌, Option, MatchOption}

-- the test holds at no place from `from` up to r
pub record Clear (bad : ℕ → Bool) (from r : ℕ) : Type 0 where
  pub low : from ≤ r
  pub none : (i : ℕ) → from ≤ i → i < r → bad i ≡ false

-- r is the first place where it holds, or `end` where it holds at none before that
pub record First (bad : ℕ → Bool) (from end r : ℕ) : Type 0 where
  pub before : Clear bad from r
  pub high : r ≤ end
  pub found : r < end → bad r ≡ true

-- what a search from `from` to before `end` finds: the first place where it holds, or none where it holds at none
abbrev pub Finds : (ℕ → Bool) → (from end : ℕ) → Option ℕ → Type 0
Finds bad from end r = MatchOption r (First bad from end end) (λ i. (i < end) × First bad from end i)

-- the test answers, at each place from `from` to before `end`, what `bad` is there
abbrev pub Tells : (ℕ → Bool → Type 0) → (from end : ℕ) → (ℕ → Bool) → Type 0
Tells answers from end bad = (i : ℕ) (b : Bool) → from ≤ i → i < end → answers i b → b ≡ bad i
