-- A list of things to do, done one after the other by changes of a list of words. P c w t l: in the context c, the words w and the number t
-- stand as they should with l still to do. A function requires that its part of l comes next, and ensures that its part is done whatever
-- the context and the remainder; so does the invariant of its loop.
use Rattle.std.specs.Prelude.{◌≡◌, List, ◌++◌, ℕ, length, take}

module _ {Ctx E : Type 0} (P : Ctx → List ℕ → ℕ → List E → Type 0) where
  -- l comes next, in some context
  pub record Follows (w : List ℕ) (t : ℕ) (l : List E) : Type 0 where
    pub ctx : Ctx
    pub more : List E
    pub held : P ctx w t (l ++ more)

  -- from l to l' in every context; the first n words and the length stay
  pub record Drives (n : ℕ) (w : List ℕ) (t : ℕ) (l : List E) (w' : List ℕ) (t' : ℕ) (l' : List E) : Type 0 where
    pub frame : take n w' ≡ take n w
    pub size : length w' ≡ length w
    pub keeps : (c : Ctx) (more : List E) → P c w t (l ++ more) → P c w' t' (l' ++ more)
