-- Request 13: how often, over all choices of the undecided atoms, an atom is missing, ruled out, or neither.
use Rattle.std.specs.Prelude.{Bool, not, ◌&&◌, cond, List, [], ◌∷◌, ℕ, zero, suc, ◌+◌}
use Rattle.theory.specs.Sets.{Set}
use Rattle.theory.specs.Theory.{Theory}
use Rattle.theory.specs.Founded.{missing}
use Rattle.choices.specs.Choices.{◌∪◌, choices_below}

-- in how many choices of a list, each of them added to the cuts, the test is passed
unfoldable pub times : (Set → Bool) → Set → List Set → ℕ
times test cut [] = 0
times test cut (c ∷ l) = cond (test (cut ∪ c)) 1 0 + times test cut l

-- what becomes of an atom under the cuts of both masks
module _ (th : Theory) (never : Set) (a : ℕ) where
  abbrev pub is_missing : Set → Bool
  is_missing cut = missing th never cut a

  abbrev pub is_ruled_out : Set → Bool
  is_ruled_out cut = cut a

  abbrev pub is_neither : Set → Bool
  is_neither cut = not (is_missing cut) && not (is_ruled_out cut)

module _ (th : Theory) (never atom_never undecided : Set) where
  unfoldable pub times_missing : ℕ → ℕ
  times_missing a = times (is_missing th never a) atom_never (choices_below th.atoms undecided)

  unfoldable pub times_ruled_out : ℕ → ℕ
  times_ruled_out a = times (is_ruled_out th never a) atom_never (choices_below th.atoms undecided)

  unfoldable pub times_neither : ℕ → ℕ
  times_neither a = times (is_neither th never a) atom_never (choices_below th.atoms undecided)

-- f, g and h of n numbers from a on, three to a number in this order
unfoldable pub by_threes : (f g h : ℕ → ℕ) → ℕ → ℕ → List ℕ
by_threes f g h a zero = []
by_threes f g h a (suc n) = f a ∷ g a ∷ h a ∷ by_threes f g h (suc a) n

-- what the call writes
unfoldable pub tallies : Theory → (never atom_never undecided : Set) → List ℕ
tallies th never atom_never undecided =
    by_threes (times_missing th never atom_never undecided) (times_ruled_out th never atom_never undecided) (times_neither th never atom_never undecided) 0 th.atoms
