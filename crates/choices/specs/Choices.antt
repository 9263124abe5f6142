-- Undecided numbers: a choice rules each of them out or not (requests 12 and 13). A choice is the set of those that it rules out.
use Rattle.std.specs.Prelude.{Bool, true, false, ◌&&◌, ◌||◌, List, [], ◌∷◌, ◌++◌, map, ℕ, eqb}
use Rattle.theory.specs.Sets.{Set, members}

-- the cuts of a mask and those of a choice
infixl 30 ◌∪◌
abbrev pub ◌∪◌ : Set → Set → Set
(s ∪ t) v = s v || t v

abbrev pub nobody : Set
nobody v = false

-- x and the members of c
abbrev pub adding : ℕ → Set → Set
adding x c v = eqb x v || c v

-- all choices of a list of undecided numbers: those that leave the first, then those that rule it out
unfoldable pub choices : List ℕ → List Set
choices [] = nobody ∷ []
choices (x ∷ l) = choices l ++ map (adding x) (choices l)

-- the choices of the undecided numbers below n
unfoldable pub choices_below : ℕ → Set → List Set
choices_below n undecided = choices (members n undecided)

-- every choice, some choice of a list passes the test
unfoldable pub all_of : (Set → Bool) → List Set → Bool
all_of test [] = true
all_of test (c ∷ l) = test c && all_of test l

unfoldable pub any_of : (Set → Bool) → List Set → Bool
any_of test [] = false
any_of test (c ∷ l) = test c || any_of test l
