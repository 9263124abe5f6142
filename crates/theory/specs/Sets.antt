-- Sets of numbers as tests, and tests over lists and below a bound. Everything here computes.
use Rattle.std.specs.Prelude.{◌≡◌, Bool, true, false, ◌&&◌, ◌||◌, cond, ℕ, zero, suc, ◌+◌, eqb}
use mathlib.Core.List.{List, [], ◌∷◌, ◌++◌, Memᴰ}

-- a test holds
abbrev pub Is : Bool → Type 0
Is b = b ≡ true

-- a set of numbers
abbrev pub Set : Type 0
Set = ℕ → Bool

infixl 20 ◌⊆◌
abbrev pub ◌⊆◌ : Set → Set → Type 0
s ⊆ t = (v : ℕ) → Is (s v) → Is (t v)

abbrev pub everyone : Set
everyone v = true

abbrev pub Mem : ℕ → List ℕ → Type 0
Mem x l = Memᴰ x l

-- some entry, every entry of a list is in the set
unfoldable pub any : Set → List ℕ → Bool
any s [] = false
any s (x ∷ l) = s x || any s l

unfoldable pub all : Set → List ℕ → Bool
all s [] = true
all s (x ∷ l) = s x && all s l

unfoldable pub member : ℕ → List ℕ → Bool
member x l = any (λ y. eqb x y) l

unfoldable pub filled : List ℕ → Bool
filled [] = false
filled (x ∷ l) = true

-- some number below n is in the set
unfoldable pub any_below : ℕ → Set → Bool
any_below zero s = false
any_below (suc n) s = s n || any_below n s

-- the members of the set below n, ascending
unfoldable pub members : ℕ → Set → List ℕ
members zero s = []
members (suc n) s = cond (s n) (members n s ++ (n ∷ [])) (members n s)

-- f 0 + .. + f (n - 1)
unfoldable pub sum_below : ℕ → (ℕ → ℕ) → ℕ
sum_below zero f = 0
sum_below (suc n) f = f n + sum_below n f
