-- The program's lines as ASCII bytes (document 01, "The program").
use Rattle.std.specs.Prelude.{◌≡◌, Bool, cond, List, [], ◌∷◌, ◌++◌, ℕ, zero, suc, ◌+◌, ◌/◌, ◌%◌, ltb, length, take, drop}

-- a number below 10 is its digit; any other, what stands for its tenth and then its last digit. The fuel is above the number.
unfoldable pub digits_in : ℕ → ℕ → List ℕ
digits_in zero n = []
digits_in (suc fuel) n = cond (ltb n 10) ((48 + n) ∷ []) (digits_in fuel (n / 10) ++ ((48 + n % 10) ∷ []))

-- a number in decimal, without a leading zero
unfoldable pub decimal : ℕ → List ℕ
decimal n = digits_in (suc n) n

-- numbers, one space before each
unfoldable pub spaced : List ℕ → List ℕ
spaced [] = []
spaced (n ∷ l) = 32 ∷ decimal n ++ spaced l

-- a word, the numbers after it, and the line's end
abbrev pub line : List ℕ → List ℕ → List ℕ
line word numbers = (word ++ spaced numbers) ++ (10 ∷ [])

-- refused, missing
abbrev pub refused_word : List ℕ
refused_word = 114 ∷ 101 ∷ 102 ∷ 117 ∷ 115 ∷ 101 ∷ 100 ∷ []

abbrev pub missing_word : List ℕ
missing_word = 109 ∷ 105 ∷ 115 ∷ 115 ∷ 105 ∷ 110 ∷ 103 ∷ []

-- loops yes, loops no
abbrev pub loops_line : Bool → List ℕ
loops_line cycle =
    cond cycle (108 ∷ 111 ∷ 111 ∷ 112 ∷ 115 ∷ 32 ∷ 121 ∷ 101 ∷ 115 ∷ 10 ∷ []) (108 ∷ 111 ∷ 111 ∷ 112 ∷ 115 ∷ 32 ∷ 110 ∷ 111 ∷ 10 ∷ [])

-- number and place
abbrev pub refused_line : ℕ → ℕ → List ℕ
refused_line number place = line refused_word (number ∷ place ∷ [])

-- the count, and then the list itself
abbrev pub missing_line : List ℕ → List ℕ
missing_line atoms = line missing_word (length atoms ∷ atoms)

-- what a function that appends leaves: the text stands at `at`, all before it and all behind it is as it was, and the next place is r
pub record Appended (old : List ℕ) (at : ℕ) (text new : List ℕ) (r : ℕ) : Type 0 where
  pub end : r ≡ at + length text
  pub text_there : take r new ≡ take at old ++ text
  pub behind : drop r new ≡ drop r old
