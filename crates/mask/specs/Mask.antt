-- Masks (document 01, "The graph as lent words"): a set of numbers in 64-bit words, where bit i of word w, lowest first, stands for 64 * w + i.
-- A bit is read by `bit_at` of theory/specs/Words; a node mask and an atom mask differ in their length alone.
use Rattle.std.specs.Prelude.{Bool, ◌&&◌, ◌||◌, List, [], ◌∷◌, ◌++◌, ℕ, zero, suc, ◌+◌, ◌*◌, ◌/◌, eqb, ltb, get_or, length}
use mir.Val.{bool_byte}
use Rattle.theory.specs.Sets.{Set}
use Rattle.theory.specs.Words.{bit_at}

-- ⌈n / 64⌉, the length of a mask over n numbers
abbrev pub words_of : ℕ → ℕ
words_of n = (n + 63) / 64

-- a bit as a digit, 0 or 1
abbrev pub digit : Bool → ℕ
digit b = bool_byte b

-- the members of a set among i, i + 1, .. i + k - 1 as k bits, lowest first
unfoldable pub bits : Set → ℕ → ℕ → ℕ
bits s i zero = 0
bits s i (suc k) = digit (s i) + 2 * bits s (suc i) k

-- the members of a set below 64 * w as a mask of w words
unfoldable pub mask_of : ℕ → Set → List ℕ
mask_of zero s = []
mask_of (suc w) s = mask_of w s ++ (bits s (64 * w) 64 ∷ [])

-- the members below n
abbrev pub below : ℕ → Set → Set
below n s i = ltb i n && s i

-- the members below n as a mask over n numbers; unused bits are 0
abbrev pub pack : ℕ → Set → List ℕ
pack n s = mask_of (words_of n) (below n s)

-- the mask with bit i set too
abbrev pub with_bit : ℕ → List ℕ → List ℕ
with_bit i m = mask_of (length m) (λ j. eqb j i || bit_at m j)

-- the set that a list of flags stands for, a word each: 1 is a member
abbrev pub flagged : List ℕ → Set
flagged flags i = eqb (get_or flags i 0) 1
