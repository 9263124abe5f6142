-- Numbers in bytes, low byte first (document 01: "words little-endian").
use Rattle.std.specs.Prelude.{◌≡◌, List, [], ◌∷◌, ◌++◌, ℕ, zero, suc, ◌+◌, ◌*◌, ◌/◌, ◌≤◌, length, get_or, take}

-- the number in the k bytes from `at` on
unfoldable pub little_endian : List ℕ → ℕ → ℕ → ℕ
little_endian bytes at zero = 0
little_endian bytes at (suc k) = get_or bytes at 0 + 256 * little_endian bytes (suc at) k

-- g 0, .. g (n - 1)
unfoldable pub tabulate : {A : Type 0} → (ℕ → A) → ℕ → List A
tabulate g zero = []
tabulate g (suc n) = tabulate g n ++ (g n ∷ [])

-- word i of k bytes each
abbrev pub word_at : ℕ → List ℕ → ℕ → ℕ
word_at k bytes i = little_endian bytes (k * i) k

-- the words of k bytes each; what is left at the end is dropped
abbrev pub words : ℕ → List ℕ → List ℕ
words k bytes = tabulate (word_at k bytes) (length bytes / k)

-- the same words as a type of words has them: `of` gives the word of a number, and at u16 and u64 this is `words k bytes`
abbrev pub words_as : {W : Type 0} → (ℕ → W) → ℕ → List ℕ → List W
words_as of k bytes = tabulate (λ i. of (word_at k bytes i)) (length bytes / k)

-- the first r elements of a list are the words. `exact` follows from `within`; both are stated so that a caller who lends those r needs no proof.
pub record Decoded {W : Type 0} (of : ℕ → W) (k : ℕ) (bytes : List ℕ) (list : List W) (r : ℕ) : Type 0 where
  pub count : r ≡ length bytes / k
  pub within : r ≤ length list
  pub exact : r ≡ length (take r list)
  pub decoded : take r list ≡ words_as of k bytes
