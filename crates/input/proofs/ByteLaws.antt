-- Words in bytes, and a list that is filled with them from the front.
use mathlib.Core.Path.{◌≡◌, refl, sym, ap, ◌∙◌}
use mathlib.Core.List.{List, [], ◌∷◌, ◌++◌}
use Prim.Native.Nat.{ℕ, zero, suc, ◌+◌, ◌*◌, ◌≤◌, ◌<◌}
use native.Mathlib.Nat.{not-suc-le-zero, add-zero, add-suc, add_comm, mul-zero, mul-suc}
use native.Mathlib.Numerals.{add-one}
use Rattle.std.specs.Simd.{first_chunks}
use native.Mathlib.Omega.{arith}
use native.Mathlib.Decide.{dec_lt}
use lib.ListN.{length, get_or, take, drop, set, length-append, get_or-append}
use lib.Seq.{get_or-take, get_or-drop, drop-drop, take-suc-set, get_or_at}
use Rattle.input.specs.Bytes.{little_endian, tabulate, word_at}

-- ---- one number

-- two bytes, as the library reads them
pub low_high : (bytes : List ℕ) (at : ℕ) → get_or bytes at 0 + get_or bytes (at + 1) 0 * 256 ≡ little_endian bytes at 2
unfolding little_endian
low_high bytes at = rw add-one (omega arith)

-- ---- numbers in a part

pub little_take : (bytes : List ℕ) (n at k : ℕ) → at + k ≤ n → little_endian (take n bytes) at k ≡ little_endian bytes at k
unfolding little_endian
little_take bytes n at zero h = refl
little_take bytes n at (suc k) h = rw (get_or-take n bytes at 0 (omega arith), little_take bytes n (suc at) k (omega arith))

pub little_drop : (bytes : List ℕ) (n at k : ℕ) → little_endian (drop n bytes) at k ≡ little_endian bytes (n + at) k
unfolding little_endian
little_drop bytes n at zero = refl
little_drop bytes n at (suc k) = rw (get_or-drop, little_drop bytes n (suc at) k, add-suc)

pub chunk_at : (n k i : ℕ) (bytes d : List ℕ) → i < k → get_or (first_chunks n k bytes) i d ≡ take n (drop (n * i) bytes)
chunk_at n zero i bytes d h = absurd (not-suc-le-zero h)
chunk_at n (suc k) zero bytes d h = rw (mul-zero n)
chunk_at n (suc k) (suc i) bytes d h = chunk_at n k i (drop n bytes) d (omega arith) ∙ rw (drop-drop, add_comm n (n * i), ← mul-suc) refl

-- chunk i of n bytes each holds word i
pub chunk_word : (n k i : ℕ) (bytes d : List ℕ) {chunk : List ℕ} {whole : List (List ℕ)} → whole ≡ first_chunks n k bytes → i < k → chunk ≡ get_or whole i d → little_endian chunk 0 n ≡ word_at n bytes i
chunk_word n k i bytes d w h e = rw (e, w, chunk_at n k i bytes d h, little_take (drop (n * i) bytes) n 0 n (omega arith), little_drop bytes (n * i) 0 n, add-zero)

-- ---- a list of words, filled from the front

pub fill_next : {W : Type 0} (g : ℕ → W) (l : List W) (i : ℕ) (v : W) → take i l ≡ tabulate g i → i < length l → v ≡ g i → take (i + 1) (set l i v) ≡ tabulate g (i + 1)
unfolding tabulate
fill_next g l i v p h e = rw (add-one, take-suc-set l i v h, p, e)

pub tabulate_length : {W : Type 0} (g : ℕ → W) (n : ℕ) → length (tabulate g n) ≡ n
unfolding tabulate
tabulate_length g zero = refl
tabulate_length g (suc n) = rw (length-append, tabulate_length g n) (add-one n)

pub tabulate_at : (g : ℕ → ℕ) (n i : ℕ) → i < n → get_or (tabulate g n) i 0 ≡ g i
unfolding tabulate
tabulate_at g zero i h = absurd (not-suc-le-zero h)
tabulate_at g (suc n) i h = go (dec_lt i n) (tabulate_at g n i)
  where
    go : Dec (i < n) → (i < n → get_or (tabulate g n) i 0 ≡ g i) → get_or (tabulate g n ++ (g n ∷ [])) i 0 ≡ g i
    go (yes l) ih = get_or-append (tabulate g n) (g n ∷ []) 0 i (omega (arith, tabulate_length g n)) ∙ ih l
    go (no l) ih =
        let e : i ≡ n = omega arith in
        get_or_at (tabulate g n) (g n) [] 0 i (tabulate_length g n ∙ sym e) ∙ ap g (sym e)
