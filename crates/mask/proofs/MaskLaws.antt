-- Masks of any length: the bits of the mask of a set, unused ones among them (`mask_bit`, `pack_bit`); each word of a mask is its own bits
-- (`mask_own`); the store of `set_bit` (`bit_store`); and what one turn of a loop adds, word by word (`mask_more`).
use mathlib.Core.Path.{◌≡◌, refl, sym, ap, ap₂, ◌∙◌}
use mathlib.Core.Bool.{Bool, false, ◌&&◌, ◌||◌}
use mathlib.Core.List.{List, [], ◌∷◌, ◌++◌, append_assoc, append-nil}
use Prim.Native.Nat.{ℕ, zero, suc, ◌+◌, ◌*◌, ◌/◌, ◌%◌, ◌^◌, ◌≤◌, ◌<◌}
use native.Mathlib.Nat.{not-suc-le-zero, zero-div, div-add-mod}
use native.Mathlib.Numerals.{add-one}
use native.Mathlib.Decide.{ℕ_discrete, dec_lt}
use native.Mathlib.Omega.{arith}
use borrow.Author.Tests.{lt-ltb, le-ltb, ne_eqb}
use lib.Bits.{bit_or, or_comm}
use lib.Dec.{eqb, ltb}
use lib.ListN.{length, get_or, set, drop, length-append, length-set, get_or-append, get_or-eq_default}
use lib.Seq.{drop-cons, drop-length, set_at, get_or_at, get_or-set_same, get_or-set_other, ext_get_or}
use Rattle.theory.specs.Sets.{Set}
use Rattle.theory.specs.Words.{bit_at}
use Rattle.mask.specs.Mask.{words_of, digit, bits, mask_of, below, pack, with_bit, flagged}
use Rattle.mask.proofs.BitLaws.{digit_test, one_shifted, bits_at, bits_unique, bits_none, bits_ext, bits_one, bits_or}

pub mask_length : (w : ℕ) (s : Set) → length (mask_of w s) ≡ w
unfolding mask_of
mask_length zero s = refl
mask_length (suc w) s = length-append (mask_of w s) (bits s (64 * w) 64 ∷ []) ∙ omega (arith, mask_length w s)

mask_word : (w v : ℕ) (s : Set) → v < w → get_or (mask_of w s) v 0 ≡ bits s (64 * v) 64
unfolding mask_of
mask_word zero v s h = absurd (not-suc-le-zero h)
mask_word (suc w) v s h = go (ℕ_discrete v w) (mask_word w v s)
  where
    go : Dec (v ≡ w) → (v < w → get_or (mask_of w s) v 0 ≡ bits s (64 * v) 64) → get_or (mask_of w s ++ (bits s (64 * w) 64 ∷ [])) v 0 ≡ bits s (64 * v) 64
    go (yes e) rest = get_or_at (mask_of w s) (bits s (64 * w) 64) [] 0 v (mask_length w s ∙ sym e) ∙ ap (λ (z : ℕ). bits s (64 * z) 64) (sym e)
    go (no e) rest = let l : v < w = omega arith in get_or-append (mask_of w s) (bits s (64 * w) 64 ∷ []) 0 v (omega (arith, mask_length w s)) ∙ rest l

-- a bit past the end of a mask
pub bit_past : (m : List ℕ) (i : ℕ) → length m ≤ i / 64 → bit_at m i ≡ false
unfolding bit_at
bit_past m i h = rw (get_or-eq_default m 0 {n = i / 64} h, zero-div)

-- every bit of the mask of a set
pub mask_bit : (w : ℕ) (s : Set) (i : ℕ) → bit_at (mask_of w s) i ≡ below (64 * w) s i
unfolding bit_at
mask_bit w s i = go (dec_lt i (64 * w))
  where
    go : Dec (i < 64 * w) → bit_at (mask_of w s) i ≡ below (64 * w) s i
    go (yes l) =
        rw (mask_word w (i / 64) s (omega arith), bits_at s (64 * (i / 64)) 64 (i % 64) (omega arith), digit_test, div-add-mod i 64, lt-ltb i (64 * w) l)
    go (no l) = bit_past (mask_of w s) i (omega (arith, mask_length w s)) ∙ rw (le-ltb i (64 * w) (omega arith))

-- reading a bit back, used or unused
pub pack_bit : (n : ℕ) (s : Set) (i : ℕ) → bit_at (pack n s) i ≡ below n s i
pack_bit n s i = mask_bit (words_of n) (below n s) i ∙ go (dec_lt i (64 * words_of n))
  where
    go : Dec (i < 64 * words_of n) → below (64 * words_of n) (below n s) i ≡ below n s i
    go (yes l) = rw (lt-ltb i (64 * words_of n) l)
    go (no l) = rw (le-ltb i (64 * words_of n) (omega arith), le-ltb i n (omega arith))

-- only the members below 64 * w count
pub mask_ext : (w : ℕ) (s t : Set) → ((i : ℕ) → i < 64 * w → s i ≡ t i) → mask_of w s ≡ mask_of w t
unfolding mask_of
mask_ext zero s t h = refl
mask_ext (suc w) s t h =
    ap₂ (λ (l : List ℕ) (x : ℕ). l ++ (x ∷ []))
    (mask_ext w s t (λ i l. h i (omega arith)))
    (bits_ext s t (64 * w) 64 (λ i l u. h i (omega arith)))

pub pack_ext : (n : ℕ) (s t : Set) → ((i : ℕ) → i < n → s i ≡ t i) → pack n s ≡ pack n t
pack_ext n s t h = mask_ext (words_of n) (below n s) (below n t) (λ i _. go i (dec_lt i n))
  where
    go : (i : ℕ) → Dec (i < n) → below n s i ≡ below n t i
    go i (yes l) = ap (λ (b : Bool). ltb i n && b) (h i l)
    go i (no l) = rw (le-ltb i n (omega arith))

-- a set that has no member from n on
pub mask_pack : (n : ℕ) (s : Set) → ((i : ℕ) → n ≤ i → s i ≡ false) → mask_of (words_of n) s ≡ pack n s
mask_pack n s h = mask_ext (words_of n) s (below n s) (λ i _. go i (dec_lt i n))
  where
    go : (i : ℕ) → Dec (i < n) → s i ≡ below n s i
    go i (yes l) = rw (lt-ltb i n l)
    go i (no l) = h i (omega arith) ∙ rw (le-ltb i n (omega arith))

-- a list of words is the mask of a set if each word is the set's bits there
mask_unique : (m : List ℕ) (s : Set) → ((v : ℕ) → v < length m → get_or m v 0 ≡ bits s (64 * v) 64) → m ≡ mask_of (length m) s
mask_unique m s h = ext_get_or 0 m (mask_of (length m) s) (sym (mask_length (length m) s)) (λ v l. h v l ∙ sym (mask_word (length m) v s l))

-- a word of a mask is its bits there
pub mask_own : (m : List ℕ) (v : ℕ) → get_or m v 0 < 2 ^ 64 → bits (bit_at m) (64 * v) 64 ≡ get_or m v 0
unfolding bit_at
mask_own m v f = bits_unique (bit_at m) (64 * v) 64 (get_or m v 0) f same
  where
    tested : (x : ℕ) → x < 2 → digit (eqb x 1) ≡ x
    tested zero h = refl
    tested (suc zero) h = refl
    tested (suc (suc x)) h = absurd (omega arith)

    same : (j : ℕ) → j < 64 → digit (bit_at m (64 * v + j)) ≡ get_or m v 0 / 2 ^ j % 2
    same j l =
        let a : (64 * v + j) / 64 ≡ v = omega arith in
        let b : (64 * v + j) % 64 ≡ j = omega arith in
        rw (a, b) (tested (get_or m v 0 / 2 ^ j % 2) (omega arith))

-- the store of `set_bit`
module _ (m : List ℕ) (i : ℕ) (fit : (v : ℕ) → get_or m v 0 < 2 ^ 64) where
  stored : ℕ
  stored = bit_or (get_or m (i / 64) 0) (1 * 2 ^ (i % 64) % 2 ^ 64)

  stored_bits : stored ≡ bits (λ j. eqb j i || bit_at m j) (64 * (i / 64)) 64
  unfolding stored
  stored_bits =
      ap (λ (x : ℕ). bit_or (get_or m (i / 64) 0) x) (one_shifted 64 (i % 64) (omega arith))
      ∙ or_comm (get_or m (i / 64) 0) (2 ^ (i % 64))
      ∙ ap₂ bit_or (sym (bits_one (64 * (i / 64)) 64 (i % 64) (omega arith))) (sym (mask_own m (i / 64) (fit (i / 64))))
      ∙ bits_or (λ j. eqb j (64 * (i / 64) + i % 64)) (bit_at m) (64 * (i / 64)) 64
      ∙ ap (λ (z : ℕ). bits (λ j. eqb j z || bit_at m j) (64 * (i / 64)) 64) (div-add-mod i 64)

  pub bit_store : i < 64 * length m → set m (i / 64) (bit_or (get_or m (i / 64) 0) (1 * 2 ^ (i % 64) % 2 ^ 64)) ≡ with_bit i m
  unfolding stored
  bit_store h =
      mask_unique (set m (i / 64) stored) (λ j. eqb j i || bit_at m j) (λ v l. word v (ℕ_discrete v (i / 64)))
      ∙ ap (λ (n : ℕ). mask_of n (λ j. eqb j i || bit_at m j)) (length-set m (i / 64) stored)
    where
      word : (v : ℕ) → Dec (v ≡ i / 64) → get_or (set m (i / 64) stored) v 0 ≡ bits (λ j. eqb j i || bit_at m j) (64 * v) 64
      word v (yes e) = rw e (get_or-set_same m (i / 64) stored 0 (omega arith) ∙ stored_bits)
      word v (no e) =
          get_or-set_other m (i / 64) v stored 0 e
          ∙ sym (mask_own m v (fit v))
          ∙ bits_ext (bit_at m) (λ j. eqb j i || bit_at m j) (64 * v) 64 (λ j l u. rw (ne_eqb j i (λ q. omega arith)))

-- ---- a loop over the words: what is written so far, and the rest as it was

pub mask_more : (w : ℕ) (s : Set) (d : List ℕ) (x : ℕ) → w < length d → x ≡ bits s (64 * w) 64 → set (mask_of w s ++ drop w d) w x ≡ mask_of (w + 1) s ++ drop (w + 1) d
unfolding mask_of
mask_more w s d x h e = rw (e, add-one, drop-cons d w 0, set_at (mask_of w s) (get_or d w 0) (drop (suc w) d) (bits s (64 * w) 64) w (mask_length w s), append_assoc)

pub mask_whole : (w : ℕ) (s : Set) (d : List ℕ) → w ≡ length d → mask_of w s ++ drop w d ≡ mask_of (length d) s
mask_whole w s d e = rw (e, drop-length, append-nil)

-- ---- flags

-- past the last flag there is no member
flag_past : (flags : List ℕ) (i : ℕ) → length flags ≤ i → flagged flags i ≡ false
flag_past flags i h = rw (get_or-eq_default flags 0 {n = i} h)

pub flags_past : (flags : List ℕ) (i k : ℕ) → ((j : ℕ) → i ≤ j → j < i + k → length flags ≤ j) → bits (flagged flags) i k ≡ 0
flags_past flags i k h = bits_none (flagged flags) i k (λ j l u. flag_past flags j (h j l u))

pub flags_pack : (flags : List ℕ) → mask_of (words_of (length flags)) (flagged flags) ≡ pack (length flags) (flagged flags)
flags_pack flags = mask_pack (length flags) (flagged flags) (flag_past flags)
