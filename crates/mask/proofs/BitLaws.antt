-- The bits of a set in one number: each is read back by a shift, a number is the bits of its own digits, and `|` and `1 << b` are union and
-- one member.
use mathlib.Core.Path.{◌≡◌, refl, sym, ap, ap₂, ◌∙◌}
use mathlib.Core.Bool.{Bool, true, false, ◌||◌}
use Prim.Native.Nat.{ℕ, zero, suc, ◌+◌, ◌-◌, ◌*◌, ◌/◌, ◌%◌, ◌^◌, ◌≤◌, ◌<◌, max}
use native.Mathlib.Nat.{not-suc-le-zero, le_of_suc-le-suc, one-mul, pow-suc}
use native.Mathlib.Numerals.{one-add}
use native.Mathlib.Omega.{arith}
use borrow.Author.Tests.{eq-eqb, ne_eqb}
use lib.Bits.{bit_or, or_step, or_shifted}
use lib.Dec.{eqb}
use lib.Pow.{shr-shr, shl_exact}
use Rattle.theory.specs.Sets.{Set}
use Rattle.mask.specs.Mask.{digit, bits}

pub digit_small : (b : Bool) → digit b ≤ 1
digit_small true = omega arith
digit_small false = omega arith

pub digit_test : (b : Bool) → eqb (digit b) 1 ≡ b
digit_test true = refl
digit_test false = refl

-- the digits above the lowest
digit_up : (x j : ℕ) → x / 2 / 2 ^ j % 2 ≡ x / 2 ^ suc j % 2
digit_up x j = ap (λ (z : ℕ). z % 2) (shr-shr x 1 j ∙ ap (λ (z : ℕ). x / 2 ^ z) (one-add j))

-- `1 << b` at a width of w bits
pub one_shifted : (w b : ℕ) → b < w → 1 * 2 ^ b % 2 ^ w ≡ 2 ^ b
one_shifted w b h = shl_exact 1 b w (omega arith) (omega arith) ∙ one-mul (2 ^ b)

module _ (s : Set) where
  pub bits_fit : (i k : ℕ) → bits s i k < 2 ^ k
  unfolding bits
  bits_fit i zero = omega arith
  bits_fit i (suc k) = omega (arith, digit_small (s i), bits_fit (suc i) k, pow-suc 2 k)

  -- the lowest bit, and the others
  bits_low : (i k : ℕ) → bits s i (suc k) % 2 ≡ digit (s i)
  unfolding bits
  bits_low i k = omega (arith, digit_small (s i))

  bits_high : (i k : ℕ) → bits s i (suc k) / 2 ≡ bits s (suc i) k
  unfolding bits
  bits_high i k = omega (arith, digit_small (s i))

  -- bit j
  pub bits_at : (i k j : ℕ) → j < k → bits s i k / 2 ^ j % 2 ≡ digit (s (i + j))
  bits_at i zero j h = absurd (not-suc-le-zero h)
  bits_at i (suc k) zero h =
      let e : i ≡ i + 0 = omega arith in
      omega (arith, bits_low i k, ap (λ (z : ℕ). digit (s z)) e)
  bits_at i (suc k) (suc j) h =
      let e : suc i + j ≡ i + suc j = omega arith in
      sym (digit_up (bits s i (suc k)) j)
      ∙ ap (λ (z : ℕ). z / 2 ^ j % 2) (bits_high i k)
      ∙ bits_at (suc i) k j (le_of_suc-le-suc h)
      ∙ ap (λ (z : ℕ). digit (s z)) e

  -- a number of k bits is the bits of its own digits
  pub bits_unique : (i k x : ℕ) → x < 2 ^ k → ((j : ℕ) → j < k → digit (s (i + j)) ≡ x / 2 ^ j % 2) → bits s i k ≡ x
  unfolding bits
  bits_unique i zero x f h = omega arith
  bits_unique i (suc k) x f h =
      let z : i + 0 ≡ i = omega arith in
      let low : digit (s (i + 0)) ≡ x / 1 % 2 = h 0 (omega arith) in
      let high = bits_unique (suc i) k (x / 2) (omega (arith, pow-suc 2 k)) up in
      omega (arith, ap (λ (y : ℕ). digit (s y)) z)
    where
      up : (j : ℕ) → j < k → digit (s (suc i + j)) ≡ x / 2 / 2 ^ j % 2
      up j l =
          let e : suc i + j ≡ i + suc j = omega arith in
          ap (λ (y : ℕ). digit (s y)) e ∙ h (suc j) (omega arith) ∙ sym (digit_up x j)

  pub bits_none : (i k : ℕ) → ((j : ℕ) → i ≤ j → j < i + k → s j ≡ false) → bits s i k ≡ 0
  unfolding bits
  bits_none i zero h = refl
  bits_none i (suc k) h =
      omega (arith, ap digit (h i (omega arith) (omega arith)), bits_none (suc i) k (λ j l u. h j (omega arith) (omega arith)))

  -- a word of w bits that starts at a number, made from its highest bit down: what is made so far starts at i
  pub bits_down : (w from i x : ℕ) → from < i → i ≤ from + w → x ≡ bits s i (from + w - i) → bit_or (x * 2 ^ 1 % 2 ^ w) (digit (s (i - 1))) ≡ bits s (i - 1) (from + w - (i - 1))
  unfolding bits
  bits_down w from i x l u e =
      let more : from + w - (i - 1) ≡ suc (from + w - i) = omega arith in
      let next : suc (i - 1) ≡ i = omega arith in
      let fit : x < 2 ^ (from + w - i) = rw e (bits_fit i (from + w - i)) in
      let d : digit (s (i - 1)) < 2 ^ 1 = omega (arith, digit_small (s (i - 1))) in
      ap (λ (y : ℕ). bit_or y (digit (s (i - 1)))) (shl_exact (from + w - i) 1 w fit (omega arith))
      ∙ or_shifted x 1 (digit (s (i - 1))) d
      ∙ rw (more, next, ← e) (omega arith)

pub bits_ext : (s t : Set) (i k : ℕ) → ((j : ℕ) → i ≤ j → j < i + k → s j ≡ t j) → bits s i k ≡ bits t i k
unfolding bits
bits_ext s t i zero h = refl
bits_ext s t i (suc k) h =
    ap₂ (λ (a b : ℕ). a + 2 * b)
    (ap digit (h i (omega arith) (omega arith)))
    (bits_ext s t (suc i) k (λ j l u. h j (omega arith) (omega arith)))

-- one member
pub bits_one : (i k b : ℕ) → b < k → bits (λ j. eqb j (i + b)) i k ≡ 2 ^ b
unfolding bits
bits_one i zero b h = absurd (not-suc-le-zero h)
bits_one i (suc k) zero h =
    let own : eqb i (i + 0) ≡ true = eq-eqb i (i + 0) (omega arith) in
    omega (arith, ap digit own, bits_none (λ j. eqb j (i + 0)) (suc i) k (λ j l u. ne_eqb j (i + 0) (λ q. omega arith)))
bits_one i (suc k) (suc b) h =
    let own : eqb i (i + suc b) ≡ false = ne_eqb i (i + suc b) (λ q. omega arith) in
    let e : i + suc b ≡ suc i + b = omega arith in
    let rest : bits (λ j. eqb j (i + suc b)) (suc i) k ≡ 2 ^ b = ap (λ (z : ℕ). bits (λ j. eqb j z) (suc i) k) e ∙ bits_one (suc i) k b (le_of_suc-le-suc h) in
    omega (arith, ap digit own, pow-suc 2 b)

-- an operation that goes digit by digit
module _ (op f : ℕ → ℕ → ℕ) (test : Bool → Bool → Bool)
    (none : op 0 0 ≡ 0)
    (step : (a b : ℕ) → op a b ≡ op (a / 2) (b / 2) * 2 + f (a % 2) (b % 2))
    (digits : (a b : Bool) → f (digit a) (digit b) ≡ digit (test a b)) where
  bits_op : (s t : Set) (i k : ℕ) → op (bits s i k) (bits t i k) ≡ bits (λ j. test (s j) (t j)) i k
  unfolding bits
  bits_op s t i zero = none
  bits_op s t i (suc k) =
      let high : op (bits s i (suc k) / 2) (bits t i (suc k) / 2) ≡ bits (λ j. test (s j) (t j)) (suc i) k = ap₂ op (bits_high s i k) (bits_high t i k) ∙ bits_op s t (suc i) k in
      let low : f (bits s i (suc k) % 2) (bits t i (suc k) % 2) ≡ digit (test (s i) (t i)) = ap₂ f (bits_low s i k) (bits_low t i k) ∙ digits (s i) (t i) in
      step (bits s i (suc k)) (bits t i (suc k)) ∙ omega arith

pub bits_or : (s t : Set) (i k : ℕ) → bit_or (bits s i k) (bits t i k) ≡ bits (λ j. s j || t j) i k
bits_or = bits_op bit_or max (λ a b. a || b) refl or_step digits
  where
    digits : (a b : Bool) → max (digit a) (digit b) ≡ digit (a || b)
    digits true true = refl
    digits true false = refl
    digits false true = refl
    digits false false = refl
