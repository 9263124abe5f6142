-- Decimal numbers digit by digit, numbers with a space before each, and the members of a set that the loops have come to.
use mathlib.Core.Path.{◌≡◌, refl, sym, ap, ◌∙◌}
use mathlib.Core.Bool.{Bool, true, false, cond}
use mathlib.Core.List.{List, [], ◌∷◌, ◌++◌, append_assoc, append-nil}
use Prim.Native.Nat.{ℕ, zero, suc, ◌+◌, ◌*◌, ◌≤◌, ◌<◌, ◌^◌}
use native.Mathlib.Numerals.{add-one}
use native.Mathlib.Omega.{arith}
use lib.ListN.{length, get_or, take, drop, length-append}
use lib.Seq.{take-suc}
use borrow.Author.Tests.{lt-ltb, le-ltb}
use Rattle.std.specs.Fmt.{decimal as Fmt·decimal}
use Rattle.std.proofs.lemmas.Fmt.{AppendsLastDigit, decimal_from_appends, length-decimal-le, length-decimal-le_succ}
use Rattle.std.proofs.lemmas.List.{take-append-drop}
use Rattle.theory.specs.Sets.{Set, members}
use Rattle.text.specs.Text.{digits_in, decimal, spaced, line, loops_line, refused_line, missing_line}

-- what is appended twice
pub append_then : (old s t : List ℕ) {mid new : List ℕ} → mid ≡ old ++ s → new ≡ mid ++ t → new ≡ old ++ (s ++ t)
append_then old s t p q = q ∙ rw (p, append_assoc old s t)

-- ---- one number

-- the digits are those that the library writes
digits_append : AppendsLastDigit digits_in
unfolding digits_in
digits_append = record { one = λ k n h. rw (lt-ltb n 10 h); more = λ k n h. rw (le-ltb n 10 h) }

decimal_library : (n : ℕ) → n < 2 ^ 64 → decimal n ≡ Fmt·decimal n
unfolding decimal
decimal_library n h = decimal_from_appends digits_in digits_append (suc n) n h (omega (arith, length-decimal-le_succ n h))

-- the bytes of the text that the library formats
pub number_text : (n : ℕ) {bytes text : List ℕ} → n < 2 ^ 64 → bytes ≡ text → text ≡ Fmt·decimal n → bytes ≡ decimal n
number_text n h b t = b ∙ t ∙ sym (decimal_library n h)

decimal_four : (n : ℕ) → n < 10000 → length (decimal n) ≤ 4
decimal_four n h = rw (decimal_library n (omega arith)) (length-decimal-le 4 n (omega arith) h (omega arith))

decimal_five : (n : ℕ) → n < 100000 → length (decimal n) ≤ 5
decimal_five n h = rw (decimal_library n (omega arith)) (length-decimal-le 5 n (omega arith) h (omega arith))

-- ---- numbers, one space before each

spaced_append : (l m : List ℕ) → spaced (l ++ m) ≡ spaced l ++ spaced m
unfolding spaced
spaced_append [] m = refl
spaced_append (n ∷ l) m = rw (spaced_append l m, append_assoc (decimal n) (spaced l) (spaced m))

-- one number more after a word
pub line_next : (word l : List ℕ) (i : ℕ) → i < length l → word ++ spaced (take (i + 1) l) ≡ (word ++ spaced (take i l)) ++ (32 ∷ decimal (get_or l i 0))
unfolding spaced
line_next word l i h = rw (add-one, take-suc l i 0 h, spaced_append, append-nil, append_assoc word (spaced (take i l)))

-- the numbers so far are no longer than all of them
spaced_part : (l : List ℕ) (i : ℕ) → length (spaced (take i l)) ≤ length (spaced l)
spaced_part l i =
    omega (arith, length-append (spaced (take i l)) (spaced (drop i l)), ap length (spaced_append (take i l) (drop i l)), ap (λ (k : List ℕ). length (spaced k)) (take-append-drop i l))

-- there is room for the next number where there is room for the line
pub line_room : (word l : List ℕ) (i : ℕ) → i < length l → length (word ++ spaced (take i l)) + (1 + length (decimal (get_or l i 0))) ≤ length (line word l)
line_room word l i h =
    omega (
      arith,
      spaced_part l (i + 1),
      ap length (line_next word l i h),
      length-append (word ++ spaced (take i l)) (32 ∷ decimal (get_or l i 0)),
      length-append word (spaced (take (i + 1) l)),
      length-append word (spaced l),
      length-append (word ++ spaced l) (10 ∷ []),
    )

-- a refusal's line has at most 20 bytes
pub refused_few : (n p : ℕ) → n < 65536 → p < 65536 → length (refused_line n p) ≤ 20
unfolding spaced
refused_few n p h k =
    let five = decimal_five n (omega arith) in
    let end = decimal_five p (omega arith) in
    grind (arith, append-nil, length-append, five, end)

-- ---- the members of a set

pub members_none : (s : Set) → members 0 s ≡ []
unfolding members
members_none s = refl

pub members_with : (n : ℕ) (s : Set) → s n ≡ true → members (n + 1) s ≡ members n s ++ (n ∷ [])
unfolding members
members_with n s e = rw (add-one, e)

pub members_without : (n : ℕ) (s : Set) → s n ≡ false → members (n + 1) s ≡ members n s
unfolding members
members_without n s e = rw (add-one, e)

pub members_few : (n : ℕ) (s : Set) → length (members n s) ≤ n
unfolding members
members_few zero s = omega arith
members_few (suc n) s = go (s n) (members_few n s)
  where
    go : (b : Bool) → length (members n s) ≤ n → length (cond b (members n s ++ (n ∷ [])) (members n s)) ≤ suc n
    go true h = rw length-append (omega arith)
    go false h = omega arith

spaced_few : (n : ℕ) (s : Set) → n ≤ 10000 → length (spaced (members n s)) ≤ 5 * n
unfolding members spaced
spaced_few zero s h = omega arith
spaced_few (suc n) s h = go (s n) (spaced_few n s (omega arith)) (decimal_four n (omega arith))
  where
    go : (b : Bool) → length (spaced (members n s)) ≤ 5 * n → length (decimal n) ≤ 4 → length (spaced (cond b (members n s ++ (n ∷ [])) (members n s))) ≤ 5 * suc n
    go true few four = rw (spaced_append, length-append) (omega (arith, ap length (append-nil (decimal n))))
    go false few four = omega arith

-- both lines have at most 5,143 bytes
pub loops_few : (cycle : Bool) → length (loops_line cycle) ≤ 10
loops_few true = omega arith
loops_few false = omega arith

pub missing_few : (n : ℕ) (s : Set) → n ≤ 1024 → length (missing_line (members n s)) ≤ 5133
unfolding spaced
missing_few n s h =
    let few = members_few n s in
    let count = decimal_four (length (members n s)) (omega arith) in
    let list = spaced_few n s (omega arith) in
    grind (arith, length-append, count, list)
