-- Request 13: fixing the first undecided atom both ways and adding the two counts gives the count (`times_first`); with none left it is 1 if the test is passed and 0 if not (`times_last`).
-- The three counts of an atom add up to 2 to the number of undecided atoms (`times_add`, `tallies_add`). Where they stand in the output: `tallies_length`, `tallies_at`.
use mathlib.Core.Path.{◌≡◌, refl, ap, ap₂, ◌∙◌, fun_ext}
use mathlib.Core.Bool.{Bool, true, false, not, ◌&&◌, ◌||◌, cond}
use mathlib.Core.List.{List, [], ◌∷◌, ◌++◌, map}
use Prim.Native.Nat.{ℕ, zero, suc, ◌+◌, ◌*◌, ◌^◌, ◌<◌}
use native.Mathlib.Omega.{arith}
use native.Mathlib.Nat.{pow-suc}
use lib.Dec.{eqb}
use lib.ListN.{length, get_or, length-append, length-map}
use Rattle.theory.specs.Sets.{Set, members}
use Rattle.theory.specs.Theory.{Theory}
use Rattle.theory.specs.Founded.{missing}
use Rattle.theory.proofs.SetLaws.{clash, or_none}
use Rattle.theory.proofs.FoundedLaws.{missing_parts}
use Rattle.choices.specs.Choices.{◌∪◌, nobody, adding, choices, choices_below}
use Rattle.choices.specs.Tallies.{times, is_missing, is_ruled_out, is_neither, times_missing, times_ruled_out, times_neither, by_threes, tallies}

-- ---- one undecided number after the other

module _ (test : Set → Bool) (cut : Set) where
  times_append : (l m : List Set) → times test cut (l ++ m) ≡ times test cut l + times test cut m
  unfolding times
  times_append [] m = omega arith
  times_append (c ∷ l) m = let h = times_append l m in omega arith

  -- x ruled out by every choice of the list, or by the cuts
  times_adding : (x : ℕ) (l : List Set) → times test cut (map (adding x) l) ≡ times test (adding x cut) l
  unfolding times
  times_adding x [] = refl
  times_adding x (c ∷ l) = ap₂ (λ (b : Bool) (k : ℕ). cond b 1 0 + k) (ap test (fun_ext (λ v. swap (cut v) (eqb x v) (c v)))) (times_adding x l)
    where
      swap : (a b c : Bool) → a || (b || c) ≡ (b || a) || c
      swap true true c = refl
      swap true false c = refl
      swap false true c = refl
      swap false false c = refl

  -- x fixed both ways: left, and ruled out
  pub times_first : (x : ℕ) (l : List ℕ) → times test cut (choices (x ∷ l)) ≡ times test cut (choices l) + times test (adding x cut) (choices l)
  unfolding choices
  times_first x l = times_append (choices l) (map (adding x) (choices l)) ∙ ap (λ (k : ℕ). times test cut (choices l) + k) (times_adding x (choices l))

  pub times_last : times test cut (choices []) ≡ cond (test cut) 1 0
  unfolding choices times
  times_last = rw (fun_ext {f = cut ∪ nobody} {g = cut} (λ v. or_none (cut v))) (omega arith)

-- ---- the three counts

choices_many : (l : List ℕ) → length (choices l) ≡ 2 ^ length l
unfolding choices
choices_many [] = refl
choices_many (x ∷ l) =
    let h = choices_many l in
    length-append (choices l) (map (adding x) (choices l)) ∙ omega (arith, h, length-map (choices l) (adding x), pow-suc 2 (length l))

module _ (th : Theory) (never : Set) (a : ℕ) where
  -- exactly one of the three applies
  pub one_applies : (cut : Set) → cond (is_missing th never a cut) 1 0 + cond (is_ruled_out th never a cut) 1 0 + cond (is_neither th never a cut) 1 0 ≡ 1
  one_applies cut = go (missing th never cut a) refl (cut a) refl
    where
      go : (m : Bool) → missing th never cut a ≡ m → (r : Bool) → cut a ≡ r → cond m 1 0 + cond r 1 0 + cond (not m && not r) 1 0 ≡ 1
      go true p true q = clash q ((missing_parts th never cut a).0 p).1
      go true p false q = refl
      go false p true q = refl
      go false p false q = refl

  pub times_add : (cut : Set) (l : List ℕ) → times (is_missing th never a) cut (choices l) + times (is_ruled_out th never a) cut (choices l) + times (is_neither th never a) cut (choices l) ≡ 2 ^ length l
  unfolding times
  times_add cut l = each (choices l) ∙ choices_many l
    where
      each : (m : List Set) → times (is_missing th never a) cut m + times (is_ruled_out th never a) cut m + times (is_neither th never a) cut m ≡ length m
      each [] = refl
      each (c ∷ m) = let h = each m in let one = one_applies (cut ∪ c) in omega arith

module _ (th : Theory) (never atom_never undecided : Set) where
  pub tallies_add : (a : ℕ)
      → times_missing th never atom_never undecided a + times_ruled_out th never atom_never undecided a + times_neither th never atom_never undecided a ≡ 2 ^ length (members th.atoms undecided)
  unfolding times_missing times_ruled_out times_neither choices_below
  tallies_add a = times_add th never a atom_never (members th.atoms undecided)

-- ---- the output

threes_length : (f g h : ℕ → ℕ) (a n : ℕ) → length (by_threes f g h a n) ≡ 3 * n
unfolding by_threes
threes_length f g h a zero = refl
threes_length f g h a (suc n) = let e = threes_length f g h (suc a) n in omega arith

threes_at : (f g h : ℕ → ℕ) (i a n : ℕ) → i < n
    → (get_or (by_threes f g h a n) (3 * i) 0 ≡ f (a + i)) × (get_or (by_threes f g h a n) (3 * i + 1) 0 ≡ g (a + i)) × (get_or (by_threes f g h a n) (3 * i + 2) 0 ≡ h (a + i))
unfolding by_threes
threes_at f g h i a zero l = absurd (omega arith)
threes_at f g h zero a (suc n) l = let e : a ≡ a + 0 = omega arith in (ap f e, ap g e, ap h e)
threes_at f g h (suc i) a (suc n) l =
    let r = threes_at f g h i (suc a) n (omega arith) in
    let e : suc a + i ≡ a + suc i = omega arith in
    let p : 3 * suc i ≡ suc (suc (suc (3 * i))) = omega arith in
    let q : 3 * suc i + 1 ≡ suc (suc (suc (3 * i + 1))) = omega arith in
    let s : 3 * suc i + 2 ≡ suc (suc (suc (3 * i + 2))) = omega arith in
    (ap at p ∙ r.0 ∙ ap f e, ap at q ∙ r.1 ∙ ap g e, ap at s ∙ r.2 ∙ ap h e)
  where
    at : ℕ → ℕ
    at k = get_or (f a ∷ g a ∷ h a ∷ by_threes f g h (suc a) n) k 0

module _ (th : Theory) (never atom_never undecided : Set) where
  pub tallies_length : length (tallies th never atom_never undecided) ≡ 3 * th.atoms
  unfolding tallies
  tallies_length = threes_length (times_missing th never atom_never undecided) (times_ruled_out th never atom_never undecided) (times_neither th never atom_never undecided) 0 th.atoms

  -- three to an atom, in this order
  pub tallies_at : (a : ℕ) → a < th.atoms
      → (get_or (tallies th never atom_never undecided) (3 * a) 0 ≡ times_missing th never atom_never undecided a)
      × (get_or (tallies th never atom_never undecided) (3 * a + 1) 0 ≡ times_ruled_out th never atom_never undecided a)
      × (get_or (tallies th never atom_never undecided) (3 * a + 2) 0 ≡ times_neither th never atom_never undecided a)
  unfolding tallies
  tallies_at a l =
      let e : 0 + a ≡ a = omega arith in
      rw e at (threes_at (times_missing th never atom_never undecided) (times_ruled_out th never atom_never undecided) (times_neither th never atom_never undecided) a 0 th.atoms l)
