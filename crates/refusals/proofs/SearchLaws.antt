-- A search for the first place where a test holds, a place at a time, and what it finds as a row of the table.
use mathlib.Core.Path.{◌≡◌, refl, sym, ap, ◌∙◌}
use mathlib.Core.Bool.{Bool, true, false, cond}
use mathlib.Core.Logic.{◌⊎◌, inl, inr}
use Prim.Native.Nat.{ℕ, zero, suc, ◌+◌, ◌≤◌, ◌<◌}
use native.Mathlib.Decide.{ℕ_discrete, dec_lt}
use native.Mathlib.Omega.{arith}
use Rattle.theory.proofs.SetLaws.{bool_cases}
use Rattle.refusals.specs.Answer.{refuse, accept, refuse_if, refuse_first}
use Rattle.refusals.specs.Search.{Clear, First, Finds}
use Rattle.std.specs.Prelude.{Option, Some, None, MatchOption}

module _ {bad : ℕ → Bool} where
  pub clear_none : (from : ℕ) → Clear bad from from
  clear_none from = record { low = omega arith; none = λ i p q. absurd (omega arith) }

  pub clear_more : {from r : ℕ} → Clear bad from r → bad r ≡ false → Clear bad from (r + 1)
  clear_more {from} {r} c e = record { low = omega arith; none = λ i p q. go i p q (ℕ_discrete i r) }
    where
      go : (i : ℕ) → from ≤ i → i < r + 1 → Dec (i ≡ r) → bad i ≡ false
      go i p q (yes d) = ap bad d ∙ e
      go i p q (no d) = c.none i p (omega arith)

  pub first_found : {from end r : ℕ} → Clear bad from r → r < end → bad r ≡ true → First bad from end r
  first_found c h e = record { before = c; high = omega arith; found = λ _. e }

  pub first_none : {from end r : ℕ} → Clear bad from r → r ≡ end → First bad from end r
  first_none c e = record { before = c; high = omega arith; found = λ h. absurd (omega arith) }

  -- the search came to the end
  pub first_clear : {from end r : ℕ} → First bad from end r → end ≤ r → Clear bad from end
  first_clear {from} f h = let e = f.high in let low = f.before.low in record { low = omega arith; none = λ i p q. f.before.none i p (omega arith) }

  -- a search that began at a later place, where the test holds at none before that
  later : {from start end r : ℕ} → Clear bad from start → First bad start end r → First bad from end r
  later {from} {start} {r = r} c f =
      let low = f.before.low in
      let high = c.low in
      record { before = record { low = omega arith; none = λ i p q. go i p q (dec_lt i start) }; high = f.high; found = f.found }
    where
      go : (i : ℕ) → from ≤ i → i < r → Dec (i < start) → bad i ≡ false
      go i p q (yes h) = c.none i p h
      go i p q (no h) = f.before.none i (omega arith) q

  pub finds_later : (start end : ℕ) {from : ℕ} → Clear bad from start → (r : Option ℕ) → Finds bad start end r → Finds bad from end r
  finds_later start end c None f = later c f
  finds_later start end c (Some i) f = (f.0, later c f.1)

-- what `find` over a range says, where its closure answers as the test does within the range
pub finds_first : (bad : ℕ → Bool) {from end : ℕ} → from ≤ end → (r : Option ℕ)
    → MatchOption r ((i : ℕ) → from ≤ i → i < end → from ≤ i → i < end → bad i ≡ false)
    (λ i. (from ≤ i) × (i < end) × (from ≤ i → i < end → bad i ≡ true) × ((k : ℕ) → from ≤ k → k < i → from ≤ k → k < end → bad k ≡ false))
    → Finds bad from end r
finds_first bad low None f = first_none (record { low = low; none = λ i p q. f i p q p q }) refl
finds_first bad low (Some i) f = (f.1, first_found (record { low = f.0; none = λ k p q. f.3 k p q p (omega (arith, f.1)) }) f.1 (f.2 f.0 f.1))

module _ (bad : ℕ → Bool) where
  -- the row refuses at the place that was found
  pub row_refuses : (number from count : ℕ) {end r : ℕ} → First bad from end r → from + count ≡ end → r < end → refuse_first number bad from count ≡ refuse number r
  unfolding refuse_first
  row_refuses number from zero f e h = absurd (omega (arith, f.before.low))
  row_refuses number from (suc count) {end} {r} f e h = go (ℕ_discrete from r) (λ (g : First bad (suc from) end r). row_refuses number (suc from) count g (omega arith) h)
    where
      go : Dec (from ≡ r) → (First bad (suc from) end r → refuse_first number bad (suc from) count ≡ refuse number r)
          → cond (bad from) (refuse number from) (refuse_first number bad (suc from) count) ≡ refuse number r
      go (yes d) ih = rw (ap bad d ∙ f.found h) (ap (refuse number) d)
      go (no d) ih =
          let low : from ≤ r = f.before.low in
          rw (f.before.none from (omega arith) (omega arith))
          (ih (record { before = record { low = omega arith; none = λ i p q. f.before.none i (omega arith) q }; high = f.high; found = f.found }))

  -- it passes where the search comes to the end
  pub row_passes : (number from count : ℕ) {end r : ℕ} → First bad from end r → from + count ≡ end → end ≤ r → refuse_first number bad from count ≡ accept
  unfolding refuse_first
  row_passes number from count f e h = go from count (first_clear f h) e
    where
      go : (from count : ℕ) {end : ℕ} → Clear bad from end → from + count ≡ end → refuse_first number bad from count ≡ accept
      go from zero c e = refl
      go from (suc count) c e =
          rw (c.none from (omega arith) (omega arith)) (go (suc from) count (record { low = omega arith; none = λ i p q. c.none i (omega arith) q }) (omega arith))

  -- and a row that does not refuse is clear
  pub row_clear : (number from count : ℕ) {end : ℕ} → (refuse_first (suc number) bad from count).number ≡ 0 → from + count ≡ end → Clear bad from end
  unfolding refuse_first
  row_clear number from zero e h = record { low = omega arith; none = λ i p q. absurd (omega arith) }
  row_clear number from (suc count) {end} e h = go (bool_cases (bad from)) (λ (z : (refuse_first (suc number) bad (suc from) count).number ≡ 0). row_clear number (suc from) count z (omega arith))
    where
      pick : Clear bad (suc from) end → bad from ≡ false → (i : ℕ) → from ≤ i → i < end → Dec (from ≡ i) → bad i ≡ false
      pick c f i p q (yes d) = ap bad (sym d) ∙ f
      pick c f i p q (no d) = c.none i (omega arith) q

      go : (bad from ≡ true) ⊎ (bad from ≡ false) → ((refuse_first (suc number) bad (suc from) count).number ≡ 0 → Clear bad (suc from) end) → Clear bad from end
      go (inl t) rest = absurd (let z : suc number ≡ 0 = rw t at e in omega arith)
      go (inr f) rest = let c = rest (rw f at e) in record { low = omega arith; none = λ i p q. pick c f i p q (ℕ_discrete from i) }

pub if_clear : (number : ℕ) (t : Bool) → (refuse_if (suc number) t).number ≡ 0 → t ≡ false
if_clear number true e = absurd (omega arith)
if_clear number false e = refl
