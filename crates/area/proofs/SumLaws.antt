-- A sum that is made a number at a time.
use mathlib.Core.Path.{◌≡◌}
use Prim.Native.Nat.{ℕ, ◌+◌}
use native.Mathlib.Omega.{arith}
use native.Mathlib.Numerals.{add-one}
use Rattle.theory.specs.Sets.{sum_below}
use Rattle.theory.proofs.CountLaws.{sum_step}

pub sum_none : (f : ℕ → ℕ) → 0 ≡ sum_below 0 f
unfolding sum_below
sum_none f = omega arith

pub sum_turn : (f : ℕ → ℕ) {n total x : ℕ} → total ≡ sum_below n f → x ≡ f n → total + x ≡ sum_below (n + 1) f
sum_turn f {n} t e = rw (add-one n) (let s = sum_step n f in omega arith)
