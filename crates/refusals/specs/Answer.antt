-- What a call answers: the number of a refusal and its place (document 01, "Where a call is turned away"). A call's table is a list of
-- answers, a row each, and the call gives the first that is a refusal.
use Rattle.std.specs.Prelude.{Bool, true, false, cond, List, [], ◌∷◌, ℕ, zero, suc, eqb}

-- number 0 is no refusal
pub record Answer : Type 0 where
  pub number : ℕ
  pub place : ℕ

abbrev pub refuse : ℕ → ℕ → Answer
refuse n p = record { number = n; place = p }

abbrev pub accept : Answer
accept = refuse 0 0

-- a row that gives its refusal exactly if the test holds, at place 0
abbrev pub refuse_if : ℕ → Bool → Answer
refuse_if number true = refuse number 0
refuse_if number false = accept

-- the first of two that is a refusal
abbrev pub or_next : Answer → Answer → Answer
or_next a b = cond (eqb a.number 0) b a

-- a row that gives its refusal at the first of `count` places from i on where the test holds
unfoldable pub refuse_first : ℕ → (ℕ → Bool) → ℕ → ℕ → Answer
refuse_first number bad i zero = accept
refuse_first number bad i (suc count) = cond (bad i) (refuse number i) (refuse_first number bad (suc i) count)

-- the first of a table
unfoldable pub first_refusal : List Answer → Answer
first_refusal [] = accept
first_refusal (a ∷ rows) = or_next a (first_refusal rows)
