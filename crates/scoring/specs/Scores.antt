-- How answers are counted: two numbers for each call, how many agree and how many differ.
use Rattle.std.specs.Prelude.{◌≡◌, Bool, true, false, ℕ, ◌+◌, min}
use Rattle.scoring.specs.declared.Score.{Score}

-- one more, and never past the largest
abbrev pub counted : ℕ → ℕ
counted n = min (n + 1) 18446744073709551615

abbrev pub scored : (same : Bool) → Score → Score
scored true score = record score { agree = counted score.agree }
scored false score = record score { differ = counted score.differ }

-- An answer that was replayed is counted by the reply that `Agrees` is told of.
pub record Scored (Agrees : Bool → Type 0) (score score' : Score) : Type 0 where
  pub same : Bool
  pub told : Agrees same
  pub after : score' ≡ scored same score
