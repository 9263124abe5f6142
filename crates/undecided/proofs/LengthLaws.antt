-- What the test of 10 leaves: both outputs fit.
use mathlib.Core.Path.{◌≡◌}
use mathlib.Core.Bool.{false}
use mathlib.Core.List.{List}
use Prim.Native.Nat.{ℕ}
use lib.ListN.{get_or}
use Rattle.theory.proofs.SetLaws.{neither_left, neither_right}
use Rattle.founded.specs.Answers.{bad_mask, bad_output}
use Rattle.undecided.specs.Answers.{bad_open_lengths}

pub outputs_fit : (ws : List ℕ) (n a p q x y : ℕ) → bad_open_lengths ws n a p q x y ≡ false → (bad_output (get_or ws 1 0) x ≡ false) × (bad_output (get_or ws 1 0) y ≡ false)
unfolding bad_open_lengths
outputs_fit ws n a p q x y e =
    let f =
    neither_right (bad_mask (get_or ws 1 0) q) _
    (neither_right (bad_mask (get_or ws 2 0) p) _
    (neither_right (bad_mask (get_or ws 1 0) a) _
    (neither_right (bad_mask (get_or ws 2 0) n) _ e))) in
    (neither_left (bad_output (get_or ws 1 0) x) _ f, neither_right (bad_output (get_or ws 1 0) x) _ f)
