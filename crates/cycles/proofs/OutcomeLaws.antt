-- An answer yes says that there is a closed walk, and no that there is none.
use mathlib.Core.Path.{◌≡◌, sym, ◌∙◌}
use mathlib.Core.Logic.{◌↔◌}
use mathlib.Core.Bool.{Bool, true}
use mathlib.Core.List.{List}
use Prim.Native.Nat.{ℕ}
use Rattle.theory.specs.Founded.{has_cycle}
use Rattle.theory.specs.Words.{theory_of}
use Rattle.theory.proofs.CycleLaws.{has_cycle_walk}
use Rattle.cycles.specs.Outcome.{loops, ClosedWalk}

loops_same : {a b : Bool} → loops a ≡ loops b → a ≡ b
loops_same e = cc

pub loops_walk : (ws : List ℕ) {reply yes : Bool} → reply ≡ has_cycle (theory_of ws) → loops reply ≡ loops yes → (yes ≡ true) ↔ ClosedWalk (theory_of ws)
loops_walk ws e l = rw (loops_same (sym l) ∙ e) (has_cycle_walk (theory_of ws))
