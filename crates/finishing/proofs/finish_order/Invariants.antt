use mathlib.Core.Logic.{◌≢◌}
use Prim.Native.Nat.{ℕ, ◌<◌}
use Rattle.area.specs.Views.{mark_in}
use Rattle.finishing.specs.Walking.{Walked}
use Rattle.finishing.proofs.finish_order.Given as goal

abbrev pub invariant-loop-root : goal.invariant-loop-root
invariant-loop-root g l = Walked (g.W.Word.numbers l.graph) l.b (g.W.Word.numbers l.initial.work) (g.W.Word.numbers l.work) 0 l.done × ((v : ℕ) → v < l.root → mark_in l.b (g.W.Word.numbers l.work) v ≢ 1)
