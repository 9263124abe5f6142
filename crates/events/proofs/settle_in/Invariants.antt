use Prim.Native.Nat.{◌+◌, ◌-◌, ◌≤◌}
use Rattle.events.specs.Run.{Ran}
use Rattle.events.proofs.settle_in.Given as goal

abbrev pub invariant-loop-head : goal.invariant-loop-head
invariant-loop-head g l = (l.head ≤ l.tail) × (l.first ≤ l.tail) × Ran g.W.Word.limit l.b (g.R.Rows.row_of l.rows) (g.W.Word.numbers l.initial.work) (g.W.Word.numbers l.work) 0 l.first l.head l.tail

abbrev pub decreases-loop-head : goal.decreases-loop-head
decreases-loop-head g l = l.b.atoms + l.b.nodes - l.head
