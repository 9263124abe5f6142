use Rattle.std.proofs.Common.{◌≡◌, ◌+◌, ◌-◌, ◌≤◌}
use Rattle.theory.specs.Words.{theory_of}
use Rattle.theory.specs.Rows.{succs}
use Rattle.events.specs.Run.{Ran}
use Rattle.within.specs.Within.{spent}
use Rattle.within.proofs.settle_within.Given as goal

abbrev pub invariant-loop-head : goal.invariant-loop-head
invariant-loop-head g l =
    (l.head ≤ l.tail) × (l.first ≤ l.tail)
    × Ran g.W.Word.limit l.b (succs (theory_of (g.W.Word.numbers l.graph))) (g.W.Word.numbers l.initial.work) (g.W.Word.numbers l.work) 0 l.first l.head l.tail
    × (l.left + spent (g.W.Word.numbers l.graph) l.b (g.W.Word.numbers l.work) l.head ≡ l.allowance)

abbrev pub decreases-loop-head : goal.decreases-loop-head
decreases-loop-head g l = l.b.atoms + l.b.nodes - l.head
