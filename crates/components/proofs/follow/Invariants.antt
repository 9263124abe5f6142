use Prim.Native.Nat.{◌+◌, ◌-◌}
use Rattle.components.specs.Classes.{Searched}
use Rattle.components.proofs.follow.Given as goal

abbrev pub invariant-loop-head : goal.invariant-loop-head
invariant-loop-head g l = Searched g.W.Word.limit (g.W.Word.numbers l.graph) l.b (g.W.Word.numbers l.initial.work) (g.W.Word.numbers l.work) l.n l.found l.head l.tail

abbrev pub decreases-loop-head : goal.decreases-loop-head
decreases-loop-head g l = l.b.atoms + l.b.nodes - l.head
