use mathlib.Core.Path.{◌≡◌}
use mathlib.Core.List.{[]}
use Prim.Native.Nat.{◌-◌}
use lib.ListN.{length, take, drop}
use Rattle.theory.specs.Words.{theory_of}
use Rattle.cones.specs.Finding.{stage, Searching}
use Rattle.cones.proofs.find_in.Given as goal

abbrev pub invariant-loop-next : goal.invariant-loop-next
invariant-loop-next g l = Searching g.W.Word.limit l.b (stage (theory_of (g.W.Word.numbers l.graph)) (g.S.Wanted.set (theory_of (g.W.Word.numbers l.graph))) (theory_of (g.W.Word.numbers l.graph)).producers l.next (drop l.b.fact_rows (g.W.Word.numbers l.initial.work))) (g.W.Word.numbers l.work) l.nodes [] × (length (g.W.Word.numbers l.work) ≡ length (g.W.Word.numbers l.initial.work)) × (take l.b.states (g.W.Word.numbers l.work) ≡ take l.b.states (g.W.Word.numbers l.initial.work))

abbrev pub decreases-loop-next : goal.decreases-loop-next
decreases-loop-next g l = l.b.nodes - l.next
