use mathlib.Core.List.{[]}
use Rattle.theory.specs.Words.{theory_of}
use Rattle.cycles.specs.Held.{Counting}
use Rattle.cycles.proofs.count_all.Given as goal

abbrev pub invariant-loop-p : goal.invariant-loop-p
invariant-loop-p g l = Counting g.W.Word.limit (theory_of (g.W.Word.numbers l.graph)) l.b (g.W.Word.numbers l.work) l.p []
