use Rattle.adjacency.specs.Building.{Summed}
use Rattle.adjacency.proofs.sum.Given as goal

abbrev pub invariant-loop-r : goal.invariant-loop-r
invariant-loop-r g l = Summed (g.W.Word.numbers l.initial.part) (g.W.Word.numbers l.part) l.r l.total
