use Rattle.theory.specs.Words.{theory_of}
use Rattle.cycles.specs.Held.{Started}
use Rattle.cycles.proofs.count_nodes.Given as goal

abbrev pub invariant-loop-n : goal.invariant-loop-n
invariant-loop-n g l = Started g.W.Word.limit (theory_of (g.W.Word.numbers l.graph)) l.b (g.W.Word.numbers l.work) l.n
