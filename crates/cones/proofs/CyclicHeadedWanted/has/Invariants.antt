use Rattle.theory.specs.Words.{chain, theory_of}
use Rattle.cones.proofs.HeadLaws.{Heads}
use Rattle.cones.proofs.CyclicHeadedWanted.has.Given as goal

abbrev pub invariant-loop-a : goal.invariant-loop-a
invariant-loop-a g l = Heads (theory_of (g.W.Word.numbers l.graph)) l.p (chain (g.W.Word.numbers l.a-iterator.words.now) l.a-iterator.link) l.found
