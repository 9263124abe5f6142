use Rattle.theory.specs.Words.{chain}
use Rattle.theory.specs.Drive.{Drives}
use Rattle.chains.proofs.along.Given as goal

abbrev pub invariant-loop-v : goal.invariant-loop-v
invariant-loop-v g l = Drives (g.S.Step.held l.step) (g.S.Step.kept l.step) (g.W.Word.numbers l.initial.work) l.tail (chain (g.W.Word.numbers l.graph) l.first) (g.W.Word.numbers l.work) l.t (chain (g.W.Word.numbers l.v-iterator.words.now) l.v-iterator.link)
