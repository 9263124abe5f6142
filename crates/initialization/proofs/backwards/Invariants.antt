use Rattle.theory.specs.Drive.{Drives}
use Rattle.theory.specs.Prefix.{upto}
use lib.ListN.{drop}
use Rattle.initialization.proofs.backwards.Given as goal

abbrev pub invariant-loop-i : goal.invariant-loop-i
invariant-loop-i g l = Drives (g.S.Step.held l.step) (g.S.Step.kept l.step) (g.W.Word.numbers l.initial.work) l.tail (upto l.count (drop l.base (g.W.Word.numbers l.initial.work))) (g.W.Word.numbers l.work) l.t (upto l.i (drop l.base (g.W.Word.numbers l.initial.work)))
