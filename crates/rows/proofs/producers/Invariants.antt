use lib.Seq.{slice}
use Rattle.theory.specs.Words.{theory_of}
use Rattle.theory.specs.Rows.{flat_map}
use Rattle.theory.specs.Drive.{Drives}
use Rattle.rows.proofs.producers.Given as goal

abbrev pub invariant-loop-i : goal.invariant-loop-i
invariant-loop-i g l = Drives (g.S.Step.held l.step) (g.S.Step.kept l.step) (g.W.Word.numbers l.initial.work) l.tail (flat_map (theory_of (g.W.Word.numbers l.graph)).heads (slice l.fn.row.start l.fn.row.end (g.W.Word.numbers l.initial.work))) (g.W.Word.numbers l.work) l.t (flat_map (theory_of (g.W.Word.numbers l.graph)).heads (slice l.i l.fn.row.end (g.W.Word.numbers l.initial.work)))
