use lib.Seq.{slice}
use Rattle.theory.specs.Drive.{Drives}
use Rattle.area.specs.Views.{as_vertices}
use Rattle.rows.proofs.nodes.Given as goal

abbrev pub invariant-loop-i : goal.invariant-loop-i
invariant-loop-i g l = Drives (g.S.Step.held l.step) (g.S.Step.kept l.step) (g.W.Word.numbers l.initial.work) l.tail (as_vertices l.b (slice l.fn.row.start l.fn.row.end (g.W.Word.numbers l.initial.work))) (g.W.Word.numbers l.work) l.t (as_vertices l.b (slice l.i l.fn.row.end (g.W.Word.numbers l.initial.work)))
