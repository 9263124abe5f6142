use mathlib.Core.Path.{refl, sym, ◌∙◌}
use native.Mathlib.Omega.{arith}
use Rattle.words.proofs.NumberLaws.{numbers_length}
use Rattle.refusals.proofs.RefusedLaws.{is_error}
use Rattle.founded.specs.declared.CallError.TheVariants.{Refused}
use Rattle.refusals.proofs.AcceptedLaws.{accepted}
use Rattle.founded.proofs.OutcomeLaws.{graph_number, graph_refused, lengths_refused, work_refused}
use Rattle.founded.proofs.CallLaws.{not_zero, prepares, output_tested, work_bad}
use Rattle.founded.proofs.prepare.Goals as goal

pub returns-in_err-check : goal.returns-in_err-check
returns-in_err-check g c =
    let e = c.in_err-check.field-0.0 in
    rw (is_error (Refused e) c.from_residual.result c.from_residual.ensures.1) (prepares (graph_refused g.W.Word.edition _ _ _ _ e c.in_err-check.ensures) (not_zero (graph_number e).0))

pub atoms-requires : goal.atoms-requires
atoms-requires g c = omega (arith, (accepted g.W.Word.edition (g.W.Word.numbers c.args.graph.now) (sym c.in_ok-check.ensures)).size)

pub returns-then-bad_output : goal.returns-then-bad_output
returns-then-bad_output g c = prepares (lengths_refused g.W.Word.edition _ _ _ _ (sym c.in_ok-check.ensures) (output_tested _ c.bad_output.ensures c.atoms.ensures c.if-bad_output.true)) (not_zero refl)

pub area_words-requires : goal.area_words-requires
area_words-requires g c = accepted g.W.Word.edition _ (sym c.in_ok-check.ensures)

pub returns-then-work-area_words : goal.returns-then-work-area_words
returns-then-work-area_words g c = prepares (work_refused g.W.Word.edition _ _ _ _ (sym c.in_ok-check.ensures) (output_tested _ c.bad_output.ensures c.atoms.ensures c.if-bad_output.false) (work_bad g.W.Word.edition (g.W.Word.numbers c.args.graph.now) (λ e. c.if-work-area_words.true (sym (numbers_length g.met.W.Word.each c.args.work.now) ∙ e)) c.area_words.ensures)) (not_zero refl)
