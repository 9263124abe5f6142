use mathlib.Core.Path.{refl, sym, ◌∙◌}
use native.Mathlib.Omega.{arith}
use Rattle.words.proofs.NumberLaws.{numbers_length}
use Rattle.refusals.proofs.RefusedLaws.{is_error}
use Rattle.refusals.proofs.AcceptedLaws.{accepted}
use Rattle.founded.specs.declared.CallError.TheVariants.{Refused, Lengths, Work}
use Rattle.founded.proofs.OutcomeLaws.{graph_number, graph_refused, lengths_refused, work_refused}
use Rattle.founded.proofs.CallLaws.{not_zero, completes, work_bad}
use Rattle.within.specs.declared.WithinError.TheVariants.{Call}
use Rattle.within.proofs.CallWithinLaws.{within_refused}
use Rattle.within.proofs.spend.Goals as goal

pub returns-in_err-check : goal.returns-in_err-check
returns-in_err-check g c =
    let e = c.in_err-check.field-0.0 in
    rw (is_error (Call (Refused e)) c.from_residual.result c.from_residual.ensures.1)
    (within_refused c.args.allowance (Refused e) (completes (graph_refused g.W.Word.edition _ _ _ _ e c.in_err-check.ensures) (not_zero (graph_number e).0)))

pub bad_lengths-requires : goal.bad_lengths-requires
bad_lengths-requires g c = omega (arith, (accepted g.W.Word.edition (g.W.Word.numbers c.args.graph.now) (sym c.in_ok-check.ensures)).size)

pub returns-then-bad_lengths : goal.returns-then-bad_lengths
returns-then-bad_lengths g c =
    within_refused c.args.allowance Lengths (completes (lengths_refused g.W.Word.edition _ _ _ _ (sym c.in_ok-check.ensures) (sym c.bad_lengths.ensures ∙ c.if-bad_lengths.true)) (not_zero refl))

pub area_words-requires : goal.area_words-requires
area_words-requires g c = accepted g.W.Word.edition _ (sym c.in_ok-check.ensures)

pub returns-then-work-area_words : goal.returns-then-work-area_words
returns-then-work-area_words g c =
    within_refused c.args.allowance Work (completes (work_refused g.W.Word.edition _ _ _ _ (sym c.in_ok-check.ensures) (sym c.bad_lengths.ensures ∙ c.if-bad_lengths.false) (work_bad g.W.Word.edition (g.W.Word.numbers c.args.graph.now) (λ e. c.if-work-area_words.true (sym (numbers_length g.met.W.Word.each c.args.work.now) ∙ e)) c.area_words.ensures)) (not_zero refl))
