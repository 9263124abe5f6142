use mathlib.Core.Path.{sym, ◌∙◌}
use native.Mathlib.Omega.{arith}
use Rattle.theory.specs.Accepted.{edition1}
use Rattle.refusals.proofs.RefusedLaws.{is_error}
use Rattle.refusals.proofs.AcceptedLaws.{accepted}
use Rattle.founded.proofs.CallLaws.{work_bad}
use Rattle.undecided.specs.declared.OpenError.TheVariants.{Refused}
use Rattle.undecided.proofs.CallLaws.{graph_refused, lengths_refused, both_refused, work_refused}
use Rattle.undecided.proofs.undecided.Goals as goal

pub returns-in_err-check : goal.returns-in_err-check
returns-in_err-check c =
    let e = c.in_err-check.field-0.0 in
    rw (is_error (Refused e) c.from_residual.result c.from_residual.ensures.1) (graph_refused _ _ _ _ _ _ _ _ e c.in_err-check.ensures)

pub bad_lengths-requires : goal.bad_lengths-requires
bad_lengths-requires c = omega (arith, (accepted edition1 _ (sym c.in_ok-check.ensures)).size)

pub returns-then-bad_lengths : goal.returns-then-bad_lengths
returns-then-bad_lengths c = lengths_refused _ _ _ _ _ _ _ _ (sym c.in_ok-check.ensures) (sym c.bad_lengths.ensures ∙ c.if-bad_lengths.true)

pub cut_and_open-requires : goal.cut_and_open-requires
cut_and_open-requires c = omega (arith, (accepted edition1 _ (sym c.in_ok-check.ensures)).size)

pub returns-then-cut_and_open : goal.returns-then-cut_and_open
returns-then-cut_and_open c = both_refused _ _ _ _ _ _ _ _ (sym c.in_ok-check.ensures) (sym c.bad_lengths.ensures ∙ c.if-bad_lengths.false) (sym c.cut_and_open.ensures ∙ c.if-cut_and_open.true)

pub area_words-requires : goal.area_words-requires
area_words-requires c = accepted edition1 _ (sym c.in_ok-check.ensures)

pub returns-then-work-area_words : goal.returns-then-work-area_words
returns-then-work-area_words c =
    work_refused _ _ _ _ _ _ _ _ (sym c.in_ok-check.ensures) (sym c.bad_lengths.ensures ∙ c.if-bad_lengths.false) (sym c.cut_and_open.ensures ∙ c.if-cut_and_open.false)
    (work_bad edition1 c.args.graph.now c.if-work-area_words.true c.area_words.ensures)
