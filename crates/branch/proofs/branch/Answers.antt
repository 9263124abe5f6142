use mathlib.Core.Path.{sym, ◌∙◌}
use Rattle.refusals.proofs.AcceptedLaws.{accepted}
use Rattle.refusals.proofs.RefusedLaws.{is_error}
use Rattle.theory.specs.Accepted.{edition1}
use Rattle.branch.specs.declared.BranchError.TheVariants.{Refused}
use Rattle.branch.proofs.CallLaws.{graph_turned, pairs_turned, lengths_turned, work_turned, pairs_few}
use Rattle.branch.proofs.branch.Goals as goal

pub returns-in_err-check : goal.returns-in_err-check
returns-in_err-check c =
    let e = c.in_err-check.field-0.0 in
    rw (is_error (Refused e) c.from_residual.result c.from_residual.ensures.1) (graph_turned c.args.graph.now c.args.pairs c.args.never.now c.args.atom_never.now c.args.output.now c.args.work.now e c.in_err-check.ensures)

pub returns-then-bad_pairs : goal.returns-then-bad_pairs
returns-then-bad_pairs c = pairs_turned c.args.graph.now c.args.pairs c.args.never.now c.args.atom_never.now c.args.output.now c.args.work.now (sym c.in_ok-check.ensures) (sym c.bad_pairs.ensures ∙ c.if-bad_pairs.true)

pub bad_lengths-requires : goal.bad_lengths-requires
bad_lengths-requires c = (accepted edition1 c.args.graph.now (sym c.in_ok-check.ensures), (pairs_few _ (sym c.bad_pairs.ensures ∙ c.if-bad_pairs.false)).1)

pub returns-then-bad_lengths : goal.returns-then-bad_lengths
returns-then-bad_lengths c = lengths_turned c.args.graph.now c.args.pairs c.args.never.now c.args.atom_never.now c.args.output.now c.args.work.now (sym c.in_ok-check.ensures) (sym c.bad_pairs.ensures ∙ c.if-bad_pairs.false) (sym c.bad_lengths.ensures ∙ c.if-bad_lengths.true)

pub returns-then-work-ne-WORK_WORDS : goal.returns-then-work-ne-WORK_WORDS
returns-then-work-ne-WORK_WORDS c =
    work_turned c.args.graph.now c.args.pairs c.args.never.now c.args.atom_never.now c.args.output.now c.args.work.now (sym c.in_ok-check.ensures) (sym c.bad_pairs.ensures ∙ c.if-bad_pairs.false) (sym c.bad_lengths.ensures ∙ c.if-bad_lengths.false) c.if-work-ne-WORK_WORDS.true
