use mathlib.Core.Path.{refl, sym, ◌∙◌}
use native.Mathlib.Omega.{arith}
use Rattle.theory.specs.Accepted.{edition1}
use Rattle.refusals.proofs.RefusedLaws.{is_error}
use Rattle.refusals.proofs.AcceptedLaws.{accepted}
use Rattle.founded.proofs.CallLaws.{work_bad}
use Rattle.tally.specs.declared.TallyError.TheVariants.{Refused}
use Rattle.tally.proofs.CallLaws.{graph_refused, lengths_refused, both_refused, many_refused, work_refused, few_found, many_found}
use Rattle.tally.proofs.tally.Goals as goal

pub returns-in_err-check : goal.returns-in_err-check
returns-in_err-check c =
    let e = c.in_err-check.field-0.0 in
    rw (is_error (Refused e) c.from_residual.result c.from_residual.ensures.1) (graph_refused _ _ _ _ _ _ e c.in_err-check.ensures)

pub bad_lengths-requires : goal.bad_lengths-requires
bad_lengths-requires c = accepted edition1 _ (sym c.in_ok-check.ensures)

pub returns-then-bad_lengths : goal.returns-then-bad_lengths
returns-then-bad_lengths c = lengths_refused _ _ _ _ _ _ (sym c.in_ok-check.ensures) (sym c.bad_lengths.ensures ∙ c.if-bad_lengths.true)

pub atoms-atoms-requires : goal.atoms-atoms-requires
atoms-atoms-requires c = omega (arith, (accepted edition1 _ (sym c.in_ok-check.ensures)).size)

pub returns-then-overlap : goal.returns-then-overlap
returns-then-overlap c =
    both_refused _ _ _ _ _ _ (sym c.in_ok-check.ensures) (sym c.bad_lengths.ensures ∙ c.if-bad_lengths.false) (rw c.atoms-atoms.ensures at (sym c.overlap.ensures ∙ c.if-overlap.true))

pub list_open-open-requires : goal.list_open-open-requires
list_open-open-requires c = let a = accepted edition1 _ (sym c.in_ok-check.ensures) in let f = a.atoms_few in let e = c.atoms-atoms.ensures in (omega arith, refl)

pub returns-then-open-gt-MOST : goal.returns-then-open-gt-MOST
returns-then-open-gt-MOST c =
    many_refused _ _ _ _ _ _ (sym c.in_ok-check.ensures) (sym c.bad_lengths.ensures ∙ c.if-bad_lengths.false) (rw c.atoms-atoms.ensures at (sym c.overlap.ensures ∙ c.if-overlap.false))
    (many_found c.args.graph.now c.args.open_atoms.now (rw c.atoms-atoms.ensures at c.list_open-open.ensures.count) c.if-open-gt-MOST.true)

pub area_words-requires : goal.area_words-requires
area_words-requires c = accepted edition1 _ (sym c.in_ok-check.ensures)

pub returns-then-work-area_words : goal.returns-then-work-area_words
returns-then-work-area_words c =
    let k = rw c.atoms-atoms.ensures at c.list_open-open.ensures.count in
    work_refused _ _ _ _ _ _ (sym c.in_ok-check.ensures) (sym c.bad_lengths.ensures ∙ c.if-bad_lengths.false) (rw c.atoms-atoms.ensures at (sym c.overlap.ensures ∙ c.if-overlap.false))
    (few_found c.args.graph.now c.args.open_atoms.now k (let z = c.if-open-gt-MOST.false in omega arith)) (work_bad edition1 c.args.graph.now c.if-work-area_words.true c.area_words.ensures)
