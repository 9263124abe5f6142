use mathlib.Core.Path.{sym, ◌∙◌}
use Rattle.refusals.specs.Answer.{first_refusal}
use Rattle.refusals.specs.Refusals.{graph_rows, graph_answer}
use Rattle.refusals.proofs.RowLaws.{edition_long, sized}
use Rattle.checking.proofs.check.Goals as goal

pub returns-then-bad_edition : goal.returns-then-bad_edition
unfolding graph_answer graph_rows first_refusal
returns-then-bad_edition g c = rw (← c.bad_edition.ensures, c.if-bad_edition.true)

pub bad_counts-requires : goal.bad_counts-requires
bad_counts-requires g c = edition_long _ _ (sym c.bad_edition.ensures ∙ c.if-bad_edition.false)

pub returns-then-bad_counts : goal.returns-then-bad_counts
unfolding graph_answer graph_rows first_refusal
returns-then-bad_counts g c = rw (← c.bad_edition.ensures, c.if-bad_edition.false, ← c.bad_counts.ensures, c.if-bad_counts.true)

pub bad_size-requires : goal.bad_size-requires
bad_size-requires g c = edition_long _ _ (sym c.bad_edition.ensures ∙ c.if-bad_edition.false)

pub returns-then-bad_size : goal.returns-then-bad_size
unfolding graph_answer graph_rows first_refusal
returns-then-bad_size g c = rw (← c.bad_edition.ensures, c.if-bad_edition.false, ← c.bad_counts.ensures, c.if-bad_counts.false, ← c.bad_size.ensures, c.if-bad_size.true)

pub check_records-requires : goal.check_records-requires
check_records-requires g c = sized _ _ (sym c.bad_counts.ensures ∙ c.if-bad_counts.false) (sym c.bad_size.ensures ∙ c.if-bad_size.false)

pub returns : goal.returns
unfolding graph_answer graph_rows first_refusal
returns g c = rw (← c.bad_edition.ensures, c.if-bad_edition.false, ← c.bad_counts.ensures, c.if-bad_counts.false, ← c.bad_size.ensures, c.if-bad_size.false) c.check_records.ensures
