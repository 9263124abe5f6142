use native.Mathlib.Omega.{arith}
use borrow.Author.Rules.{rules}
use Rattle.projection.proofs.KeepLaws.{row_begun, row_written}
use Rattle.projection.proofs.SourceLaws.{keeps, facts_low, facts_place, facts_named, facts_row, heads_told}
use Rattle.projection.proofs.Source.fact_row.Goals as goal

pub overflow_add-to : goal.overflow_add-to
overflow_add-to c = let p = facts_place c.requires.sourced in search rules

pub producers-requires-clause-accepted : goal.producers-requires-clause-accepted
producers-requires-clause-accepted c = (c.requires.sourced.accepted, facts_named c.requires.sourced)

pub producers-requires-clause-inside : goal.producers-requires-clause-inside
producers-requires-clause-inside c = (omega arith, facts_place c.requires.sourced)

pub producers-requires-clause-follows : goal.producers-requires-clause-follows
producers-requires-clause-follows c =
    let s = c.requires.sourced in
    row_begun _ _ (keeps s) _ _ _ (rw (facts_row s) c.requires.room) (heads_told s _ (facts_low s))

pub returns : goal.returns
returns c =
    let s = c.requires.sourced in
    rw (facts_row s) at (row_written _ _ (keeps s) _ _ _ (rw (facts_row s) c.requires.room) (heads_told s _ (facts_low s)) c.producers.ensures)
