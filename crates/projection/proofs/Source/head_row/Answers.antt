use native.Mathlib.Omega.{arith}
use mathlib.Core.Path.{sym, ◌∙◌}
use mathlib.Core.Bool.{true, false}
use Rattle.projection.proofs.KeepLaws.{row_begun, row_written, none_written}
use Rattle.projection.proofs.SourceLaws.{keeps, body_place, body_producers, body_low, heads_told, heads_row, heads_none}
use Rattle.projection.proofs.Source.head_row.Goals as goal

pub returns-then-not-has : goal.returns-then-not-has
returns-then-not-has c = rw (sym (heads_none c.requires.sourced.0 c.args.n c.requires.sourced.1 (sym c.has.ensures ∙ c.if-not-has.true))) (none_written _ _)

pub producers-requires-clause-accepted : goal.producers-requires-clause-accepted
producers-requires-clause-accepted c =
    rw (c.row_start-from.ensures, c.row_start-to.ensures) (c.requires.sourced.0.accepted, body_producers c.requires.sourced.0 c.args.n c.requires.sourced.1)

pub producers-requires-clause-inside : goal.producers-requires-clause-inside
producers-requires-clause-inside c =
    let p = body_place c.requires.sourced.0 c.args.n c.requires.sourced.1 in let l = p.ends in let g = p.long in
    rw (c.row_start-from.ensures, c.row_start-to.ensures) (p.rises, omega arith)

pub producers-requires-clause-follows : goal.producers-requires-clause-follows
producers-requires-clause-follows c =
    let s = c.requires.sourced.0 in let l = c.requires.sourced.1 in
    let i = sym c.has.ensures ∙ c.if-not-has.false in
    rw (c.row_start-from.ensures, c.row_start-to.ensures)
    (row_begun _ _ (keeps s) _ _ _ (rw (heads_row s c.args.n l i) c.requires.room) (heads_told s _ (body_low s c.args.n l)))

pub returns : goal.returns
returns c =
    let s = c.requires.sourced.0 in let l = c.requires.sourced.1 in
    let i = sym c.has.ensures ∙ c.if-not-has.false in
    rw (heads_row s c.args.n l i) at
    (row_written _ _ (keeps s) _ _ _ (rw (heads_row s c.args.n l i) c.requires.room) (heads_told s _ (body_low s c.args.n l)) (rw (c.row_start-from.ensures, c.row_start-to.ensures) at c.producers.ensures))
