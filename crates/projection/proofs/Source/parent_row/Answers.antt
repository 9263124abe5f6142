use native.Mathlib.Omega.{arith}
use mathlib.Core.Path.{sym, ◌∙◌}
use mathlib.Core.Bool.{true, false}
use Rattle.projection.proofs.KeepLaws.{row_begun, row_written, none_written}
use Rattle.projection.proofs.SourceLaws.{keeps, parents_place, parents_told, parents_row, parents_none}
use Rattle.projection.proofs.Source.parent_row.Goals as goal

pub returns-then-not-has : goal.returns-then-not-has
returns-then-not-has c = rw (sym (parents_none c.requires.sourced.0 c.args.n c.requires.sourced.1 (sym c.has.ensures ∙ c.if-not-has.true))) (none_written _ _)

pub nodes-requires-clause-inside : goal.nodes-requires-clause-inside
nodes-requires-clause-inside c =
    let s = c.requires.sourced.0 in let p = parents_place s c.args.n c.requires.sourced.1 in
    let few = s.accepted.atoms_few in let a = s.standing.based.atoms in let l = p.ends in let g = p.long in
    rw (c.row_start-from.ensures, c.row_start-to.ensures) (p.rises, omega arith, omega arith)

pub nodes-requires-clause-follows : goal.nodes-requires-clause-follows
nodes-requires-clause-follows c =
    let s = c.requires.sourced.0 in let l = c.requires.sourced.1 in
    let i = sym c.has.ensures ∙ c.if-not-has.false in
    rw (c.row_start-from.ensures, c.row_start-to.ensures)
    (row_begun _ _ (keeps s) _ _ _ (rw (parents_row s c.args.n l i) c.requires.room) (parents_told s c.args.n l))

pub returns : goal.returns
returns c =
    let s = c.requires.sourced.0 in let l = c.requires.sourced.1 in
    let i = sym c.has.ensures ∙ c.if-not-has.false in
    rw (parents_row s c.args.n l i) at
    (row_written _ _ (keeps s) _ _ _ (rw (parents_row s c.args.n l i) c.requires.room) (parents_told s c.args.n l) (rw (c.row_start-from.ensures, c.row_start-to.ensures) at c.nodes.ensures))
