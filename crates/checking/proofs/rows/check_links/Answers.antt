use mathlib.Core.Path.{sym, ◌∙◌}
use native.Mathlib.Omega.{arith}
use Rattle.std.proofs.Common.{rules}
use lib.ListN.{get_or}
use mathlib.Core.Path.{refl}
use Rattle.refusals.specs.Refusals.{bad_link, leaves_back, heads_back, graph_rows}
use Rattle.refusals.proofs.SearchLaws.{first_none, first_clear, row_passes}
use Rattle.refusals.proofs.RowLaws.{linked, upward_passes, upward_leaves, upward_heads, chained}
use Rattle.checking.proofs.TableLaws.{row_told, row_passed, passed_clear}
use Rattle.checking.proofs.rows.check_links.Goals as goal

pub check_entries-requires-clause-chained : goal.check_entries-requires-clause-chained
check_entries-requires-clause-chained g c =
    let ws = g.W.Word.numbers c.args.graph.now in
    let up = first_clear c.in_default.ensures (omega arith) in
    chained ws (linked ws c.requires.clear.0 c.requires.clear.1 (upward_passes ws up)) (upward_leaves ws c.requires.clear.0 c.requires.clear.1 up) (upward_heads ws c.requires.clear.0 c.requires.clear.1 up)

pub returns-in_default : goal.returns-in_default
unfolding graph_rows
returns-in_default g c =
    let ws = g.W.Word.numbers c.args.graph.now in
    let up = first_clear c.in_default.ensures (omega arith) in
    let links = row_passes (bad_link ws) 6 1 (get_or ws 4 0) (first_none (upward_passes ws up) refl) (omega arith) (omega arith) in
    let leaves = row_passes (leaves_back ws) 14 0 (get_or ws 2 0) (first_none (upward_leaves ws c.requires.clear.0 c.requires.clear.1 up) refl) (omega arith) (omega arith) in
    let heads = row_passes (heads_back ws) 14 0 (get_or ws 3 0) (first_none (upward_heads ws c.requires.clear.0 c.requires.clear.1 up) refl) (omega arith) (omega arith) in
    c.check_entries.ensures ∙ sym (row_passed _ (sym links) ∙ row_passed _ (sym leaves) ∙ row_passed _ (sym heads))

pub returns-in_err-refuse : goal.returns-in_err-refuse
unfolding graph_rows
returns-in_err-refuse g c =
    let ws = g.W.Word.numbers c.args.graph.now in
    row_told _ _ _ c.from_residual.ensures.1 (c.in_err-refuse.ensures 6 (bad_link ws) 1 (get_or ws 4 0) _ (omega arith) (search rules) c.bad_link.ensures)

pub check_chains-requires-clause-linked : goal.check_chains-requires-clause-linked
check_chains-requires-clause-linked g c =
    let ws = g.W.Word.numbers c.args.graph.now in
    linked ws c.requires.clear.0 c.requires.clear.1 (passed_clear 5 _ _ _ (c.in_ok-refuse.ensures 6 (bad_link ws) 1 (get_or ws 4 0) _ (omega arith) (search rules) c.bad_link.ensures) (omega arith))

pub returns : goal.returns
unfolding graph_rows
returns g c =
    let ws = g.W.Word.numbers c.args.graph.now in
    c.check_chains.ensures ∙ sym (row_passed _ (c.in_ok-refuse.ensures 6 (bad_link ws) 1 (get_or ws 4 0) _ (omega arith) (search rules) c.bad_link.ensures))
