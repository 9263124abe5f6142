use mathlib.Core.Path.{sym, ◌∙◌}
use native.Mathlib.Omega.{arith}
use Rattle.std.proofs.Common.{rules}
use lib.ListN.{get_or}
use Rattle.refusals.specs.Refusals.{leaves_back, heads_back, graph_rows}
use Rattle.refusals.proofs.RowLaws.{chained}
use Rattle.checking.proofs.TableLaws.{row_told, row_passed, passed_clear, finds_low}
use Rattle.checking.proofs.rows.check_chains.Goals as goal

pub refuse-requires-clause-low : goal.refuse-requires-clause-low
refuse-requires-clause-low g c =
    let ws = g.W.Word.numbers c.args.graph.now in
    let holds = g.met.W.Word.holds in
    finds_low (leaves_back ws) 0 c.nodes.result c.first.result (c.first.ensures (leaves_back ws) (search rules)) (omega (arith, c.requires.sized.nodes_few))

pub returns-in_err-refuse : goal.returns-in_err-refuse
unfolding graph_rows
returns-in_err-refuse g c =
    let ws = g.W.Word.numbers c.args.graph.now in
    row_told _ _ _ c.from_residual.ensures.1 (c.in_err-refuse.ensures 14 (leaves_back ws) 0 (get_or ws 2 0) _ (omega arith) (search rules) (c.first.ensures (leaves_back ws) (search rules)))

pub refuse-requires-2-clause-low : goal.refuse-requires-2-clause-low
refuse-requires-2-clause-low g c =
    let ws = g.W.Word.numbers c.args.graph.now in
    let holds = g.met.W.Word.holds in
    finds_low (heads_back ws) 0 c.producers.result c.first-2.result (c.first-2.ensures (heads_back ws) (search rules)) (omega (arith, c.requires.sized.producers_few))

pub returns-in_err-refuse-2 : goal.returns-in_err-refuse-2
unfolding graph_rows
returns-in_err-refuse-2 g c =
    let ws = g.W.Word.numbers c.args.graph.now in
    row_told _ _ _ c.from_residual-in_err-refuse-2.ensures.1 (c.in_err-refuse-2.ensures 14 (heads_back ws) 0 (get_or ws 3 0) _ (omega arith) (search rules) (c.first-2.ensures (heads_back ws) (search rules)))
    ∙ sym (row_passed _ (c.in_ok-refuse.ensures 14 (leaves_back ws) 0 (get_or ws 2 0) _ (omega arith) (search rules) (c.first.ensures (leaves_back ws) (search rules))))

pub check_entries-requires-clause-chained : goal.check_entries-requires-clause-chained
check_entries-requires-clause-chained g c =
    let ws = g.W.Word.numbers c.args.graph.now in
    chained ws c.requires.linked (passed_clear 13 _ _ _ (c.in_ok-refuse.ensures 14 (leaves_back ws) 0 (get_or ws 2 0) _ (omega arith) (search rules) (c.first.ensures (leaves_back ws) (search rules))) (omega arith)) (passed_clear 13 _ _ _ (c.in_ok-refuse-2.ensures 14 (heads_back ws) 0 (get_or ws 3 0) _ (omega arith) (search rules) (c.first-2.ensures (heads_back ws) (search rules))) (omega arith))

pub returns : goal.returns
unfolding graph_rows
returns g c =
    let ws = g.W.Word.numbers c.args.graph.now in
    c.check_entries.ensures ∙ sym (row_passed _ (c.in_ok-refuse.ensures 14 (leaves_back ws) 0 (get_or ws 2 0) _ (omega arith) (search rules) (c.first.ensures (leaves_back ws) (search rules))) ∙ row_passed _ (c.in_ok-refuse-2.ensures 14 (heads_back ws) 0 (get_or ws 3 0) _ (omega arith) (search rules) (c.first-2.ensures (heads_back ws) (search rules))))
