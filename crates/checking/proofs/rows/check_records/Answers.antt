use mathlib.Core.Path.{sym, ◌∙◌}
use native.Mathlib.Omega.{arith}
use Rattle.std.proofs.Common.{rules}
use lib.ListN.{get_or}
use Rattle.refusals.specs.Refusals.{bad_node, bad_producer, graph_rows}
use Rattle.checking.proofs.TableLaws.{row_told, row_passed, passed_clear, finds_low}
use Rattle.checking.proofs.rows.check_records.Goals as goal

pub refuse-requires-clause-low : goal.refuse-requires-clause-low
refuse-requires-clause-low g c = let holds = g.met.W.Word.holds in finds_low _ _ _ _ c.bad_node.ensures (omega (arith, c.requires.nodes_few))

pub returns-in_err-refuse : goal.returns-in_err-refuse
unfolding graph_rows
returns-in_err-refuse g c =
    let ws = g.W.Word.numbers c.args.graph.now in
    row_told _ _ _ c.from_residual.ensures.1 (c.in_err-refuse.ensures 4 (bad_node ws) 0 (get_or ws 2 0) _ (omega arith) (search rules) c.bad_node.ensures)

pub refuse-requires-2-clause-low : goal.refuse-requires-2-clause-low
refuse-requires-2-clause-low g c = let holds = g.met.W.Word.holds in finds_low _ _ _ _ c.bad_producer.ensures (omega (arith, c.requires.producers_few))

pub returns-in_err-refuse-2 : goal.returns-in_err-refuse-2
unfolding graph_rows
returns-in_err-refuse-2 g c =
    let ws = g.W.Word.numbers c.args.graph.now in
    row_told _ _ _ c.from_residual-in_err-refuse-2.ensures.1 (c.in_err-refuse-2.ensures 5 (bad_producer ws) 0 (get_or ws 3 0) _ (omega arith) (search rules) c.bad_producer.ensures)
    ∙ sym (row_passed _ (c.in_ok-refuse.ensures 4 (bad_node ws) 0 (get_or ws 2 0) _ (omega arith) (search rules) c.bad_node.ensures))

pub check_links-requires : goal.check_links-requires
check_links-requires g c =
    let ws = g.W.Word.numbers c.args.graph.now in
    record { sized = c.requires; clear = (passed_clear 3 _ _ _ (c.in_ok-refuse.ensures 4 (bad_node ws) 0 (get_or ws 2 0) _ (omega arith) (search rules) c.bad_node.ensures) (omega arith), passed_clear 4 _ _ _ (c.in_ok-refuse-2.ensures 5 (bad_producer ws) 0 (get_or ws 3 0) _ (omega arith) (search rules) c.bad_producer.ensures) (omega arith)) }

pub returns : goal.returns
unfolding graph_rows
returns g c =
    let ws = g.W.Word.numbers c.args.graph.now in
    c.check_links.ensures ∙ sym (row_passed _ (c.in_ok-refuse.ensures 4 (bad_node ws) 0 (get_or ws 2 0) _ (omega arith) (search rules) c.bad_node.ensures) ∙ row_passed _ (c.in_ok-refuse-2.ensures 5 (bad_producer ws) 0 (get_or ws 3 0) _ (omega arith) (search rules) c.bad_producer.ensures))
