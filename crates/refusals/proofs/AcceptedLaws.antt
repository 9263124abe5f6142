-- A graph that the check accepts has every field in range, every leaf below its node, every chain meeting no link twice and both totals within the
-- limit. All later parts cite this law.
use mathlib.Core.Path.{◌≡◌, ap, ◌∙◌}
use mathlib.Core.List.{List}
use Prim.Native.Nat.{ℕ, ◌+◌, ◌≤◌, ◌<◌}
use native.Mathlib.Omega.{arith}
use lib.ListN.{get_or}
use Rattle.theory.specs.Words.{node_at, producer_at, chain, theory_of}
use Rattle.theory.specs.Accepted.{Edition, Accepted}
use Rattle.theory.proofs.ChainLaws.{chain_end}
use Rattle.graph.specs.Kinds.{takes_operand}
use Rattle.graph.specs.Layout.{leaf_link}
use Rattle.refusals.specs.Search.{Clear}
use Rattle.refusals.specs.Answer.{accept}
use Rattle.refusals.specs.Refusals.{bad_node, bad_producer, bad_link, leaves_back, heads_back, bad_leaves, bad_heads, graph_rows, graph_answer}
use Rattle.refusals.proofs.SearchLaws.{row_clear, if_clear}
use Rattle.refusals.proofs.RowLaws.{Record, rows_accept, sized, entries_few, record_fine, body_fine, entry_low, linked, chained}

module _ (ed : Edition) (ws : List ℕ) where
  pub accepted : graph_answer ed ws ≡ accept → Accepted ed ws
  unfolding graph_answer graph_rows theory_of takes_operand
  accepted e =
      let row = rows_accept (graph_rows ed ws) e in
      let s = sized ed ws (if_clear 1 _ (row 1)) (if_clear 2 _ (row 2)) in
      let nodes : Clear (bad_node ws) 0 (get_or ws 2 0) = row_clear (bad_node ws) 3 0 (get_or ws 2 0) (row 3) (omega arith) in
      let producers : Clear (bad_producer ws) 0 (get_or ws 3 0) = row_clear (bad_producer ws) 4 0 (get_or ws 3 0) (row 4) (omega arith) in
      let links : Clear (bad_link ws) 1 (get_or ws 4 0 + 1) = row_clear (bad_link ws) 5 1 (get_or ws 4 0) (row 5) (omega arith) in
      let leaves_once : Clear (leaves_back ws) 0 (get_or ws 2 0) = row_clear (leaves_back ws) 13 0 (get_or ws 2 0) (row 6) (omega arith) in
      let heads-once : Clear (heads_back ws) 0 (get_or ws 3 0) = row_clear (heads_back ws) 13 0 (get_or ws 3 0) (row 7) (omega arith) in
      let leaves : Clear (bad_leaves ws) 0 (get_or ws 2 0) = row_clear (bad_leaves ws) 6 0 (get_or ws 2 0) (row 8) (omega arith) in
      let heads : Clear (bad_heads ws) 0 (get_or ws 3 0) = row_clear (bad_heads ws) 7 0 (get_or ws 3 0) (row 9) (omega arith) in
      let totals = entries_few ed ws (if_clear 8 _ (row 10)) in
      let chains = chained ws (linked ws nodes producers links) leaves_once heads-once in
      let node : (n : ℕ) → n < get_or ws 2 0 → Record (get_or ws (node_at n) 0) (get_or ws (node_at n + 1) 0) (leaf_link ws n) (get_or ws 1 0) (get_or ws 4 0) = λ n h. record_fine _ _ _ _ _ (nodes.none n (omega arith) h) in
      let body : (p : ℕ) → p < get_or ws 3 0 → get_or ws (producer_at ws p) 0 ≤ get_or ws 2 0 = λ p h. (body_fine _ _ _ _ (producers.none p (omega arith) h)).0 in
      record {
        size = s.size;
        atoms_few = s.atoms_few;
        nodes_few = s.nodes_few;
        producers_few = s.producers_few;
        links_few = s.links_few;
        kind_low = λ n h. (node n h).kind_low;
        leaf_chain = chains.leaf_chain;
        head_chain = chains.head_chain;
        leafless = λ n h j. ap (chain ws) ((node n h).leafless j) ∙ chain_end ws;
        well_formed = record {
          operand_low = λ n h k. (node n h).operand_low (ap takes_operand k);
          leaf_low = λ n m h l. entry_low n (leaves.none n (omega arith) h) l;
          head_low = λ p a h l. entry_low (get_or ws 1 0) (heads.none p (omega arith) h) l;
          body_low = λ p n h b. omega (arith, body p h);
        };
        leaf_total = totals.0;
        head_total = totals.1;
      }
