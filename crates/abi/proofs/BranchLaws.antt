-- The place in the answer of a search branch is below the number of values of a word (`branched_place`).
use mathlib.Core.List.{List, [], ◌∷◌}
use Prim.Native.Nat.{ℕ, ◌<◌}
use native.Mathlib.Omega.{arith}
use lib.ListN.{get_or}
use Rattle.theory.specs.Words.{theory_of}
use Rattle.theory.specs.Edges.{absorbed_node}
use Rattle.theory.specs.Accepted.{edition1}
use Rattle.refusals.specs.Answer.{accept, refuse_if, refuse_first, or_next, first_refusal}
use Rattle.refusals.specs.Refusals.{graph_rows, graph_answer, absorbed_row}
use Rattle.refusals.proofs.RowLaws.{rows_append}
use Rattle.refusals.proofs.PlaceLaws.{if_place, first_place, or_place, graph_place}
use Rattle.branch.specs.Answers.{bad_pairs, bad_branch_lengths, bad_branch_work, branch_answer}

pub branched_place : {lim : ℕ} (some : 0 < lim) (ws : List ℕ) (nodes : get_or ws 2 0 < lim) (producers : get_or ws 3 0 < lim) (links : get_or ws 4 0 < lim) (pairs n a o w : ℕ) → (branch_answer ws pairs n a o w).place < lim
unfolding branch_answer graph_answer first_refusal theory_of
branched_place some ws nodes producers links pairs n a o w =
    let row = refuse_first 12 (absorbed_node (theory_of ws)) 0 (get_or ws 2 0) in
    let last = or_next row accept in
    let work = or_next (refuse_if 11 (bad_branch_work w)) last in
    let late = or_next (refuse_if 10 (bad_branch_lengths ws pairs n a o)) work in
    rw (rows_append (graph_rows edition1 ws) (refuse_if 13 (bad_pairs pairs) ∷ refuse_if 10 (bad_branch_lengths ws pairs n a o) ∷ refuse_if 11 (bad_branch_work w) ∷ absorbed_row (theory_of ws) ∷ []))
    (or_place some (graph_answer edition1 ws) (or_next (refuse_if 13 (bad_pairs pairs)) late) (graph_place some edition1 ws nodes producers links)
    (or_place some (refuse_if 13 (bad_pairs pairs)) late (if_place some 13 (bad_pairs pairs))
    (or_place some (refuse_if 10 (bad_branch_lengths ws pairs n a o)) work (if_place some 10 (bad_branch_lengths ws pairs n a o)) (or_place some (refuse_if 11 (bad_branch_work w)) last (if_place some 11 (bad_branch_work w))
    (or_place some row accept (first_place some 12 (absorbed_node (theory_of ws)) 0 (get_or ws 2 0) (omega arith)) some)))))
