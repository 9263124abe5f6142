-- The place in the call's answer is below the number of values of a word, as those of the graph's refusals are.
use mathlib.Core.List.{List, [], ◌∷◌}
use Prim.Native.Nat.{ℕ, ◌<◌}
use native.Mathlib.Omega.{arith}
use lib.ListN.{length, get_or}
use Rattle.theory.specs.Words.{theory_of}
use Rattle.theory.specs.Edges.{absorbed_node}
use Rattle.theory.specs.Accepted.{edition1}
use Rattle.refusals.specs.Answer.{accept, refuse_if, refuse_first, or_next, first_refusal}
use Rattle.refusals.specs.Refusals.{graph_rows, graph_answer, absorbed_row}
use Rattle.refusals.proofs.RowLaws.{rows_append}
use Rattle.refusals.proofs.PlaceLaws.{if_place, first_place, or_place, graph_place}
use Rattle.founded.specs.Answers.{bad_work}
use Rattle.undecided.specs.Answers.{bad_open_lengths, cut_and_open, undecided_answer}

pub undecided_place : {lim : ℕ} (some : 0 < lim) (ws : List ℕ) (nodes : get_or ws 2 0 < lim) (producers : get_or ws 3 0 < lim) (links : get_or ws 4 0 < lim) (never atom_never open_nodes open_atoms : List ℕ) (x y w : ℕ)
    → (undecided_answer ws never atom_never open_nodes open_atoms x y w).place < lim
unfolding undecided_answer graph_answer first_refusal theory_of
undecided_place some ws nodes producers links never atom_never open_nodes open_atoms x y w =
    let lengths = refuse_if 10 (bad_open_lengths ws (length never) (length atom_never) (length open_nodes) (length open_atoms) x y) in
    let both = refuse_if 21 (cut_and_open ws never atom_never open_nodes open_atoms) in
    let area = refuse_if 11 (bad_work edition1 ws w) in
    let row = refuse_first 12 (absorbed_node (theory_of ws)) 0 (get_or ws 2 0) in
    let last = or_next row accept in
    let late = or_next area last in
    let later = or_next both late in
    rw (rows_append (graph_rows edition1 ws) (lengths ∷ both ∷ area ∷ absorbed_row (theory_of ws) ∷ []))
    (or_place some (graph_answer edition1 ws) (or_next lengths later) (graph_place some edition1 ws nodes producers links)
    (or_place some lengths later (if_place some 10 (bad_open_lengths ws (length never) (length atom_never) (length open_nodes) (length open_atoms) x y))
    (or_place some both late (if_place some 21 (cut_and_open ws never atom_never open_nodes open_atoms))
    (or_place some area last (if_place some 11 (bad_work edition1 ws w))
    (or_place some row accept (first_place some 12 (absorbed_node (theory_of ws)) 0 (get_or ws 2 0) (omega arith)) some)))))
