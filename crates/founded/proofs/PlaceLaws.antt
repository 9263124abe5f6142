-- The place in an answer of preparation and pass is below the number of values of a word, as those of the graph's refusals are.
use mathlib.Core.Bool.{Bool}
use mathlib.Core.List.{List, [], ◌∷◌}
use Prim.Native.Nat.{ℕ, ◌<◌}
use native.Mathlib.Omega.{arith}
use lib.ListN.{get_or}
use Rattle.theory.specs.Words.{theory_of}
use Rattle.theory.specs.Edges.{absorbed_node}
use Rattle.theory.specs.Accepted.{Edition}
use Rattle.refusals.specs.Answer.{accept, refuse_if, refuse_first, or_next, first_refusal}
use Rattle.refusals.specs.Refusals.{graph_rows, graph_answer, absorbed_row}
use Rattle.refusals.proofs.RowLaws.{rows_append}
use Rattle.refusals.proofs.PlaceLaws.{if_place, first_place, or_place, graph_place}
use Rattle.founded.specs.Answers.{bad_output, bad_lengths, bad_work, call_answer, prepare_answer, complete_answer}

module _ {lim : ℕ} (some : 0 < lim) (ed : Edition) (ws : List ℕ) (nodes : get_or ws 2 0 < lim) (producers : get_or ws 3 0 < lim) (links : get_or ws 4 0 < lim) where
  call_place : (lengths area : Bool) → (call_answer ed ws lengths area).place < lim
  unfolding graph_answer first_refusal theory_of
  call_place lengths area =
      let row = refuse_first 12 (absorbed_node (theory_of ws)) 0 (get_or ws 2 0) in
      let last = or_next row accept in
      let late = or_next (refuse_if 11 area) last in
      rw (rows_append (graph_rows ed ws) (refuse_if 10 lengths ∷ refuse_if 11 area ∷ absorbed_row (theory_of ws) ∷ []))
      (or_place some (graph_answer ed ws) (or_next (refuse_if 10 lengths) late) (graph_place some ed ws nodes producers links)
      (or_place some (refuse_if 10 lengths) late (if_place some 10 lengths) (or_place some (refuse_if 11 area) last (if_place some 11 area)
      (or_place some row accept (first_place some 12 (absorbed_node (theory_of ws)) 0 (get_or ws 2 0) (omega arith)) some))))

  pub prepared_place : (o w : ℕ) → (prepare_answer ed ws o w).place < lim
  unfolding prepare_answer
  prepared_place o w = call_place (bad_output (get_or ws 1 0) o) (bad_work ed ws w)

  pub completed_place : (n a o w : ℕ) → (complete_answer ed ws n a o w).place < lim
  unfolding complete_answer
  completed_place n a o w = call_place (bad_lengths ws n a o) (bad_work ed ws w)
