-- A refusal's place is below the number of values of a word, since it is a number below one that stands in the header.
use mathlib.Core.Bool.{Bool, true, false, cond}
use mathlib.Core.List.{List, [], ◌∷◌}
use Prim.Native.Nat.{ℕ, zero, suc, ◌+◌, ◌≤◌, ◌<◌}
use native.Mathlib.Omega.{arith}
use lib.Dec.{eqb}
use lib.ListN.{get_or}
use Rattle.theory.specs.Accepted.{Edition}
use Rattle.refusals.specs.Answer.{Answer, refuse, refuse_if, or_next, refuse_first, first_refusal}
use Rattle.refusals.specs.Refusals.{bad_edition, bad_counts, bad_size, bad_node, bad_producer, bad_link, leaves_back, heads_back, bad_leaves, bad_heads, bad_entries, graph_rows, graph_answer}

module _ {lim : ℕ} (some : 0 < lim) where
  pub first_place : (number : ℕ) (bad : ℕ → Bool) (i count : ℕ) → i + count ≤ lim → (refuse_first number bad i count).place < lim
  unfolding refuse_first
  first_place number bad i zero h = some
  first_place number bad i (suc count) h = go (bad i) (first_place number bad (suc i) count (omega arith))
    where
      go : (t : Bool) → (refuse_first number bad (suc i) count).place < lim → (cond t (refuse number i) (refuse_first number bad (suc i) count)).place < lim
      go true r = omega arith
      go false r = r

  pub if_place : (number : ℕ) (t : Bool) → (refuse_if number t).place < lim
  if_place number true = some
  if_place number false = some

  pub or_place : (a b : Answer) → a.place < lim → b.place < lim → (or_next a b).place < lim
  or_place a b x y = go (eqb a.number 0)
    where
      go : (t : Bool) → (cond t b a).place < lim
      go true = y
      go false = x

  -- every row's place is low
  pub data Low : List Answer → Type 0 where
    none : Low []
    more : {a : Answer} {rows : List Answer} → a.place < lim → Low rows → Low (a ∷ rows)

  rows_place : (rows : List Answer) → Low rows → (first_refusal rows).place < lim
  unfolding first_refusal
  rows_place [] none = some
  rows_place (a ∷ rows) (more x l) = or_place a (first_refusal rows) x (rows_place rows l)

  pub graph_place : (ed : Edition) (ws : List ℕ) → get_or ws 2 0 < lim → get_or ws 3 0 < lim → get_or ws 4 0 < lim → (graph_answer ed ws).place < lim
  unfolding graph_answer graph_rows
  graph_place ed ws n p k = rows_place (graph_rows ed ws)
      (more (if_place 1 (bad_edition ed ws)) (more (if_place 2 (bad_counts ed ws)) (more (if_place 3 (bad_size ws))
      (more (first_place 4 (bad_node ws) 0 (get_or ws 2 0) (omega arith)) (more (first_place 5 (bad_producer ws) 0 (get_or ws 3 0) (omega arith)) (more (first_place 6 (bad_link ws) 1 (get_or ws 4 0) (omega arith))
      (more (first_place 14 (leaves_back ws) 0 (get_or ws 2 0) (omega arith)) (more (first_place 14 (heads_back ws) 0 (get_or ws 3 0) (omega arith))
      (more (first_place 7 (bad_leaves ws) 0 (get_or ws 2 0) (omega arith)) (more (first_place 8 (bad_heads ws) 0 (get_or ws 3 0) (omega arith)) (more (if_place 9 (bad_entries ed ws)) none)))))))))))
