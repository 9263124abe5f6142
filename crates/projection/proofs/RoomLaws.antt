-- The narrowed rows have no more entries than the graph (`parents_fit`, `heads_fit`).
use mathlib.Core.Path.{◌≡◌, refl, sym, ap, ◌∙◌}
use mathlib.Core.Bool.{Bool, true, false, ◌&&◌, cond}
use mathlib.Core.List.{List, [], ◌∷◌, map}
use Prim.Native.Nat.{ℕ, suc, ◌+◌, ◌≤◌, ◌<◌}
use native.Mathlib.Omega.{arith}
use native.Mathlib.Numerals.{add-one}
use borrow.Author.Tests.{lt-ltb, le-ltb}
use lib.Dec.{ltb, eqb}
use lib.ListN.{length, length-map}
use Rattle.std.specs.Prelude.{filter}
use Rattle.theory.specs.Sets.{Set, Is, any, sum_below, members}
use Rattle.theory.specs.Theory.{Theory}
use Rattle.theory.specs.Words.{theory_of}
use Rattle.theory.specs.Accepted.{leaf_entries, head_entries}
use Rattle.theory.specs.Founded.{cyclic, cyclic_cone}
use Rattle.theory.specs.Rows.{entries, flat_map, shifted, parents, by_body}
use Rattle.theory.proofs.SetLaws.{and_left, eq_is}
use Rattle.theory.proofs.CountLaws.{sum_le, sum_step}
use Rattle.theory.proofs.RowLaws.{rows_length, parents_few}
use Rattle.area.specs.declared.Bases.{Bases}
use Rattle.cones.specs.Cones.{fact_by}
use Rattle.cones.specs.declared.Cone.{Cone}
use Rattle.preparation.proofs.PassLaws.{counts}
use Rattle.projection.specs.Narrowed.{in_pass, parent_row, body_heads, fact_heads, head_row, start_in, Sourced, parents_of, heads_of}
use Rattle.projection.proofs.WeightLaws.{heads_few}

kept_length : (s : Set) (l : List ℕ) → length (filter s l) ≤ length l
kept_length s [] = omega arith
kept_length s (x ∷ l) = go (s x) (kept_length s l)
  where
    go : (y : Bool) → length (filter s l) ≤ length l → length (cond y (x ∷ filter s l) (filter s l)) ≤ suc (length l)
    go true ih = omega arith
    go false ih = omega arith

module _ (th : Theory) (marked cone : Set) where
  cond_few : (y : Bool) (l : List ℕ) → length (cond y l []) ≤ length l
  cond_few true l = omega arith
  cond_few false l = omega arith

  parent_few : (n : ℕ) → length (parent_row th marked cone n) ≤ length (entries n (parents th))
  unfolding parent_row
  parent_few n =
      let a = cond_few (cone n) (filter (in_pass th marked cone) (shifted th (entries n (parents th)))) in
      let b = kept_length (in_pass th marked cone) (shifted th (entries n (parents th))) in
      let c = length-map (entries n (parents th)) (λ m. th.atoms + m) in
      omega arith

  pub parents_few_all : start_in (parent_row th marked cone) th.nodes ≤ leaf_entries th
  parents_few_all =
      let a = sum_le th.nodes (λ s. length (parent_row th marked cone s)) (λ s. length (entries s (parents th))) (λ s h. parent_few s) in
      let b = rows_length th.nodes (parents th) in
      let c = parents_few th in
      omega arith

  head_few : (n : ℕ) → n < th.nodes → length (head_row th marked cone n) ≤ length (flat_map th.heads (entries n (by_body th)))
  unfolding head_row body_heads
  head_few n l =
      let e = lt-ltb n th.nodes l in
      let a = cond_few (cone n) (filter (in_pass th marked cone) (flat_map th.heads (entries n (by_body th)))) in
      let b = kept_length (in_pass th marked cone) (flat_map th.heads (entries n (by_body th))) in
      rw e (omega arith)

  facts_few : length (head_row th marked cone th.nodes) ≤ length (flat_map th.heads (members th.producers (fact_by th (λ p. any marked (th.heads p)))))
  unfolding head_row fact_heads
  facts_few = rw (le-ltb th.nodes th.nodes (omega arith)) (kept_length (in_pass th marked cone) (flat_map th.heads (members th.producers (fact_by th (λ p. any marked (th.heads p))))))

  pub heads_few_all : start_in (head_row th marked cone) (th.nodes + 1) ≤ head_entries th
  unfolding by_body
  heads_few_all =
      let a = sum_le th.nodes (λ s. length (head_row th marked cone s)) (λ s. length (flat_map th.heads (entries s (by_body th)))) head_few in
      let b = heads_few th.body th.heads (fact_by th (λ p. any marked (th.heads p))) (λ p i. eq_is (th.body p) 0 (and_left (eqb (th.body p) 0) _ i)) th.nodes th.producers in
      let c = facts_few in
      let d = sum_step th.nodes (λ s. length (head_row th marked cone s)) in
      rw add-one (omega arith)

module _ {ws : List ℕ} {b : Bases} {w : List ℕ} {c : Cone} (s : Sourced ws b w c) where
  pub parents_fit : start_in (parents_of ws) b.nodes ≤ 4096
  parents_fit = let q = counts s.standing.based in let t = s.accepted.leaf_total in let p = parents_few_all (theory_of ws) (cyclic (theory_of ws)) (cyclic_cone (theory_of ws)) in rw q.1 (omega arith)

  pub heads_fit : start_in (heads_of ws) (b.nodes + 1) ≤ 4096
  heads_fit = let q = counts s.standing.based in let t = s.accepted.head_total in let p = heads_few_all (theory_of ws) (cyclic (theory_of ws)) (cyclic_cone (theory_of ws)) in rw q.1 (omega arith)
