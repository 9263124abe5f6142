-- Where the walk finds no difference, the second graph is accepted: its rows follow from those of the first (`accepted_too`). A graph that is accepted can be walked (`accepted_walkable`).
use mathlib.Core.Path.{◌≡◌, refl, sym, ap, ap₂, ◌∙◌}
use mathlib.Core.Logic.{◌⊎◌, inl, inr}
use mathlib.Core.Bool.{Bool, true, false, not, ◌&&◌}
use mathlib.Core.List.{List, []}
use Prim.Native.Nat.{ℕ, ◌≤◌, ◌<◌}
use native.Mathlib.Decide.{ℕ_discrete}
use native.Mathlib.Omega.{arith}
use borrow.Author.Tests.{le-ltb, eq-eqb}
use lib.Dec.{eqb, ltb, leb}
use lib.ListN.{length, get_or}
use Rattle.std.specs.declared.cmp.Ordering.{Ordering}
use Rattle.std.specs.declared.cmp.Ordering.TheVariants.{Less}
use Rattle.theory.specs.Sets.{any, sum_below}
use Rattle.theory.specs.Theory.{joins}
use Rattle.theory.specs.Words.{kind_of, chain, theory_of}
use Rattle.theory.specs.Links.{MeetsOnce}
use Rattle.theory.specs.Content.{SameContent}
use Rattle.theory.specs.Accepted.{Edition, leaf_entries, head_entries}
use Rattle.theory.proofs.SetLaws.{bool_cases}
use Rattle.theory.proofs.CountLaws.{sum_same}
use Rattle.theory.proofs.ChainLaws.{ends_clear, once_ends, once_link, chain_end, chain_step}
use Rattle.graph.specs.Layout.{leaf_link, head_link}
use Rattle.refusals.specs.Passed.{Chained}
use Rattle.refusals.specs.Search.{Clear}
use Rattle.refusals.specs.Answer.{accept, refuse_first, first_refusal}
use Rattle.refusals.specs.Refusals.{bad_entries, bad_operand, bad_first, bad_record, bad_body, bad_node, bad_producer, bad_link, leaves_back, heads_back, bad_leaves, bad_heads, graph_rows, graph_answer}
use Rattle.refusals.proofs.SearchLaws.{first_none, row_passes, row_clear, if_clear}
use Rattle.refusals.proofs.RowLaws.{or_false, rows_accept, sized, record_fine, next_fine}
use Rattle.refusals.proofs.AcceptedLaws.{accepted}
use Rattle.theory.specs.Order.{content_cmp}
use Rattle.compare.specs.Beside.{Walkable, Beside, SideBySide}
use Rattle.theory.proofs.OrderLaws.{same_content}
use Rattle.compare.proofs.BesideLaws.{differs}

-- a graph that is accepted passes rows 1 to 3 and 6
pub accepted_walkable : (ed : Edition) (ws : List ℕ) → graph_answer ed ws ≡ accept → Walkable ed ws
unfolding graph_answer graph_rows
accepted_walkable ed ws ok =
    let row = rows_accept (graph_rows ed ws) ok in
    record { edition = if_clear 0 _ (row 0); counts = if_clear 1 _ (row 1); size = if_clear 2 _ (row 2); links = row_clear (bad_link ws) 5 1 (get_or ws 4 0) (row 5) (omega arith) }

-- a chain without entries begins at link 0
chain_none : (ws : List ℕ) {l : ℕ} → MeetsOnce ws l → chain ws l ≡ [] → l ≡ 0
chain_none ws {l} m e = go (ℕ_discrete l 0)
  where
    go : Dec (l ≡ 0) → l ≡ 0
    go (yes d) = d
    go (no z) = let k = ap length (sym e ∙ chain_step ws m z) in absurd (omega arith)

first_passes : (k f links : ℕ) → f ≤ links → (joins (kind_of k) ≡ false → f ≡ 0) → bad_first k f links ≡ false
unfolding bad_first
first_passes k f links low n = rw (le-ltb links f low) (go (bool_cases (joins (kind_of k))))
  where
    go : (joins (kind_of k) ≡ true) ⊎ (joins (kind_of k) ≡ false) → not (joins (kind_of k)) && not (eqb f 0) ≡ false
    go (inl t) = rw t refl
    go (inr e) = rw (e, eq-eqb f 0 (n e)) refl

-- a node's record with another first link, a producer's with another first link
record_passes : (k o f a links k' o' f' a' links' : ℕ) → k ≡ k' → o ≡ o' → a ≡ a' → bad_record k o f a links ≡ false → bad_first k f' links' ≡ false → bad_record k' o' f' a' links' ≡ false
unfolding bad_record
record_passes k o f a links k' o' f' a' links' ek eo ea e g =
    let p = or_false (ltb 7 k) _ e in
    let q = or_false (bad_operand k o a) _ p.1 in
    rw (← ek, ← eo, ← ea, p.0, q.0, g) refl

body_passes : (b f n links b' f' n' links' : ℕ) → b ≡ b' → n ≡ n' → bad_body b f n links ≡ false → f' ≤ links' → bad_body b' f' n' links' ≡ false
unfolding bad_body
body_passes b f n links b' f' n' links' eb en e low = rw (← eb, ← en, (or_false (ltb n b) _ e).0, le-ltb links' f' low) refl

-- a row whose test holds nowhere
row : (number : ℕ) (bad : ℕ → Bool) (count : ℕ) → ((i : ℕ) → i < count → bad i ≡ false) → refuse_first number bad 0 count ≡ accept
row number bad count none = row_passes bad number 0 count {end = count} {r = count} (first_none (record { low = omega arith; none = λ i p h. none i h }) refl) (omega arith) (omega arith)

module _ (ed : Edition) (x y : List ℕ) (ok : graph_answer ed x ≡ accept) (walk : Walkable ed y) (chains : Chained y) (s : SameContent x y) where
  rows_of : (i : ℕ) → (get_or (graph_rows ed x) i accept).number ≡ 0
  unfolding graph_answer
  rows_of = rows_accept (graph_rows ed x) ok

  atoms : get_or x 1 0 ≡ get_or y 1 0
  unfolding theory_of
  atoms = s.atoms

  nodes : get_or x 2 0 ≡ get_or y 2 0
  unfolding theory_of
  nodes = s.nodes

  producers : get_or x 3 0 ≡ get_or y 3 0
  unfolding theory_of
  producers = s.producers

  leaves : (n : ℕ) → n < get_or x 2 0 → chain x (leaf_link x n) ≡ chain y (leaf_link y n)
  unfolding theory_of
  leaves = s.leaf_lists

  heads : (p : ℕ) → p < get_or x 3 0 → chain x (head_link x p) ≡ chain y (head_link y p)
  unfolding theory_of
  heads = s.head_lists

  node_row : (n : ℕ) → n < get_or y 2 0 → bad_node y n ≡ false
  unfolding graph_rows theory_of
  node_row n h =
      let l : n < get_or x 2 0 = omega (arith, nodes) in
      let c : Clear (bad_node x) 0 (get_or x 2 0) = row_clear (bad_node x) 3 0 (get_or x 2 0) (rows_of 3) (omega arith) in
      let b = c.none n (omega arith) l in
      let r = record_fine _ _ _ _ _ b in
      let m = chains.leaf_chain n h in
      record_passes _ _ (leaf_link x n) _ (get_or x 4 0) _ _ (leaf_link y n) _ (get_or y 4 0) (s.kinds n l) (s.operands n l) atoms b
      (first_passes _ (leaf_link y n) (get_or y 4 0) (once_link y m) (λ j. chain_none y m (sym (leaves n l) ∙ ap (chain x) (r.leafless j) ∙ chain_end x)))

  producer_row : (p : ℕ) → p < get_or y 3 0 → bad_producer y p ≡ false
  unfolding graph_rows theory_of
  producer_row p h =
      let l : p < get_or x 3 0 = omega (arith, producers) in
      let c : Clear (bad_producer x) 0 (get_or x 3 0) = row_clear (bad_producer x) 4 0 (get_or x 3 0) (rows_of 4) (omega arith) in
      body_passes _ (head_link x p) _ (get_or x 4 0) _ (head_link y p) _ (get_or y 4 0) (s.bodies p l) nodes (c.none p (omega arith) l) (once_link y (chains.head_chain p h))

  leaf_row : (n : ℕ) → n < get_or y 2 0 → bad_leaves y n ≡ false
  unfolding graph_rows
  leaf_row n h =
      let l : n < get_or x 2 0 = omega (arith, nodes) in
      let c : Clear (bad_leaves x) 0 (get_or x 2 0) = row_clear (bad_leaves x) 6 0 (get_or x 2 0) (rows_of 8) (omega arith) in
      ap (any (leb n)) (sym (leaves n l)) ∙ c.none n (omega arith) l

  head_row : (p : ℕ) → p < get_or y 3 0 → bad_heads y p ≡ false
  unfolding graph_rows
  head_row p h =
      let l : p < get_or x 3 0 = omega (arith, producers) in
      let c : Clear (bad_heads x) 0 (get_or x 3 0) = row_clear (bad_heads x) 7 0 (get_or x 3 0) (rows_of 9) (omega arith) in
      ap₂ (λ (a : ℕ) (l : List ℕ). any (leb a) l) (sym atoms) (sym (heads p l)) ∙ c.none p (omega arith) l

  leaf_total : leaf_entries (theory_of y) ≡ leaf_entries (theory_of x)
  unfolding theory_of
  leaf_total = ap (λ (k : ℕ). sum_below k (λ n. length (chain y (leaf_link y n)))) (sym nodes) ∙ sum_same (get_or x 2 0) _ _ (λ n h. ap length (sym (leaves n h)))

  head_total : head_entries (theory_of y) ≡ head_entries (theory_of x)
  unfolding theory_of
  head_total = ap (λ (k : ℕ). sum_below k (λ p. length (chain y (head_link y p)))) (sym producers) ∙ sum_same (get_or x 3 0) _ _ (λ p h. ap length (sym (heads p h)))

  total_row : bad_entries ed y ≡ false
  unfolding graph_rows bad_entries
  total_row = rw (leaf_total, head_total) (if_clear 8 _ (rows_of 10))

  pub accepted_too : graph_answer ed y ≡ accept
  unfolding graph_answer graph_rows first_refusal
  accepted_too =
      let links : refuse_first 6 (bad_link y) 1 (get_or y 4 0) ≡ accept = row_passes (bad_link y) 6 1 (get_or y 4 0) (first_none walk.links refl) (omega arith) (omega arith) in
      rw (
        walk.edition,
        walk.counts,
        walk.size,
        row 4 (bad_node y) (get_or y 2 0) node_row,
        row 5 (bad_producer y) (get_or y 3 0) producer_row,
        links,
        row 14 (leaves_back y) (get_or y 2 0) (λ n h. ends_clear y (leaf_link y n) (once_ends y (chains.leaf_chain n h))),
        row 14 (heads_back y) (get_or y 3 0) (λ p h. ends_clear y (head_link y p) (once_ends y (chains.head_chain p h))),
        row 7 (bad_leaves y) (get_or y 2 0) leaf_row,
        row 8 (bad_heads y) (get_or y 3 0) head_row,
        total_row,
      ) refl

-- ---- the walk

module _ (ed : Edition) (x y : List ℕ) where
  pub beside : graph_answer ed x ≡ accept → Walkable ed y → SideBySide ed x y
  beside ok w = record {
    first = accepted ed x ok;
    second = sized ed y w.counts w.size;
    nexts = λ l p q. next_fine _ _ (w.links.none l (omega arith) (omega arith));
  }

  -- where the walk says that the chains of the second graph meet no link twice, the second graph is accepted
  pub walked : graph_answer ed x ≡ accept → Walkable ed y → {found : Ordering} → Beside (Chained y) (content_cmp x y) found → Beside (graph_answer ed y ≡ accept) (content_cmp x y) found
  walked ok w b = record {
    told = λ fine. let a = accepted ed y fine in b.told (record { leaf_chain = a.leaf_chain; head_chain = a.head_chain });
    good = λ q. let chains = b.good q in accepted_too ed x y ok w chains ((same_content x y).0 (sym (b.told chains) ∙ q));
  }

  pub not_walked : (Walkable ed y → ⊥) → {order : Ordering} → Beside (graph_answer ed y ≡ accept) order Less
  not_walked n = differs refl (λ fine. absurd (n (accepted_walkable ed y fine)))
