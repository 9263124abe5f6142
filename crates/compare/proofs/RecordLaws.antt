-- One node, one producer, and the whole content: what is compared first, and what it leaves. The second graph is good where its chains meet no link twice.
use mathlib.Core.Path.{◌≡◌, refl, sym, ◌∙◌, subst}
use mathlib.Core.Bool.{true, false}
use mathlib.Core.List.{List, map}
use Prim.Native.Nat.{ℕ, ◌<◌}
use lib.ListN.{get_or}
use Rattle.std.specs.declared.cmp.Ordering.{Ordering}
use Rattle.std.specs.Ordering.{is_ne, nat_cmp, ordering_then}
use Rattle.std.specs.Cmp.Lexicographic.{slice_cmp}
use Rattle.std.specs.List.{range_with_len}
use Rattle.theory.specs.Words.{producer_at, chain, theory_of}
use Rattle.theory.specs.Links.{MeetsOnce}
use Rattle.graph.specs.Layout.{leaf_link, head_link}
use Rattle.refusals.specs.Passed.{Chained}
use Rattle.theory.specs.Order.{record_cmp, node_cmp, producer_cmp, node_content, producer_content, counts_cmp, content_cmp}
use Rattle.compare.specs.Beside.{Beside, InTurn}
use Rattle.theory.proofs.OrderLaws.{Nodes, Producers, content_parts, counts_equal}
use Rattle.compare.proofs.BesideLaws.{part_differs, part_same, is_equal, in_turn_tells}

module _ (x y : List ℕ) where
  -- kind and operand, then the leaves
  module _ (n : ℕ) where
    abbrev Leaves : Ordering
    Leaves = slice_cmp nat_cmp (chain x (leaf_link x n)) (chain y (leaf_link y n))

    abbrev Before : Ordering
    Before = record_cmp (node_content x n) (node_content y n)

    node_parts : node_cmp (node_content x n) (node_content y n) ≡ ordering_then Before Leaves
    unfolding node_content theory_of
    node_parts = refl

    abbrev SaysNode : Ordering → Type 0
    SaysNode found = Beside (MeetsOnce y (leaf_link y n)) (node_cmp (node_content x n) (node_content y n)) found

    pub node_differs : {found : Ordering} → found ≡ Before → is_ne found ≡ true → SaysNode found
    node_differs e d = part_differs Leaves node_parts (λ good. e) d

    pub leaves_left : {before found : Ordering} → before ≡ Before → is_ne before ≡ false → Beside (MeetsOnce y (leaf_link y n)) Leaves found → SaysNode found
    leaves_left e d b = part_same Leaves node_parts (λ good. good) (λ good. good) (λ good. e) d b

  -- the body, then the heads
  module _ (p : ℕ) where
    abbrev Heads : Ordering
    Heads = slice_cmp nat_cmp (chain x (head_link x p)) (chain y (head_link y p))

    abbrev Body : Ordering
    Body = nat_cmp (get_or x (producer_at x p) 0) (get_or y (producer_at y p) 0)

    producer_parts : producer_cmp (producer_content x p) (producer_content y p) ≡ ordering_then Body Heads
    unfolding producer_content theory_of
    producer_parts = refl

    abbrev SaysProducer : Ordering → Type 0
    SaysProducer found = Beside (MeetsOnce y (head_link y p)) (producer_cmp (producer_content x p) (producer_content y p)) found

    pub body_differs : {found : Ordering} → found ≡ Body → is_ne found ≡ true → SaysProducer found
    body_differs e d = part_differs Heads producer_parts (λ good. e) d

    pub heads_left : {before found : Ordering} → before ≡ Body → is_ne before ≡ false → Beside (MeetsOnce y (head_link y p)) Heads found → SaysProducer found
    heads_left e d b = part_same Heads producer_parts (λ good. good) (λ good. good) (λ good. e) d b

  -- the counts, then the nodes, then the producers
  abbrev Says : Ordering → Type 0
  Says found = Beside (Chained y) (content_cmp x y) found

  pub counts_differ : {found : Ordering} → found ≡ counts_cmp x y → is_ne found ≡ true → Says found
  counts_differ e d = part_differs (ordering_then (Nodes x y) (Producers x y)) (content_parts x y) (λ good. e) d

  -- counts that do not differ are equal
  pub nodes_same : {counts : Ordering} → counts ≡ counts_cmp x y → false ≡ is_ne counts → get_or x 2 0 ≡ get_or y 2 0
  unfolding theory_of
  nodes_same {counts} e d = (counts_equal x y (sym e ∙ is_equal counts (sym d))).1

  pub producers_same : {counts : Ordering} → counts ≡ counts_cmp x y → false ≡ is_ne counts → get_or x 3 0 ≡ get_or y 3 0
  unfolding theory_of
  producers_same {counts} e d = (counts_equal x y (sym e ∙ is_equal counts (sym d))).2

  module _ {counts : Ordering} (e : counts ≡ counts_cmp x y) (d : is_ne counts ≡ false) where
    abbrev LeafChains : Type 0
    LeafChains = (n : ℕ) → n < get_or x 2 0 → MeetsOnce y (leaf_link y n)

    abbrev HeadChains : Type 0
    HeadChains = (p : ℕ) → p < get_or x 3 0 → MeetsOnce y (head_link y p)

    nodes_tell : (answers : ℕ → Ordering → Type 0) → ((n : ℕ) (r : Ordering) → n < get_or x 2 0 → answers n r → SaysNode n r) → {found : Ordering} → InTurn answers (get_or x 2 0) found → Beside LeafChains (Nodes x y) found
    unfolding theory_of
    nodes_tell answers each {found} turn =
        subst (λ (m : ℕ). Beside LeafChains (slice_cmp node_cmp (map (node_content x) (range_with_len 0 (get_or x 2 0))) (map (node_content y) (range_with_len 0 m))) found) (nodes_same e (sym d))
        (in_turn_tells node_cmp (node_content x) (node_content y) (λ n. MeetsOnce y (leaf_link y n)) answers (get_or x 2 0) each found turn)

    producers_tell : (answers : ℕ → Ordering → Type 0) → ((p : ℕ) (r : Ordering) → p < get_or x 3 0 → answers p r → SaysProducer p r) → {found : Ordering} → InTurn answers (get_or x 3 0) found → Beside HeadChains (Producers x y) found
    unfolding theory_of
    producers_tell answers each {found} turn =
        subst (λ (m : ℕ). Beside HeadChains (slice_cmp producer_cmp (map (producer_content x) (range_with_len 0 (get_or x 3 0))) (map (producer_content y) (range_with_len 0 m))) found) (producers_same e (sym d))
        (in_turn_tells producer_cmp (producer_content x) (producer_content y) (λ p. MeetsOnce y (head_link y p)) answers (get_or x 3 0) each found turn)

    apart : Chained y → LeafChains × HeadChains
    apart c = (λ n l. c.leaf_chain n (rw (← nodes_same e (sym d)) l), λ p l. c.head_chain p (rw (← producers_same e (sym d)) l))

    put : LeafChains × HeadChains → Chained y
    put c = record { leaf_chain = λ n l. c.0 n (rw (nodes_same e (sym d)) l); head_chain = λ p l. c.1 p (rw (producers_same e (sym d)) l) }

    after_counts : {found : Ordering} → Beside (LeafChains × HeadChains) (ordering_then (Nodes x y) (Producers x y)) found → Says found
    after_counts b = part_same (ordering_then (Nodes x y) (Producers x y)) (content_parts x y) apart put (λ good. e) d b

    module _ (answers : ℕ → Ordering → Type 0) (each : (n : ℕ) (r : Ordering) → n < get_or x 2 0 → answers n r → SaysNode n r) (before : Ordering) (turn : InTurn answers (get_or x 2 0) before) where
      pub nodes_differ : is_ne before ≡ true → Says before
      nodes_differ k = after_counts (part_differs (Producers x y) refl (λ good. (nodes_tell answers each turn).told good.0) k)

      pub producers_left : is_ne before ≡ false → (after : ℕ → Ordering → Type 0) → ((p : ℕ) (r : Ordering) → p < get_or x 3 0 → after p r → SaysProducer p r) → {found : Ordering} → InTurn after (get_or x 3 0) found → Says found
      producers_left k after last {found} t =
          let nodes = nodes_tell answers each turn in
          let same = nodes.good (is_equal before k) in
          after_counts (part_same (Producers x y) refl (λ good. good.1) (λ good. (same, good)) (λ good. nodes.told good.0) k (producers_tell after last t))
