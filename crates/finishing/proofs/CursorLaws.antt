-- The first cursor of a vertex leaves its predecessors (`first_all`); a cursor leaves nothing, or a vertex and what the next cursor leaves (`row_end`,
-- `row_next`, `links_end`, `operand_next`, `link_next`).
use mathlib.Core.Path.{◌≡◌, refl, sym, ap, ap₂, ◌∙◌, subst}
use mathlib.Core.Logic.{◌⊎◌, inl, inr, ◌≢◌}
use mathlib.Core.Bool.{Bool, true, false, cond}
use mathlib.Core.List.{List, [], ◌∷◌, ◌++◌, map, append_assoc}
use Prim.Native.Nat.{ℕ, zero, suc, ◌+◌, ◌-◌, ◌≤◌, ◌<◌}
use native.Mathlib.Omega.{arith}
use native.Mathlib.Numerals.{add-one}
use native.Mathlib.Decide.{dec_lt}
use borrow.Author.Tests.{lt-ltb, le-ltb, ne_eqb}
use lib.Dec.{eqb}
use lib.ListN.{length, get_or, drop_of_length-le}
use lib.Seq.{drop-cons}
use Rattle.theory.specs.Sets.{Is}
use Rattle.theory.specs.Theory.{Kind, False, Atom, And, Or, Opaque, Absorbed, joins}
use Rattle.theory.specs.Words.{kind_of, node_at, value_of, next_of, chain, theory_of}
use Rattle.theory.specs.Links.{MeetsOnce}
use Rattle.theory.specs.Rows.{entries, stream, flat_map}
use Rattle.theory.specs.Edges.{vertices, occurrences, body_entries, bodies_below, inputs, body_cone, in_graph, cone_preds}
use Rattle.theory.specs.Accepted.{Edition, Accepted}
use Rattle.theory.proofs.SetLaws.{bool_cases}
use Rattle.theory.proofs.ChainLaws.{chain_end, chain_step, once_link}
use Rattle.theory.proofs.EdgeLaws.{preds_atom, preds_node}
use Rattle.theory.proofs.RowLaws.{row_last}
use Rattle.theory.proofs.ConeLaws.{graph_cone}
use Rattle.graph.specs.Kinds.{takes_operand}
use Rattle.graph.specs.Layout.{NodeIn}
use Rattle.graph.proofs.DecodeLaws.{the_nodes, the_leaves}
use Rattle.adjacency.specs.Tables.{edges_of}
use Rattle.adjacency.specs.declared.Table.TheVariants.{ByHead}
use Rattle.finishing.specs.Cursors.{body_vertex, atom_left, has_operand, node_left, node_first, left_of, first_of, Linked}

-- ---- the row of an atom

flat_append : (f : ℕ → List ℕ) (s t : List ℕ) → flat_map f (s ++ t) ≡ flat_map f s ++ flat_map f t
unfolding flat_map
flat_append f [] t = refl
flat_append f (x ∷ s) t = ap (λ (l : List ℕ). f x ++ l) (flat_append f s t) ∙ sym (append_assoc (f x) (flat_map f s) (flat_map f t))

-- what f gives, once for each occurrence of a
flat_none : (f : ℕ → List ℕ) (p a : ℕ) (hs : List ℕ) → f p ≡ [] → flat_map f (occurrences p a hs) ≡ []
unfolding occurrences flat_map
flat_none f p a [] e = refl
flat_none f p a (h ∷ hs) e = go (eqb a h) (flat_none f p a hs e)
  where
    go : (t : Bool) → flat_map f (occurrences p a hs) ≡ [] → flat_map f (cond t (p ∷ occurrences p a hs) (occurrences p a hs)) ≡ []
    go true r = ap₂ (λ (s t : List ℕ). s ++ t) e r
    go false r = r

flat_one : (f : ℕ → List ℕ) (p x a : ℕ) (hs : List ℕ) → f p ≡ x ∷ [] → flat_map f (occurrences p a hs) ≡ occurrences x a hs
unfolding occurrences flat_map
flat_one f p x a [] e = refl
flat_one f p x a (h ∷ hs) e = go (eqb a h) (flat_one f p x a hs e)
  where
    go : (t : Bool) → flat_map f (occurrences p a hs) ≡ occurrences x a hs → flat_map f (cond t (p ∷ occurrences p a hs) (occurrences p a hs)) ≡ cond t (x ∷ occurrences x a hs) (occurrences x a hs)
    go true r = ap₂ (λ (s t : List ℕ). s ++ t) e r
    go false r = r

module _ (ws : List ℕ) where
  -- the vertex of a producer's body
  abbrev body_at : ℕ → List ℕ
  body_at p = body_vertex ws ((theory_of ws).body p)

  -- the row of an atom lists the bodies of the producers with that head
  bodies_row : (a r : ℕ) → flat_map (λ p. body_at p) (entries a (stream (theory_of ws).heads 0 r)) ≡ bodies_below (theory_of ws) a r
  unfolding stream entries flat_map bodies_below body_vertex body_entries
  bodies_row a zero = refl
  bodies_row a (suc r) =
      ap (λ (l : List ℕ). flat_map (λ p. body_at p) l) (row_last (theory_of ws).heads r a)
      ∙ flat_append (λ p. body_at p) (entries a (stream (theory_of ws).heads 0 r)) (occurrences r a ((theory_of ws).heads r))
      ∙ ap₂ (λ (s t : List ℕ). s ++ t) (bodies_row a r) (last ((theory_of ws).body r) refl)
    where
      last : (k : ℕ) → (theory_of ws).body r ≡ k → flat_map (λ p. body_at p) (occurrences r a ((theory_of ws).heads r)) ≡ body_entries (theory_of ws) a k ((theory_of ws).heads r)
      last zero e = flat_none (λ p. body_at p) r a ((theory_of ws).heads r) (ap (body_vertex ws) e)
      last (suc n) e = flat_one (λ p. body_at p) r ((theory_of ws).atoms + n) a ((theory_of ws).heads r) (ap (body_vertex ws) e)

  -- ---- an atom or a node

  pub left_atom : (v c : ℕ) → v < (theory_of ws).atoms → left_of ws v c ≡ atom_left ws v c
  unfolding left_of
  left_atom v c h = simp (lt-ltb v (theory_of ws).atoms h)

  pub left_node : (v c : ℕ) → (theory_of ws).atoms ≤ v → left_of ws v c ≡ node_left ws (has_operand ws (v - (theory_of ws).atoms)) (v - (theory_of ws).atoms) c
  unfolding left_of
  left_node v c h = simp (le-ltb v (theory_of ws).atoms h)

  pub first_atom : (v : ℕ) → v < (theory_of ws).atoms → first_of ws v ≡ 0
  unfolding first_of
  first_atom v h = simp (lt-ltb v (theory_of ws).atoms h)

  pub first_node : (v : ℕ) → (theory_of ws).atoms ≤ v → first_of ws v ≡ node_first ws (has_operand ws (v - (theory_of ws).atoms)) (v - (theory_of ws).atoms)
  unfolding first_of
  first_node v h = simp (le-ltb v (theory_of ws).atoms h)

  -- ---- what a cursor leaves

  module _ (a c : ℕ) (low : a < (theory_of ws).atoms) where
    pub row_end : length (entries a (edges_of (theory_of ws) ByHead)) ≤ c → left_of ws a c ≡ []
    unfolding atom_left flat_map
    row_end h = left_atom a c low ∙ ap (flat_map (λ p. body_at p)) (drop_of_length-le (entries a (edges_of (theory_of ws) ByHead)) h)

    pub row_next : {p : ℕ} → c < length (entries a (edges_of (theory_of ws) ByHead)) → p ≡ get_or (entries a (edges_of (theory_of ws) ByHead)) c 0
        → left_of ws a c ≡ body_at p ++ left_of ws a (c + 1)
    unfolding atom_left flat_map
    row_next {p} h e =
        left_atom a c low
        ∙ ap (flat_map (λ p. body_at p)) (drop-cons (entries a (edges_of (theory_of ws) ByHead)) c 0 h)
        ∙ ap₂ (λ (q i : ℕ). body_at q ++ atom_left ws a i) (sym e) (sym (add-one c))
        ∙ ap (λ (l : List ℕ). body_at p ++ l) (sym (left_atom a (c + 1) low))

  module _ (v : ℕ) (low : (theory_of ws).atoms ≤ v) {n : ℕ} (e : n ≡ v - (theory_of ws).atoms) where
    pub links_end : (c : ℕ) → c ≡ 0 → left_of ws v c ≡ []
    unfolding node_left
    links_end c z = ap (left_of ws v) z ∙ left_node v 0 low ∙ go (has_operand ws (v - (theory_of ws).atoms))
      where
        go : (t : Bool) → node_left ws t (v - (theory_of ws).atoms) 0 ≡ []
        go true = refl
        go false = ap (map (λ m. (theory_of ws).atoms + m)) (chain_end ws)

    at_node : (c : ℕ) {t : Bool} → has_operand ws n ≡ t → left_of ws v c ≡ node_left ws t n c
    at_node c q = left_node v c low ∙ ap (λ (m : ℕ). node_left ws (has_operand ws m) m c) (sym e) ∙ ap (λ (t : Bool). node_left ws t n c) q

    pub operand_next : (c : ℕ) → c ≢ 0 → has_operand ws n ≡ true → left_of ws v c ≡ (theory_of ws).operand n ∷ left_of ws v 0
    unfolding node_left
    operand_next c z q =
        at_node c q ∙ ap (λ (t : Bool). cond t [] ((theory_of ws).operand n ∷ [])) (ne_eqb c 0 z)
        ∙ ap (λ (l : List ℕ). (theory_of ws).operand n ∷ l) (sym (links_end 0 refl))

    pub link_next : (c : ℕ) → c ≢ 0 → has_operand ws n ≡ false → MeetsOnce ws c → left_of ws v c ≡ ((theory_of ws).atoms + value_of ws c) ∷ left_of ws v (next_of ws c)
    unfolding node_left
    link_next c z q h =
        at_node c q ∙ ap (map (λ m. (theory_of ws).atoms + m)) (chain_step ws h z)
        ∙ ap (λ (l : List ℕ). ((theory_of ws).atoms + value_of ws c) ∷ l) (sym (at_node (next_of ws c) q))

  -- ---- the first cursor

  module _ {ed : Edition} (acc : Accepted ed ws) where
    -- the leaves
    some : (n : ℕ) → map (λ m. (theory_of ws).atoms + m) (chain ws (get_or ws (node_at n + 2) 0)) ≡ map (λ m. (theory_of ws).atoms + m) ((theory_of ws).leaves n)
    some n = ap (map (λ m. (theory_of ws).atoms + m)) (sym (the_leaves ws n))

    none : (n : ℕ) → n < (theory_of ws).nodes → joins ((theory_of ws).kind n) ≡ false → map (λ m. (theory_of ws).atoms + m) (chain ws (get_or ws (node_at n + 2) 0)) ≡ []
    none n l j = some n ∙ ap (map (λ m. (theory_of ws).atoms + m)) (acc.leafless n (let e = the_nodes ws in omega arith) j)

    node_all : (n : ℕ) → n < (theory_of ws).nodes → (k : Kind) → (theory_of ws).kind n ≡ k → node_left ws (takes_operand k) n (node_first ws (takes_operand k) n) ≡ inputs (theory_of ws) k n
    unfolding node_left node_first takes_operand inputs joins
    node_all n l False e = none n l (ap joins e)
    node_all n l Atom e = refl
    node_all n l And e = some n
    node_all n l Or e = some n
    node_all n l Opaque e = none n l (ap joins e)
    node_all n l Absorbed e = none n l (ap joins e)

    pub first_all : (v : ℕ) → Is (in_graph (theory_of ws) v) → left_of ws v (first_of ws v) ≡ cone_preds (theory_of ws) v
    unfolding atom_left
    first_all v g = go (dec_lt v (theory_of ws).atoms)
      where
        go : Dec (v < (theory_of ws).atoms) → left_of ws v (first_of ws v) ≡ cone_preds (theory_of ws) v
        go (yes h) =
            ap (left_of ws v) (first_atom v h) ∙ left_atom v 0 h ∙ bodies_row v (theory_of ws).producers
            ∙ sym (preds_atom (theory_of ws) (body_cone (theory_of ws)) v h)
        go (no h) =
            let l : (theory_of ws).atoms ≤ v = omega arith in
            let e : (theory_of ws).atoms + (v - (theory_of ws).atoms) ≡ v = omega arith in
            let c = graph_cone (theory_of ws) v l g in
            ap (left_of ws v) (first_node v l) ∙ left_node v _ l ∙ node_all (v - (theory_of ws).atoms) c.1 ((theory_of ws).kind (v - (theory_of ws).atoms)) refl
            ∙ sym (preds_node (theory_of ws) (body_cone (theory_of ws)) (v - (theory_of ws).atoms) c.1 c.0) ∙ ap (cone_preds (theory_of ws)) e

    -- a node's vertex v, where there are m atoms
    module _ {v : ℕ} (l : v < vertices (theory_of ws)) {m : ℕ} (em : m ≡ (theory_of ws).atoms) (high : m ≤ v) where
      pub node_low : v - m < (theory_of ws).nodes
      unfolding vertices
      node_low = omega arith

      pub node_in : NodeIn ws (v - m)
      node_in = record { size = acc.size; below = let l = node_low in let e = the_nodes ws in omega arith }

      -- as the reader of records has its kind
      pub node_says : (k : ℕ) {r : Bool} → kind_of k ≡ (theory_of ws).kind (v - m) → r ≡ takes_operand (kind_of k) → has_operand ws (v - m) ≡ r
      node_says k e q = sym (q ∙ ap takes_operand e)

      first_is : {t : Bool} → has_operand ws (v - m) ≡ t → first_of ws v ≡ node_first ws t (v - m)
      first_is q =
          first_node v (let e = em in omega arith) ∙ ap (λ (k : ℕ). node_first ws (has_operand ws (v - k)) (v - k)) (sym em)
          ∙ ap (λ (t : Bool). node_first ws t (v - m)) q

      pub first_operand : has_operand ws (v - m) ≡ true → first_of ws v ≡ 1
      unfolding node_first
      first_operand q = first_is q

      pub first_leaf : has_operand ws (v - m) ≡ false → first_of ws v ≡ get_or ws (node_at (v - m) + 2) 0
      unfolding node_first
      first_leaf q = first_is q

    module _ (v : ℕ) (l : v < vertices (theory_of ws)) where
      chain_ends : (theory_of ws).atoms ≤ v → MeetsOnce ws (get_or ws (node_at (v - (theory_of ws).atoms) + 2) 0)
      chain_ends h = acc.leaf_chain (v - (theory_of ws).atoms) (node_in l refl h).below

      pub first_linked : Linked ws v (first_of ws v)
      first_linked h q = subst (MeetsOnce ws) (sym (first_leaf l refl h q)) (chain_ends h)

      pub first_few : first_of ws v ≤ 1 + ed.links
      first_few = go (dec_lt v (theory_of ws).atoms)
        where
          node : (h : (theory_of ws).atoms ≤ v) → (has_operand ws (v - (theory_of ws).atoms) ≡ true) ⊎ (has_operand ws (v - (theory_of ws).atoms) ≡ false) → first_of ws v ≤ 1 + ed.links
          node h (inl q) = let e = first_operand l refl h q in omega arith
          node h (inr q) = let e = first_leaf l refl h q in let a = once_link ws (chain_ends h) in let c = acc.links_few in omega arith

          go : Dec (v < (theory_of ws).atoms) → first_of ws v ≤ 1 + ed.links
          go (yes h) = let e = first_atom v h in omega arith
          go (no h) = node (omega arith) (bool_cases (has_operand ws (v - (theory_of ws).atoms)))
