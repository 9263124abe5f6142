-- The edges of preparation run between its vertices (`cone_within`), and are the edges of the loop test that end at one (`preds_cone`); no atom is
-- its own predecessor (`no_self`).
use mathlib.Core.Path.{◌≡◌, refl, sym, ap, ◌∙◌, subst}
use mathlib.Core.Logic.{◌⊎◌, inl, inr}
use mathlib.Core.Bool.{Bool, ◌||◌}
use mathlib.Core.List.Memᴰ
use mathlib.Core.List.{List, map}
use Prim.Native.Nat.{ℕ, ◌+◌, ◌-◌, ◌≤◌, ◌<◌}
use native.Mathlib.Omega.{arith}
use native.Mathlib.Decide.{dec_lt}
use lib.Dec.{ltb, lt→ltb}
use Rattle.theory.specs.Sets.{Is, Set, everyone, Mem, filled}
use Rattle.theory.specs.Theory.{Theory, WellFormed, Kind, False, Atom, And, Or, Opaque, Absorbed, joins}
use Rattle.theory.specs.Edges.{vertices, inputs, preds, body_cone, in_graph, cone_preds}
use Rattle.theory.specs.Search.{Within}
use Rattle.theory.proofs.SetLaws.{T_is, or_left}
use Rattle.theory.proofs.EdgeLaws.{preds_atom, preds_node, preds_vertex, edge_atom, past, less, cone_body, cone_leaf, cone_bound}

pub filled_mem : {a : ℕ} {l : List ℕ} → Mem a l → Is (filled l)
unfolding filled
filled_mem (Memᴰ.head e) = refl
filled_mem (Memᴰ.tail m) = refl

module _ (th : Theory) where
  pub graph_atom : (a : ℕ) → a < th.atoms → Is (in_graph th a)
  unfolding in_graph
  graph_atom a l = or_left (ltb a th.atoms) _ (T_is (ltb a th.atoms) (lt→ltb a th.atoms l))

  pub graph_node : (n : ℕ) → in_graph th (th.atoms + n) ≡ body_cone th n
  unfolding in_graph
  graph_node n = ap (λ (x : Bool). x || body_cone th (th.atoms + n - th.atoms)) (past th n) ∙ ap (body_cone th) (less th n)

  -- a node of the graph is in the body cone
  pub graph_cone : (v : ℕ) → th.atoms ≤ v → Is (in_graph th v) → Is (body_cone th (v - th.atoms)) × (v - th.atoms < th.nodes)
  unfolding body_cone
  graph_cone v l g =
      let e : th.atoms + (v - th.atoms) ≡ v = omega arith in
      let c = sym (graph_node (v - th.atoms)) ∙ ap (in_graph th) e ∙ g in
      (c, cone_bound th (λ p. filled (th.heads p)) (v - th.atoms) c)

  pub preds_cone : (v : ℕ) → Is (in_graph th v) → cone_preds th v ≡ preds th everyone v
  preds_cone v g = go (dec_lt v th.atoms)
    where
      go : Dec (v < th.atoms) → preds th (body_cone th) v ≡ preds th everyone v
      go (yes l) = preds_atom th (body_cone th) v l ∙ sym (preds_atom th everyone v l)
      go (no l) =
          let e : th.atoms + (v - th.atoms) ≡ v = omega arith in
          let c = graph_cone v (omega arith) g in
          subst (λ (z : ℕ). preds th (body_cone th) z ≡ preds th everyone z) e (preds_node th (body_cone th) (v - th.atoms) c.1 c.0 ∙ sym (preds_node th everyone (v - th.atoms) c.1 refl))

  pub no_self : (c : Set) (a : ℕ) → a < th.atoms → Mem a (preds th c a) → ⊥
  no_self c a l m = let q = (edge_atom th c a a l).0 m in let e = q.5 in omega arith

  module _ (ok : WellFormed th) where
    -- a vertex of preparation, below the number of vertices
    Vertex : ℕ → Type 0
    Vertex v = Is (in_graph th v) × (v < vertices th)

    node_vertex : (n : ℕ) → n < th.nodes → Is (body_cone th n) → Vertex (th.atoms + n)
    unfolding Vertex vertices
    node_vertex n l c = (graph_node n ∙ c, omega arith)

    atom_vertex : (a : ℕ) → a < th.atoms → Vertex a
    unfolding Vertex vertices
    atom_vertex a l = (graph_atom a l, omega arith)

    -- the leaves of a node of the cone are in it
    leaf_vertex : (n w : ℕ) → n < th.nodes → Is (body_cone th n) → Is (joins (th.kind n)) → Mem w (map (λ m. th.atoms + m) (th.leaves n)) → Vertex w
    unfolding body_cone
    leaf_vertex n w l c j m =
        let r = Memᴰ.of_map (λ m. th.atoms + m) (th.leaves n) m in
        let h = ok.leaf_low n r.0 l r.1 in
        subst Vertex r.2 (node_vertex r.0 (omega arith) (cone_leaf th (λ p. filled (th.heads p)) r.0 n l (omega arith) c j r.1))

    inputs_vertex : (n w : ℕ) → n < th.nodes → Is (body_cone th n) → (k : Kind) → th.kind n ≡ k → Mem w (inputs th k n) → Vertex w
    unfolding inputs joins
    inputs_vertex n w l c False e m = absurd (Memᴰ.not-nil m)
    inputs_vertex n w l c Atom e m = subst Vertex (sym (Memᴰ.eq_of_singleton m)) (atom_vertex (th.operand n) (ok.operand_low n l e))
    inputs_vertex n w l c And e m = leaf_vertex n w l c (ap joins e) m
    inputs_vertex n w l c Or e m = leaf_vertex n w l c (ap joins e) m
    inputs_vertex n w l c Opaque e m = absurd (Memᴰ.not-nil m)
    inputs_vertex n w l c Absorbed e m = absurd (Memᴰ.not-nil m)

    pub cone_within : Within (vertices th) (cone_preds th) (in_graph th)
    unfolding body_cone Vertex
    cone_within = record { from = λ u v m. from u v m (preds_vertex th (body_cone th) v u m); to = λ u v m. to v (preds_vertex th (body_cone th) v u m) }
      where
        Node : ℕ → Type 0
        Node v = (th.atoms ≤ v) × (v - th.atoms < th.nodes) × Is (body_cone th (v - th.atoms))

        to : (v : ℕ) → (v < th.atoms) ⊎ Node v → Vertex v
        to v (inl l) = atom_vertex v l
        to v (inr (l, k, c)) = let e : th.atoms + (v - th.atoms) ≡ v = omega arith in subst Vertex e (node_vertex (v - th.atoms) k c)

        from : (u v : ℕ) → Mem u (cone_preds th v) → (v < th.atoms) ⊎ Node v → Vertex u
        from u v m (inl l) =
            let q = (edge_atom th (body_cone th) v u l).0 m in
            let k = ok.body_low q.0 q.1 q.2 q.3 in
            subst Vertex (sym q.5) (node_vertex q.1 k (cone_body th (λ p. filled (th.heads p)) q.0 q.1 q.2 k q.3 (filled_mem q.4)))
        from u v m (inr (l, k, c)) =
            let e : th.atoms + (v - th.atoms) ≡ v = omega arith in
            inputs_vertex (v - th.atoms) u k c (th.kind (v - th.atoms)) refl
            (subst (λ (x : List ℕ). Mem u x) (preds_node th (body_cone th) (v - th.atoms) k c) (subst (λ (z : ℕ). Mem u (cone_preds th z)) (sym e) m))
