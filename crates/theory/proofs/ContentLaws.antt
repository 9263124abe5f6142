-- Theories with the same content have the same edges (`preds_alike`), cyclic atoms, loop test, body cone, founded atoms and missing list (`cyclic_alike` ..
-- `outcome_alike`). Graphs with the same content, in whatever edition, have such theories (`content_alike`).
use mathlib.Core.Path.{◌≡◌, refl, sym, ap, ap₂, ◌∙◌, fun_ext}
use mathlib.Core.Logic.{◌↔◌}
use mathlib.Core.Bool.{Bool, true, false, ◌&&◌}
use mathlib.Core.List.{List, [], ◌∷◌, ◌++◌, map}
use Prim.Native.Nat.{ℕ, zero, suc, ◌+◌, ◌-◌, ◌≤◌, ◌<◌}
use native.Mathlib.Omega.{arith}
use lib.Dec.{ltb, ltb→lt}
use Rattle.theory.specs.Sets.{Is, Set, ◌⊆◌, everyone, Mem, filled, members}
use Rattle.theory.specs.Theory.{Theory, WellFormed, Kind, False, Atom, And, Or, Opaque, Absorbed, joins, absorbed}
use Rattle.theory.specs.Edges.{vertices, body_entries, bodies_below, inputs, preds_by, preds, body_cone, absorbed_node}
use Rattle.theory.specs.Truth.{fires}
use Rattle.theory.specs.Founded.{has_cycle, cyclic, atom_truth, missing_among, founded, missing}
use Rattle.theory.specs.Words.{kind_of, theory_of}
use Rattle.theory.specs.Cases.{told_by, outcome}
use Rattle.theory.specs.Alike.{Alike}
use Rattle.theory.specs.Content.{SameContent}
use Rattle.theory.proofs.SetLaws.{same_test, is_T, and_intro, and_left, and_right}
use Rattle.theory.proofs.EdgeLaws.{cone_body, cone_leaf, cone_bound, cone_least}
use Rattle.theory.proofs.CycleLaws.{has_cycle_walk}
use Rattle.theory.proofs.TruthLaws.{fires_mono}
use Rattle.theory.proofs.FoundedLaws.{Derived, atom_truth_mono, founded_closed, founded_induct}
use Rattle.theory.proofs.AlikeLaws.{NodesAlike, fires_alike}
use Rattle.theory.proofs.ClosedLaws.{walk_map, cyclic_edges}

pub alike_sym : (th other : Theory) → Alike th other → Alike other th
alike_sym th other e = record {
  atoms = sym e.atoms;
  nodes = sym e.nodes;
  producers = sym e.producers;
  kinds = λ n l. sym (e.kinds n (rw e.nodes l));
  operands = λ n l. sym (e.operands n (rw e.nodes l));
  leaf_lists = λ n l. sym (e.leaf_lists n (rw e.nodes l));
  bodies = λ p l. sym (e.bodies p (rw e.producers l));
  head_lists = λ p l. sym (e.head_lists p (rw e.producers l));
}

module _ (th other : Theory) (e : Alike th other) where
  -- ---- edges

  entries_alike : (a k : ℕ) (hs : List ℕ) → body_entries th a k hs ≡ body_entries other a k hs
  unfolding body_entries
  entries_alike a zero hs = refl
  entries_alike a (suc n) hs = rw e.atoms

  bodies_alike : (a n : ℕ) → n ≤ th.producers → bodies_below th a n ≡ bodies_below other a n
  unfolding bodies_below
  bodies_alike a zero l = refl
  bodies_alike a (suc p) l =
      ap₂ ◌++◌ (bodies_alike a p (omega arith)) (entries_alike a (th.body p) (th.heads p) ∙ ap₂ (λ (k : ℕ) (hs : List ℕ). body_entries other a k hs) (e.bodies p l) (e.head_lists p l))

  inputs_alike : (k : Kind) (n : ℕ) → n < th.nodes → inputs th k n ≡ inputs other k n
  unfolding inputs
  inputs_alike False n l = refl
  inputs_alike Atom n l = ap (λ (x : ℕ). x ∷ []) (e.operands n l)
  inputs_alike And n l = ap₂ (λ (a : ℕ) (x : List ℕ). map (λ m. a + m) x) e.atoms (e.leaf_lists n l)
  inputs_alike Or n l = ap₂ (λ (a : ℕ) (x : List ℕ). map (λ m. a + m) x) e.atoms (e.leaf_lists n l)
  inputs_alike Opaque n l = refl
  inputs_alike Absorbed n l = refl

  pub preds_alike : (c : Set) (v : ℕ) → preds th c v ≡ preds other c v
  unfolding preds preds_by
  preds_alike c v = go (ltb v th.atoms) (ltb (v - th.atoms) th.nodes) refl (c (v - th.atoms)) ∙ ap₂ (λ (a n : ℕ). preds_by other (ltb v a) (ltb (v - a) n && c (v - a)) v) e.atoms e.nodes
    where
      go : (a b : Bool) → ltb (v - th.atoms) th.nodes ≡ b → (d : Bool) → preds_by th a (b && d) v ≡ preds_by other a (b && d) v
      go true b q d = bodies_alike v th.producers (omega arith) ∙ ap (bodies_below other v) e.producers
      go false true q true =
          let l = ltb→lt (v - th.atoms) th.nodes (is_T _ q) in
          inputs_alike (th.kind (v - th.atoms)) (v - th.atoms) l
          ∙ ap (λ (k : Kind). inputs other k (v - th.atoms)) (e.kinds (v - th.atoms) l)
          ∙ ap (λ (a : ℕ). inputs other (other.kind (v - a)) (v - a)) e.atoms
      go false true q false = refl
      go false false q d = refl

  edges_alike : (x y : ℕ) → Mem x (preds th everyone y) ↔ Mem x (preds other everyone y)
  edges_alike x y = ((λ m. rw (sym (preds_alike everyone y)) m), λ m. rw (preds_alike everyone y) m)

  nodes_alike : NodesAlike th other
  nodes_alike = record { kinds = e.kinds; operands = e.operands; leaf_lists = e.leaf_lists }

  module _ (ok : WellFormed th) (fine : WellFormed other) where
    pub cyclic_alike : (a : ℕ) → cyclic th a ≡ cyclic other a
    cyclic_alike = cyclic_edges th other ok fine e.atoms edges_alike

    cycle_alike : Is (has_cycle th) → Is (has_cycle other)
    unfolding vertices
    cycle_alike h =
        let r = (has_cycle_walk th).0 h in
        (has_cycle_walk other).1 (r.0, rw (sym e.atoms, sym e.nodes) r.1, walk_map (λ x. x) (λ x y. (edges_alike x y).0) r.2)

    cone_inside : body_cone th ⊆ body_cone other
    unfolding body_cone
    cone_inside = cone_least th (λ p. filled (th.heads p)) (body_cone other)
        (λ p n l b f.
        let b' = sym (e.bodies p l) ∙ b in
        let l' : p < other.producers = rw (sym e.producers) l in
        cone_body other (λ p. filled (other.heads p)) p n l' (fine.body_low p n l' b') b' (ap filled (sym (e.head_lists p l)) ∙ f))
        (λ m n l c j i.
        let h = ok.leaf_low n m l i in
        let k : m < th.nodes = omega arith in
        cone_leaf other (λ p. filled (other.heads p)) m n (rw (sym e.nodes) l) (rw (sym e.nodes) k) c (ap joins (sym (e.kinds n l)) ∙ j) (rw (sym (e.leaf_lists n l)) i))

    founded_inside : (never atom_never : Set) → founded th never atom_never ⊆ founded other never atom_never
    founded_inside never atom_never = founded_induct th never atom_never (λ a. Is (founded other never atom_never a)) pass
      where
        pass : (s : Set) → ((b : ℕ) → Is (s b) → Is (founded other never atom_never b)) → (a : ℕ) → Derived th never atom_never s a → Is (founded other never atom_never a)
        pass s ih a d =
            founded_closed other never atom_never a d.by (sym (cyclic_alike a) ∙ d.is_marked) d.uncut (rw (sym e.producers) d.by_low) (rw (sym (e.head_lists d.by d.by_low)) d.head)
            (ap (fires other never _) (sym (e.bodies d.by d.by_low))
            ∙ ap (λ (c : Set). fires other never (atom_truth c atom_never (founded other never atom_never)) (th.body d.by)) (sym (fun_ext cyclic_alike))
            ∙ sym (fires_alike th other ok nodes_alike never _ d.by d.by_low)
            ∙ fires_mono th never _ _ (atom_truth_mono (cyclic th) atom_never s (founded other never atom_never) ih) (th.body d.by) d.fired)

module _ (th other : Theory) (e : Alike th other) (ok : WellFormed th) (fine : WellFormed other) where
  pub has_cycle_alike : has_cycle th ≡ has_cycle other
  has_cycle_alike = same_test _ _ (cycle_alike th other e ok fine) (cycle_alike other th (alike_sym th other e) fine ok)

  pub cone_alike : (n : ℕ) → body_cone th n ≡ body_cone other n
  cone_alike n = same_test _ _ (cone_inside th other e ok fine n) (cone_inside other th (alike_sym th other e) fine ok n)

  pub founded_alike : (never atom_never : Set) (a : ℕ) → founded th never atom_never a ≡ founded other never atom_never a
  founded_alike never atom_never a = same_test _ _ (founded_inside th other e ok fine never atom_never a) (founded_inside other th (alike_sym th other e) fine ok never atom_never a)

  pub missing_alike : (never atom_never : Set) (a : ℕ) → missing th never atom_never a ≡ missing other never atom_never a
  unfolding missing founded missing_among
  missing_alike never atom_never a = rw (cyclic_alike th other e ok fine a, founded_alike never atom_never a) refl

  pub absorbed_alike : (n : ℕ) → absorbed_node th n ≡ absorbed_node other n
  unfolding body_cone
  absorbed_alike n = same_test _ _
      (λ p. let c = and_left (body_cone th n) _ p in
      and_intro (sym (cone_alike n) ∙ c) (ap absorbed (sym (e.kinds n (cone_bound th (λ p. filled (th.heads p)) n c))) ∙ and_right (body_cone th n) _ p))
      (λ p. let c = cone_alike n ∙ and_left (body_cone other n) _ p in
      and_intro c (ap absorbed (e.kinds n (cone_bound th (λ p. filled (th.heads p)) n c)) ∙ and_right (body_cone other n) _ p))

  pub outcome_alike : (never atom_never : Set) → outcome th never atom_never ≡ outcome other never atom_never
  unfolding outcome
  outcome_alike never atom_never = ap₂ told_by (ap₂ members e.nodes (fun_ext absorbed_alike)) (ap₂ members e.atoms (fun_ext (missing_alike never atom_never)))

-- ---- graphs

pub content_alike : (x y : List ℕ) → SameContent x y → Alike (theory_of x) (theory_of y)
unfolding theory_of
content_alike x y s = record {
  atoms = s.atoms;
  nodes = s.nodes;
  producers = s.producers;
  kinds = λ n l. ap kind_of (s.kinds n l);
  operands = s.operands;
  leaf_lists = s.leaf_lists;
  bodies = s.bodies;
  head_lists = s.head_lists;
}
