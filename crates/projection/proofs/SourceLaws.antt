-- What a row is narrowed from: its place in the words, that the marks tell of each entry whether it is kept, and the row that it becomes.
use mathlib.Core.Path.{◌≡◌, refl, sym, ap, ap₂, ◌∙◌, subst}
use mathlib.Core.Logic.{◌⊎◌, inl, inr}
use mathlib.Core.Bool.{Bool, true, false, cond}
use mathlib.Core.List.Memᴰ
use mathlib.Core.List.{List, [], ◌++◌, map}
use Prim.Native.Nat.{ℕ, ◌+◌, ◌-◌, ◌≤◌, ◌<◌}
use native.Mathlib.Omega.{arith}
use borrow.Author.Tests.{lt-ltb, le-ltb}
use lib.Dec.{ltb, eqb}
use lib.ListN.{length, get_or, take, drop, length-drop}
use lib.Seq.{slice, get_or-drop, take-add, length-take-le, drop-append_seam}
use Rattle.std.specs.Prelude.{filter}
use Rattle.theory.specs.Sets.{Set, Is, Mem, any, members}
use Rattle.theory.specs.Theory.{Theory}
use Rattle.theory.specs.Words.{theory_of}
use Rattle.theory.specs.Rows.{entries, flat_map, shifted, stream, parents, by_body, leaf_keys, body_keys}
use Rattle.theory.specs.Founded.{cyclic, cyclic_cone}
use Rattle.theory.proofs.PrefixLaws.{upto_mem}
use Rattle.theory.proofs.TurnedLaws.{same_members}
use Rattle.theory.proofs.EdgeLaws.{past, less}
use Rattle.theory.proofs.RowLaws.{row_item, flat_item}
use Rattle.area.specs.declared.Bases.{Bases}
use Rattle.area.specs.Views.{as_vertices}
use Rattle.adjacency.specs.Tables.{start_at, row_at}
use Rattle.rows.specs.Rows.{Spanned, Named}
use Rattle.rows.proofs.VertexLaws.{slice_mem, parents_spanned, body_spanned, body_named}
use Rattle.cones.specs.Cones.{facts_of, fact_by}
use Rattle.cones.specs.declared.Cone.{Cone}
use Rattle.cones.proofs.FactLaws.{fact_mem, members_mem}
use Rattle.preparation.proofs.PassLaws.{counts}
use Rattle.projection.specs.Narrowed.{in_pass, parent_row, body_heads, fact_heads, head_row, Sourced, parents_of, heads_of}

slice_take : (f n : ℕ) (w : List ℕ) → f ≤ length w → slice f (f + n) w ≡ take n (drop f w)
slice_take f n w h = ap (drop f) (take-add f n w) ∙ ap (λ (k : ℕ). drop k (take f w ++ take n (drop f w))) (sym (length-take-le f w h)) ∙ drop-append_seam (take f w) (take n (drop f w))

-- ---- what a pass may find

module _ (th : Theory) (marked cone : Set) where
  pub in_atom : (a : ℕ) → a < th.atoms → in_pass th marked cone a ≡ marked a
  unfolding in_pass
  in_atom a l = ap (λ (x : Bool). cond x (marked a) (cone (a - th.atoms))) (lt-ltb a th.atoms l)

  pub in_node : (n : ℕ) → in_pass th marked cone (th.atoms + n) ≡ cone n
  unfolding in_pass
  in_node n = ap (λ (x : Bool). cond x (marked (th.atoms + n)) (cone (th.atoms + n - th.atoms))) (past th n) ∙ ap cone (less th n)

module _ {ws : List ℕ} {b : Bases} {w : List ℕ} {c : Cone} (s : Sourced ws b w c) where
  abbrev pub keeps : Set
  keeps = in_pass (theory_of ws) (cyclic (theory_of ws)) (cyclic_cone (theory_of ws))

  pub word_mark : (n : ℕ) → n < b.nodes → (b.states + (b.atoms + n) < length w) × (get_or w (b.states + (b.atoms + n)) 0 ≡ cond (cyclic_cone (theory_of ws) n) 1 0)
  word_mark n l = let q = counts s.standing.based in let d = s.standing.based.laid in let e = s.standing.based.ends in (omega arith, s.standing.coned.found.marks n (omega arith))

  pub word_flag : (a : ℕ) → a < b.atoms → (b.cyclic_atoms + a < length w) × (get_or w (b.cyclic_atoms + a) 0 ≡ cond (cyclic (theory_of ws) a) 1 0)
  word_flag a l = let d = s.standing.based.laid in let e = s.standing.based.ends in (omega arith, s.standing.flagged.flag a l)

  -- node i of the cone's list
  pub cone_at : (i : ℕ) → i < c.nodes → (b.body_nodes + i < length w) × Is (cyclic_cone (theory_of ws) (get_or w (b.body_nodes + i) 0))
  cone_at i l =
      let q = counts s.standing.based in let d = s.standing.based.laid in let e = s.standing.based.ends in let f = s.standing.coned.found.within in
      let long : c.nodes ≤ length (drop b.body_nodes w) = simp length-drop (omega arith) in (
        omega arith,
        (s.standing.coned.found.lists (get_or w (b.body_nodes + i) 0)).0
            (rw (get_or-drop b.body_nodes w i 0) at ((same_members c.nodes (drop b.body_nodes w) long (get_or (drop b.body_nodes w) i 0)).0 (upto_mem c.nodes i (drop b.body_nodes w) l))),
      )

  pub told_has : (y : Bool) {x : ℕ} → x ≡ cond y 1 0 → eqb x 1 ≡ y
  told_has true e = rw e refl
  told_has false e = rw e refl

  -- ---- parents

  module _ (n : ℕ) (l : n < b.nodes) where
    pub parents_place : Spanned b.states w b.parents b.nodes n
    parents_place = parents_spanned s.standing.based s.standing.tables n l

    pub body_place : Spanned b.states w b.by_body b.nodes n
    body_place = body_spanned s.standing.based s.standing.tables n l

    pub body_producers : Named ws w (start_at w b.by_body b.nodes n) (start_at w b.by_body b.nodes (n + 1))
    body_producers = body_named s.standing.based s.standing.tables n l

    parents_are : row_at w b.parents b.nodes n ≡ entries n (parents (theory_of ws))
    unfolding parents
    parents_are = let q = counts s.standing.based in rw q.1 (s.standing.tables.parents.row n (omega arith))

    bodies_are : row_at w b.by_body b.nodes n ≡ entries n (by_body (theory_of ws))
    unfolding by_body
    bodies_are = let q = counts s.standing.based in rw q.1 (s.standing.tables.by_body.row n (omega arith))

    pub parents_told : (v : ℕ) → Mem v (as_vertices b (row_at w b.parents b.nodes n)) → (b.states + v < length w) × (v < 65536) × (get_or w (b.states + v) 0 ≡ cond (keeps v) 1 0)
    unfolding parents
    parents_told v m =
        let r = Memᴰ.of_map (λ x. b.atoms + x) (row_at w b.parents b.nodes n) m in
        let q = counts s.standing.based in
        let i = row_item (λ x. leaf_keys (theory_of ws) ((theory_of ws).kind x) x) (theory_of ws).nodes n r.0 (subst (λ (x : List ℕ). Mem r.0 x) parents_are r.1) in
        let k = word_mark r.0 (omega arith) in
        let few = s.accepted.atoms_few in let some = s.accepted.nodes_few in
        let e : b.atoms + r.0 ≡ v = r.2 in
        subst (λ (z : ℕ). (b.states + z < length w) × (z < 65536) × (get_or w (b.states + z) 0 ≡ cond (keeps z) 1 0)) e (
          k.0,
          omega arith,
          k.1 ∙ ap (λ (x : Bool). cond x 1 0) (sym (in_node (theory_of ws) (cyclic (theory_of ws)) (cyclic_cone (theory_of ws)) r.0)) ∙ ap (λ (z : ℕ). cond (keeps (z + r.0)) 1 0) (sym q.0),
        )

    pub parents_row : Is (cyclic_cone (theory_of ws) n) → filter keeps (as_vertices b (row_at w b.parents b.nodes n)) ≡ parents_of ws n
    unfolding parent_row
    parents_row i = let q = counts s.standing.based in rw (i, parents_are, q.0) refl

    pub parents_none : cyclic_cone (theory_of ws) n ≡ false → [] ≡ parents_of ws n
    unfolding parent_row
    parents_none e = rw e refl

    -- ---- heads

    pub heads_row : Is (cyclic_cone (theory_of ws) n) → filter keeps (flat_map (theory_of ws).heads (row_at w b.by_body b.nodes n)) ≡ heads_of ws n
    unfolding head_row body_heads
    heads_row i = let q = counts s.standing.based in rw (lt-ltb n (theory_of ws).nodes (omega arith), i, bodies_are) refl

    pub heads_none : cyclic_cone (theory_of ws) n ≡ false → [] ≡ heads_of ws n
    unfolding head_row body_heads
    heads_none e = let q = counts s.standing.based in rw (lt-ltb n (theory_of ws).nodes (omega arith), e) refl

  -- the flags tell of the heads of any producers
  pub heads_told : (l : List ℕ) → ((p : ℕ) → Mem p l → p < (theory_of ws).producers) → (v : ℕ) → Mem v (flat_map (theory_of ws).heads l) → (b.cyclic_atoms + v < length w) × (v < 65536) × (get_or w (b.cyclic_atoms + v) 0 ≡ cond (keeps v) 1 0)
  heads_told l low v m =
      let r = flat_item (theory_of ws).heads v l m in
      let q = counts s.standing.based in let d = s.standing.based.laid in let e = s.standing.based.ends in
      let a = s.accepted.well_formed.head_low r.0 v (low r.0 r.1) r.2 in
      let few = s.accepted.atoms_few in
      (omega arith, omega arith, s.standing.flagged.flag v (omega arith) ∙ ap (λ (x : Bool). cond x 1 0) (sym (in_atom (theory_of ws) (cyclic (theory_of ws)) (cyclic_cone (theory_of ws)) v a)))

  pub body_low : (n : ℕ) → n < b.nodes → (p : ℕ) → Mem p (row_at w b.by_body b.nodes n) → p < (theory_of ws).producers
  unfolding by_body
  body_low n l p m = row_item (λ x. body_keys ((theory_of ws).body x)) (theory_of ws).producers n p (rw (bodies_are n l) at m)

  -- ---- the facts

  facts_are : slice b.fact_rows (b.fact_rows + c.facts) w ≡ members (theory_of ws).producers (fact_by (theory_of ws) (λ p. any (cyclic (theory_of ws)) ((theory_of ws).heads p)))
  facts_are = slice_take b.fact_rows c.facts w (let q = counts s.standing.based in let d = s.standing.based.laid in let e = s.standing.based.ends in omega arith) ∙ s.standing.coned.lists

  pub facts_low : (p : ℕ) → Mem p (slice b.fact_rows (b.fact_rows + c.facts) w) → p < (theory_of ws).producers
  facts_low p m = ((members_mem (theory_of ws).producers _ p).0 (rw facts_are at m)).0

  pub facts_place : b.fact_rows + c.facts ≤ length w
  facts_place = let q = counts s.standing.based in let d = s.standing.based.laid in let e = s.standing.based.ends in let f = s.standing.coned.few in omega arith

  pub facts_named : Named ws w b.fact_rows (b.fact_rows + c.facts)
  unfolding theory_of
  facts_named i h k = facts_low (get_or w i 0) (slice_mem b.fact_rows (b.fact_rows + c.facts) w i h k facts_place)

  pub facts_row : filter keeps (flat_map (theory_of ws).heads (slice b.fact_rows (b.fact_rows + c.facts) w)) ≡ heads_of ws b.nodes
  unfolding head_row fact_heads
  facts_row = let q = counts s.standing.based in rw (le-ltb b.nodes (theory_of ws).nodes (omega arith), facts_are) refl
