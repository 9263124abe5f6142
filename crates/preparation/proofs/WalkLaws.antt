-- From the body cone to the cyclic atoms: every atom is marked, and so is every node of the body cone; the flags are the cyclic atoms'.
use mathlib.Core.Path.{◌≡◌, sym, ap, ◌∙◌}
use mathlib.Core.Logic.{◌⊎◌, inl, inr}
use mathlib.Core.Bool.{Bool, true, false, cond}
use mathlib.Core.List.{List}
use Prim.Native.Nat.{ℕ, ◌+◌, ◌-◌, ◌≤◌, ◌<◌}
use native.Mathlib.Omega.{arith}
use native.Mathlib.Decide.{dec_lt}
use Rattle.theory.specs.Sets.{Is}
use Rattle.theory.specs.Words.{theory_of}
use Rattle.theory.specs.Accepted.{Accepted, Edition}
use Rattle.theory.specs.Edges.{vertices, in_graph}
use Rattle.theory.specs.Founded.{cyclic}
use Rattle.theory.proofs.SetLaws.{bool_cases, clash}
use Rattle.theory.proofs.ConeLaws.{graph_atom, graph_node}
use Rattle.graph.proofs.DecodeLaws.{the_atoms, the_nodes}
use Rattle.area.specs.declared.Bases.{Bases}
use Rattle.area.specs.Layout.{Laid}
use Rattle.area.proofs.PartLaws.{frame_less, behind_at}
use Rattle.area.proofs.FillLaws.{Filled}
use Rattle.rows.specs.Rows.{Tables}
use Rattle.adjacency.proofs.TableLaws.{kept}
use Rattle.rows.proofs.VertexLaws.{tables_same}
use Rattle.area.specs.Views.{mark_of, mark_in, flag_at}
use Rattle.finishing.specs.Finished as walk
use Rattle.components.specs.Classes.{Classified}
use Rattle.preparation.specs.Stages.{Onward, Marking}

pub atoms_part : {b : Bases} {words : ℕ} → Laid b → b.end ≤ words → (b.states ≤ b.states + b.atoms) × (b.states + b.atoms ≤ words)
atoms_part laid ends = (omega arith, omega arith)

-- the atoms' marks are set
module _ {ws : List ℕ} {ed : Edition} (acc : Accepted ed ws) {b : Bases} {w : List ℕ} (o : Onward ws b w) {w₁ : List ℕ} (f : Filled b.states (b.states + b.atoms) 1 w w₁) where
  pub tables₁ : Tables (theory_of ws) b w₁
  tables₁ = tables_same f.before f.size o.tables

  pub ready₁ : walk.Ready ws b w₁
  ready₁ = let l = o.based.laid in record {
    based = rw f.size o.based;
    table = kept o.by_head w₁ (frame_less b.states w w₁ f.before b.by_body (omega arith)) f.size;
  }

  counts : (b.atoms ≡ (theory_of ws).atoms) × (b.nodes ≡ (theory_of ws).nodes)
  counts = let x = the_atoms ws in let y = the_nodes ws in let q = o.based.atoms in let r = o.based.nodes in (omega arith, omega arith)

  -- a node's mark says whether it is in the graph
  node_mark_lem : (v : ℕ) → b.atoms ≤ v → v < vertices (theory_of ws) → mark_in b w₁ v ≡ cond (in_graph (theory_of ws) v) 1 0
  unfolding vertices
  node_mark_lem v h l =
      let c = counts in
      let k : (theory_of ws).atoms + (v - (theory_of ws).atoms) ≡ v = omega arith in
      let d : v ≡ b.atoms + (v - (theory_of ws).atoms) = omega arith in
      behind_at (b.states + b.atoms) w w₁ f.after (mark_of b v) (omega arith)
      ∙ ap (mark_in b w) d
      ∙ o.marks (v - (theory_of ws).atoms) (omega arith)
      ∙ ap (λ (x : Bool). cond x 1 0) (sym (graph_node (theory_of ws) (v - (theory_of ws).atoms)) ∙ ap (in_graph (theory_of ws)) k)

  pub marked₁ : walk.Marked ws b 1 w₁
  marked₁ = record {
    inside = λ v l g. inside v l g (dec_lt v b.atoms);
    outside = λ v l g. outside v l g (dec_lt v b.atoms);
  }
    where
      inside : (v : ℕ) → v < vertices (theory_of ws) → Is (in_graph (theory_of ws) v) → Dec (v < b.atoms) → mark_in b w₁ v ≡ 1
      inside v l g (yes h) = f.at (mark_of b v) (omega arith) (omega arith)
      inside v l g (no h) = node_mark_lem v (omega arith) l ∙ ap (λ (x : Bool). cond x 1 0) g

      outside : (v : ℕ) → v < vertices (theory_of ws) → in_graph (theory_of ws) v ≡ false → Dec (v < b.atoms) → mark_in b w₁ v ≡ 0
      outside v l g (yes h) = let c = counts in clash (graph_atom (theory_of ws) v (omega arith)) g
      outside v l g (no h) = node_mark_lem v (omega arith) l ∙ ap (λ (x : Bool). cond x 1 0) g

  pub marking₁ : {w₂ : List ℕ} → Classified ws b w₁ w₂ → Marking ws b w w₂
  marking₁ {w₂} k = record {
    size = k.size ∙ f.size;
    tables = tables_same k.tables k.size tables₁;
    flags = λ a l. flag a l (bool_cases (cyclic (theory_of ws) a));
  }
    where
      flag : (a : ℕ) → a < b.atoms → (cyclic (theory_of ws) a ≡ true) ⊎ (cyclic (theory_of ws) a ≡ false) → flag_at b w₂ a ≡ cond (cyclic (theory_of ws) a) 1 0
      flag a l (inl c) = k.yes a l c ∙ ap (λ (x : Bool). cond x 1 0) (sym c)
      flag a l (inr c) = k.no a l (λ y. clash y c) ∙ ap (λ (x : Bool). cond x 1 0) (sym c)
