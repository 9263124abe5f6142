-- Every word that the walk reads or writes stands within the area, and a store past the tables keeps them (`kept_set`, `ready_kept`).
use mathlib.Core.Path.{◌≡◌, refl, sym, ◌∙◌, subst}
use mathlib.Core.List.{List}
use Prim.Native.Nat.{ℕ, ◌+◌, ◌≤◌, ◌<◌}
use native.Mathlib.Omega.{arith}
use lib.ListN.{set, length-set}
use lib.Seq.{take-set-le}
use Rattle.theory.specs.Words.{theory_of}
use Rattle.theory.specs.Edges.{vertices}
use Rattle.theory.specs.Accepted.{Edition, Accepted}
use Rattle.graph.proofs.DecodeLaws.{the_atoms, the_nodes}
use Rattle.area.specs.declared.Bases.{Bases}
use Rattle.area.specs.Layout.{Based}
use Rattle.area.proofs.PartLaws.{frame_less}
use Rattle.adjacency.proofs.TableLaws.{kept as table_kept}
use Rattle.area.specs.Views.{mark_of}
use Rattle.finishing.specs.Finished.{Kept, Ready}

module _ {ws : List ℕ} {n : ℕ} {b : Bases} (based : Based ws n b) where
  pub atoms_are : b.atoms ≡ (theory_of ws).atoms
  atoms_are = based.atoms ∙ sym (the_atoms ws)

  pub vertices_are : vertices (theory_of ws) ≡ b.atoms + b.nodes
  unfolding vertices
  vertices_are = let a = based.atoms in let c = based.nodes in let d = the_atoms ws in let e = the_nodes ws in omega arith

  -- as many as a word can tell apart
  pub vertices_few : {ed : Edition} → Accepted ed ws → vertices (theory_of ws) ≤ ed.counts + ed.counts
  vertices_few acc = let e = vertices_are in let a = based.atoms in let c = based.nodes in let x = acc.atoms_few in let y = acc.nodes_few in omega arith

  -- below the number of vertices
  module _ (v : ℕ) (low : v < vertices (theory_of ws)) where
    pub vertex_low : v < b.atoms + b.nodes
    vertex_low = let e = vertices_are in omega arith

    pub cursor_place : b.dependencies + v < n
    cursor_place = let e = vertices_are in let l = based.laid in let z = based.ends in omega arith

    pub stack_place : b.queue + v < n
    stack_place = let e = vertices_are in let l = based.laid in let z = based.ends in omega arith

    pub order_place : b.body_nodes + v < n
    order_place = let e = vertices_are in let l = based.laid in let z = based.ends in omega arith

    pub mark_place : mark_of b v < n
    mark_place = let e = vertices_are in let l = based.laid in let z = based.ends in omega arith

-- ---- what stays

pub kept_none : {b : Bases} {w : List ℕ} → Kept b w w
kept_none = record { size = refl; tables = refl }

pub kept_on : {b : Bases} {w w' w'' : List ℕ} → Kept b w w' → Kept b w' w'' → Kept b w w''
kept_on p q = record { size = q.size ∙ p.size; tables = q.tables ∙ p.tables }

pub kept_set : {b : Bases} {w : List ℕ} (i x : ℕ) → b.states ≤ i → Kept b w (set w i x)
kept_set {b} {w} i x l = record { size = length-set w i x; tables = take-set-le b.states w i x l }

pub ready_kept : {ws : List ℕ} {b : Bases} {w w' : List ℕ} → Ready ws b w → Kept b w w' → Ready ws b w'
ready_kept {ws} {b} {w} {w'} r k = record {
  based = subst (λ (n : ℕ). Based ws n b) (sym k.size) r.based;
  table = table_kept r.table w' (frame_less b.states w w' k.tables b.by_body (let l = r.based.laid in omega arith)) k.size;
}
