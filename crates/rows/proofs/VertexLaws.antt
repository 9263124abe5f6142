-- The row of a vertex stands in the tables: an atom's nodes, a node's parents and then the heads of the producers with that body.
use mathlib.Core.Path.{◌≡◌, refl, sym, ap, ap₂, ◌∙◌}
use mathlib.Core.List.Memᴰ
use mathlib.Core.List.{List, [], ◌∷◌, ◌++◌, map, append-nil}
use Prim.Native.Nat.{ℕ, zero, suc, ◌+◌, ◌-◌, ◌≤◌, ◌<◌}
use native.Mathlib.Omega.{arith}
use lib.ListN.{length, get_or, take}
use lib.Seq.{slice, get_or-take, get_or-drop, length-slice}
use Rattle.theory.specs.Sets.{Mem}
use Rattle.theory.specs.Theory.{Theory}
use Rattle.theory.specs.Words.{theory_of}
use Rattle.theory.specs.Rows.{Edge, entries, flat_map, atom_nodes, parents, by_body, body_keys, node_succs, succs}
use Rattle.theory.proofs.RowLaws.{succs_atom, succs_node, row_item}
use Rattle.theory.specs.Drive.{Follows, Drives}
use Rattle.theory.proofs.DriveLaws.{drives_none, drives_step, follows_next}
use Rattle.area.specs.declared.Bases.{Bases}
use Rattle.area.specs.Layout.{Based}
use Rattle.adjacency.specs.Tables.{start_at, row_at, Tabled}
use Rattle.adjacency.proofs.TableLaws.{kept}
use Rattle.area.specs.Views.{as_vertices}
use Rattle.rows.specs.Rows.{Spanned, Named, Tables}

mem_get_d : (l : List ℕ) (i : ℕ) → i < length l → Mem (get_or l i 0) l
mem_get_d [] i h = absurd (omega arith)
mem_get_d (x ∷ l) zero h = Memᴰ.head refl
mem_get_d (x ∷ l) (suc i) h = Memᴰ.tail (mem_get_d l i (omega arith))

pub slice_mem : (f t : ℕ) (w : List ℕ) (i : ℕ) → f ≤ i → i < t → t ≤ length w → Mem (get_or w i 0) (slice f t w)
slice_mem f t w i a c e =
    let k : f + (i - f) ≡ i = omega arith in
    rw (get_or-drop f (take t w) (i - f) 0 ∙ ap (λ (j : ℕ). get_or (take t w) j 0) k ∙ get_or-take t w i 0 c)
    at (mem_get_d (slice f t w) (i - f) (omega (arith, length-slice f t w e)))

-- the tables are the same in words that agree on them
pub tables_same : {th : Theory} {b : Bases} {w w' : List ℕ} → take b.states w' ≡ take b.states w → length w' ≡ length w → Tables th b w → Tables th b w'
tables_same {th} {b} {w} {w'} frame size t = record {
  atom_nodes = kept t.atom_nodes w' frame size;
  parents = kept t.parents w' frame size;
  by_body = kept t.by_body w' frame size;
}

pub spanned : {n : ℕ} {w : List ℕ} {base rows : ℕ} {edges : List Edge} → Tabled n w base rows edges → (r : ℕ) → r < rows → Spanned n w base rows r
spanned t r l = record { row = l; rises = t.rising r l; ends = t.inside (r + 1) (omega arith); long = t.long }

module _ {ws w : List ℕ} {b : Bases} {words : ℕ} (based : Based ws words b) (t : Tables (theory_of ws) b w) where
  counts : (b.atoms ≡ (theory_of ws).atoms) × (b.nodes ≡ (theory_of ws).nodes)
  unfolding theory_of
  counts = (based.atoms, based.nodes)

  pub atom_spanned : (a : ℕ) → a < b.atoms → Spanned b.states w b.atom_nodes b.atoms a
  atom_spanned a l = let e = counts.0 in rw e (spanned t.atom_nodes a (omega arith))

  pub parents_spanned : (m : ℕ) → m < b.nodes → Spanned b.states w b.parents b.nodes m
  parents_spanned m l = let e = counts.1 in rw e (spanned t.parents m (omega arith))

  pub body_spanned : (m : ℕ) → m < b.nodes → Spanned b.states w b.by_body b.nodes m
  body_spanned m l = let e = counts.1 in rw e (spanned t.by_body m (omega arith))

  body_row : (m : ℕ) → m < b.nodes → row_at w b.by_body b.nodes m ≡ entries m (by_body (theory_of ws))
  unfolding by_body
  body_row m l = let e = counts.1 in rw e (t.by_body.row m (omega arith))

  pub body_named : (m : ℕ) → m < b.nodes → Named ws w (start_at w b.by_body b.nodes m) (start_at w b.by_body b.nodes (m + 1))
  unfolding by_body theory_of
  body_named m l i f k =
      let s = body_spanned m l in
      let e = s.ends in let q = s.long in
      row_item (λ p. body_keys ((theory_of ws).body p)) (theory_of ws).producers m (get_or w i 0)
      (rw (body_row m l) at (slice_mem (start_at w b.by_body b.nodes m) (start_at w b.by_body b.nodes (m + 1)) w i f k (omega arith)))

  -- the rows of an atom and of a node
  pub atom_row : (a : ℕ) → a < b.atoms → succs (theory_of ws) a ≡ as_vertices b (row_at w b.atom_nodes b.atoms a)
  unfolding atom_nodes
  atom_row a l =
      let e = counts.0 in
      let r : row_at w b.atom_nodes b.atoms a ≡ entries a (atom_nodes (theory_of ws)) = rw e (t.atom_nodes.row a (omega arith)) in
      succs_atom (theory_of ws) a (omega arith) ∙ ap₂ (λ (k : ℕ) (x : List ℕ). map (λ n. k + n) x) (sym e) (sym r)

  pub node_row : (v : ℕ) → b.atoms ≤ v → v < b.atoms + b.nodes
      → succs (theory_of ws) v ≡ as_vertices b (row_at w b.parents b.nodes (v - b.atoms)) ++ flat_map (theory_of ws).heads (row_at w b.by_body b.nodes (v - b.atoms))
  unfolding node_succs parents
  node_row v l k =
      let e = counts.0 in let f = counts.1 in
      let r : row_at w b.parents b.nodes (v - b.atoms) ≡ entries (v - b.atoms) (parents (theory_of ws)) = rw f (t.parents.row (v - b.atoms) (omega arith)) in
      succs_node (theory_of ws) v (omega arith)
      ∙ ap (node_succs (theory_of ws)) (ap (λ (z : ℕ). v - z) (sym e))
      ∙ ap₂ (λ (a : ℕ) (x : List ℕ). map (λ n. a + n) x ++ flat_map (theory_of ws).heads (entries (v - b.atoms) (by_body (theory_of ws)))) (sym e) (sym r)
      ∙ ap (λ (x : List ℕ). as_vertices b (row_at w b.parents b.nodes (v - b.atoms)) ++ flat_map (theory_of ws).heads x) (sym (body_row (v - b.atoms) (omega arith)))

-- ---- a node's row is its parents and then its producers' heads, whatever is kept meanwhile

module _ {Ctx : Type 0} {P : Ctx → List ℕ → ℕ → List ℕ → Type 0} {ws w : List ℕ} {b : Bases} {words tail : ℕ} (based : Based ws words b) (t : Tables (theory_of ws) b w) {v : ℕ} (l : b.atoms ≤ v) (k : v < b.atoms + b.nodes)
    (f : Follows P w tail (succs (theory_of ws) v)) where
  pub parents_next : Follows P w tail (as_vertices b (row_at w b.parents b.nodes (v - b.atoms)))
  parents_next = follows_next P (as_vertices b (row_at w b.parents b.nodes (v - b.atoms))) (flat_map (theory_of ws).heads (row_at w b.by_body b.nodes (v - b.atoms))) (node_row based t v l k) (drives_none P {n = b.states}) f

  module _ {w₁ : List ℕ} {t₁ : ℕ} (d : Drives P b.states w tail (as_vertices b (row_at w b.parents b.nodes (v - b.atoms))) w₁ t₁ []) where
    pub later : Tables (theory_of ws) b w₁
    later = tables_same d.frame d.size t

    middle : Drives P b.states w tail (succs (theory_of ws) v) w₁ t₁ (flat_map (theory_of ws).heads (row_at w₁ b.by_body b.nodes (v - b.atoms)))
    middle =
        let r = body_row based t (v - b.atoms) (omega arith) ∙ sym (body_row based later (v - b.atoms) (omega arith)) in
        rw r at (drives_step P (as_vertices b (row_at w b.parents b.nodes (v - b.atoms))) (flat_map (theory_of ws).heads (row_at w b.by_body b.nodes (v - b.atoms))) (node_row based t v l k) (drives_none P) d)

    pub body_next : Follows P w₁ t₁ (flat_map (theory_of ws).heads (row_at w₁ b.by_body b.nodes (v - b.atoms)))
    body_next = follows_next P _ [] (sym (append-nil _)) middle f

    pub node_done : {w₂ : List ℕ} {t₂ : ℕ} → Drives P b.states w₁ t₁ (flat_map (theory_of ws).heads (row_at w₁ b.by_body b.nodes (v - b.atoms))) w₂ t₂ []
        → Drives P b.states w tail (succs (theory_of ws) v) w₂ t₂ []
    node_done s = drives_step P _ [] (sym (append-nil _)) middle s
