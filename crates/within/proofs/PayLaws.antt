-- A count in two parts is paid for part by part (`pays_more`, `pays_none`). What is counted: the heads of producers, one producer after the other (`heads_turn`, `heads_end`), and
-- a vertex with its row in the tables (`atom_charge`, `node_charge`).
use mathlib.Core.Path.{◌≡◌, refl, ap, ◌∙◌}
use mathlib.Core.List.{List}
use Prim.Native.Nat.{ℕ, ◌+◌, ◌-◌, ◌≤◌, ◌<◌}
use native.Mathlib.Omega.{arith}
use lib.ListN.{length, get_or, length-append, length-map}
use lib.Seq.{slice, slice_empty, length-slice}
use Rattle.std.specs.Prelude.{Option, Some, None}
use Rattle.theory.specs.Words.{theory_of}
use Rattle.theory.specs.Rows.{flat_map}
use Rattle.theory.proofs.DriveLaws.{slice_turn}
use Rattle.area.specs.declared.Bases.{Bases}
use Rattle.area.specs.Layout.{Based}
use Rattle.area.specs.Views.{as_vertices}
use Rattle.adjacency.specs.Tables.{start_at, row_at}
use Rattle.rows.specs.Rows.{Spanned, Tables}
use Rattle.rows.proofs.VertexLaws.{atom_row, node_row}
use Rattle.theory.specs.Charge.{charge}
use Rattle.within.specs.Within.{Pays, heads_in}

module _ (allowance a b : ℕ) {n : ℕ} (e : n ≡ a + b) where
  pub pays_more : (r : Option ℕ) {left : ℕ} → Pays (Some left) allowance a → Pays r left b → Pays r allowance n
  pays_more None p q = λ k. q (let x = p.0 in let y = p.1 in omega arith)
  pays_more (Some x) p q = let y = p.0 in let z = p.1 in let u = q.0 in let v = q.1 in (omega arith, omega arith)

  pub pays_none : (r : Option ℕ) → r ≡ None → Pays None allowance a → Pays r allowance n
  pays_none r q p = rw q (λ k. p (omega arith))

module _ (ws w : List ℕ) where
  pub heads_turn : (i to : ℕ) {x : ℕ} → i < to → to ≤ length w → x ≡ get_or w i 0 → heads_in ws w i to ≡ length ((theory_of ws).heads x) + heads_in ws w (i + 1) to
  unfolding flat_map
  heads_turn i to {x} h k e = ap (λ (l : List ℕ). length (flat_map (theory_of ws).heads l)) (slice_turn i to w h k e) ∙ length-append ((theory_of ws).heads x) (flat_map (theory_of ws).heads (slice (i + 1) to w))

  pub heads_end : (i to : ℕ) → i ≡ to → heads_in ws w i to ≡ 0
  unfolding flat_map
  heads_end i to e = rw (e, slice_empty to w) refl

row_length : {n : ℕ} {w : List ℕ} {base rows r : ℕ} → Spanned n w base rows r → length (row_at w base rows r) ≡ start_at w base rows (r + 1) - start_at w base rows r
row_length {w = w} {base} {rows} {r} s = let e = s.ends in let q = s.long in length-slice (start_at w base rows r) (start_at w base rows (r + 1)) w (omega arith)

module _ {ws w : List ℕ} {b : Bases} {words : ℕ} (based : Based ws words b) (t : Tables (theory_of ws) b w) (v : ℕ) where
  pub atom_charge : v < b.atoms → Spanned b.states w b.atom_nodes b.atoms v → charge (theory_of ws) v ≡ 1 + (start_at w b.atom_nodes b.atoms (v + 1) - start_at w b.atom_nodes b.atoms v)
  unfolding charge
  atom_charge l s =
      let e = ap length (atom_row based t v l) ∙ length-map (row_at w b.atom_nodes b.atoms v) (λ n. b.atoms + n) in
      let q = row_length s in
      omega arith

  pub node_charge : b.atoms ≤ v → v < b.atoms + b.nodes → Spanned b.states w b.parents b.nodes (v - b.atoms)
      → charge (theory_of ws) v ≡ 1 + (start_at w b.parents b.nodes (v - b.atoms + 1) - start_at w b.parents b.nodes (v - b.atoms)) + heads_in ws w (start_at w b.by_body b.nodes (v - b.atoms)) (start_at w b.by_body b.nodes (v - b.atoms + 1))
  unfolding charge
  node_charge l k s =
      let parents = row_at w b.parents b.nodes (v - b.atoms) in
      let heads = flat_map (theory_of ws).heads (row_at w b.by_body b.nodes (v - b.atoms)) in
      let e = ap length (node_row based t v l k) ∙ length-append (as_vertices b parents) heads in
      let f = length-map parents (λ n. b.atoms + n) in
      let q = row_length s in
      omega arith
