-- The row of a vertex is read from the graph's tables, or from two narrowed ones, one after the other.
use mathlib.Core.Path.{◌≡◌, refl, sym, ap, ap₂, ◌∙◌}
use mathlib.Core.Bool.{Bool, true, false, cond}
use mathlib.Core.List.{List, [], ◌++◌, append-nil}
use Prim.Native.Nat.{ℕ, ◌+◌, ◌-◌, ◌≤◌, ◌<◌}
use native.Mathlib.Omega.{arith}
use borrow.Author.Tests.{lt-ltb, le-ltb}
use lib.Dec.{ltb}
use lib.ListN.{length, take}
use Rattle.theory.specs.Words.{theory_of}
use Rattle.theory.specs.Rows.{succs}
use Rattle.theory.specs.Drive.{Follows, Drives}
use Rattle.theory.proofs.DriveLaws.{drives_none, drives_step, follows_next}
use Rattle.area.specs.declared.Bases.{Bases}
use Rattle.adjacency.specs.Tables.{row_at}
use Rattle.rows.specs.Rows.{Spanned}
use Rattle.events.specs.Run.{Abides}
use Rattle.events.proofs.RunLaws.{graph_abides}
use Rattle.projection.specs.Narrowed.{RowTable, parents_of, heads_of}
use Rattle.later.specs.Later.{later_row, LaterRows}

pub table_spanned : {rows : ℕ} {row : ℕ → List ℕ} {p : List ℕ} → RowTable rows row p → (r : ℕ) → r < rows → Spanned (length p) p 0 rows r
table_spanned t r l = record { row = l; rises = t.rising r l; ends = t.inside (r + 1) (omega arith); long = omega arith }

pub rows_abide : {ws : List ℕ} {b : Bases} {parents heads w : List ℕ} → LaterRows ws b parents heads w → Abides b w (LaterRows ws b parents heads)
rows_abide r w' frame size = record { graph = graph_abides r.graph w' frame size; parent_rows = r.parent_rows; head_rows = r.head_rows }

module _ (ws : List ℕ) (b : Bases) (v : ℕ) where
  pub atom_reads : v < b.atoms → later_row ws b v ≡ succs (theory_of ws) v
  unfolding later_row
  atom_reads l = ap (λ (x : Bool). cond x (succs (theory_of ws) v) (parents_of ws (v - b.atoms) ++ heads_of ws (v - b.atoms))) (lt-ltb v b.atoms l)

  pub node_reads : b.atoms ≤ v → later_row ws b v ≡ parents_of ws (v - b.atoms) ++ heads_of ws (v - b.atoms)
  unfolding later_row
  node_reads l = ap (λ (x : Bool). cond x (succs (theory_of ws) v) (parents_of ws (v - b.atoms) ++ heads_of ws (v - b.atoms))) (le-ltb v b.atoms l)

  module _ {parents heads : List ℕ} (p : RowTable b.nodes (parents_of ws) parents) (h : RowTable (b.nodes + 1) (heads_of ws) heads) (l : b.atoms ≤ v) (k : v < b.atoms + b.nodes) where
    both : later_row ws b v ≡ row_at parents 0 b.nodes (v - b.atoms) ++ row_at heads 0 (b.nodes + 1) (v - b.atoms)
    both = node_reads l ∙ ap₂ (λ (x y : List ℕ). x ++ y) (sym (p.has (v - b.atoms) (omega arith))) (sym (h.has (v - b.atoms) (omega arith)))

    module _ {Ctx : Type 0} {P : Ctx → List ℕ → ℕ → List ℕ → Type 0} {w : List ℕ} {tail : ℕ} (f : Follows P w tail (later_row ws b v)) where
      pub parents_next : Follows P w tail (row_at parents 0 b.nodes (v - b.atoms))
      parents_next = follows_next P (row_at parents 0 b.nodes (v - b.atoms)) (row_at heads 0 (b.nodes + 1) (v - b.atoms)) both (drives_none P {n = 0}) f

      module _ {n : ℕ} {w₁ : List ℕ} {t₁ : ℕ} (d : Drives P n w tail (row_at parents 0 b.nodes (v - b.atoms)) w₁ t₁ []) where
        middle : Drives P n w tail (later_row ws b v) w₁ t₁ (row_at heads 0 (b.nodes + 1) (v - b.atoms))
        middle = drives_step P (row_at parents 0 b.nodes (v - b.atoms)) (row_at heads 0 (b.nodes + 1) (v - b.atoms)) both (drives_none P) d

        pub heads_next : Follows P w₁ t₁ (row_at heads 0 (b.nodes + 1) (v - b.atoms))
        heads_next = follows_next P _ [] (sym (append-nil _)) middle f

        pub row_done : {w₂ : List ℕ} {t₂ : ℕ} → Drives P n w₁ t₁ (row_at heads 0 (b.nodes + 1) (v - b.atoms)) w₂ t₂ [] → Drives P n w tail (later_row ws b v) w₂ t₂ []
        row_done s = drives_step P _ [] (sym (append-nil _)) middle s
