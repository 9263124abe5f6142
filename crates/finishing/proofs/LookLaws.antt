-- What a look from the cursor of a vertex finds: of an atom in its row (`atom_done`, `atom_body`; a fact leads nowhere, `atom_fact`), of a node its
-- operand or a leaf (`node_done`, `node_operand`, `node_leaf`).
use mathlib.Core.Path.{◌≡◌, refl, sym, ap, ap₂, ◌∙◌, subst}
use mathlib.Core.Logic.{◌≢◌}
use mathlib.Core.Bool.{true, false}
use mathlib.Core.List.Memᴰ
use mathlib.Core.List.{List, [], ◌∷◌, ◌++◌}
use Rattle.std.specs.Prelude.{Some, None}
use Prim.Native.Nat.{ℕ, zero, suc, ◌+◌, ◌-◌, ◌≤◌, ◌<◌}
use native.Mathlib.Nat.{not-suc-le-zero}
use native.Mathlib.Omega.{arith}
use lib.ListN.{length, get_or, set, take}
use lib.Seq.{slice, set-get_or, length-slice, get_or-take, get_or-drop}
use Rattle.theory.specs.Sets.{Mem}
use Rattle.theory.specs.Words.{node_at, value_of, next_of, theory_of}
use Rattle.theory.specs.Links.{MeetsOnce}
use Rattle.theory.specs.Rows.{entries, by_head}
use Rattle.theory.specs.Accepted.{Edition, Accepted}
use Rattle.theory.proofs.SetLaws.{clash}
use Rattle.theory.proofs.CountLaws.{sum_one}
use Rattle.theory.proofs.ChainLaws.{once_link, once_next}
use Rattle.theory.proofs.RowLaws.{row_item, rows_length, by_head_few}
use Rattle.graph.specs.Layout.{ProducerIn}
use Rattle.graph.proofs.DecodeLaws.{the_nodes, the_producers, the_operand}
use Rattle.area.specs.declared.Bases.{Bases}
use Rattle.adjacency.specs.Tables.{start_at, edges_of}
use Rattle.adjacency.specs.declared.Table.TheVariants.{ByHead}
use Rattle.finishing.specs.Cursors.{body_vertex, has_operand, left_of, Linked}
use Rattle.finishing.specs.Walking.{Looking, Looked}
use Rattle.finishing.proofs.CursorLaws.{row_end, row_next, links_end, operand_next, link_next}
use Rattle.finishing.proofs.PlaceLaws.{atoms_are}

get_d_mem : (l : List ℕ) (i : ℕ) → i < length l → Mem (get_or l i 0) l
get_d_mem [] i h = absurd (not-suc-le-zero h)
get_d_mem (x ∷ l) zero h = Memᴰ.head refl
get_d_mem (x ∷ l) (suc i) h = Memᴰ.tail (get_d_mem l i (omega arith))

module _ {ed : Edition} {ws : List ℕ} (acc : Accepted ed ws) {b : Bases} {w : List ℕ} {v : ℕ} (k : Looking ws b w v) where
  -- ---- the row of an atom

  module _ (low : v < b.atoms) {c : ℕ} (ec : c ≡ get_or w (b.dependencies + v) 0) where
    atom_low : v < (theory_of ws).atoms
    atom_low = let e = atoms_are k.ready.based in omega arith

    pub row_linked : (i : ℕ) → Linked ws v i
    row_linked i x y = absurd (let a = atom_low in omega arith)

    start_is : (r : ℕ) → start_at w b.by_head b.atoms r ≡ start_at w b.by_head (theory_of ws).atoms r
    start_is r = ap (λ (n : ℕ). start_at w b.by_head n r) (atoms_are k.ready.based)

    module _ {s t : ℕ} (es : s ≡ start_at w b.by_head b.atoms v) (et : t ≡ start_at w b.by_head b.atoms (v + 1)) where
      ends : t ≤ length w
      ends = let a = k.ready.table.inside (v + 1) (let l = atom_low in omega arith) in let l = k.ready.table.long in let e = start_is (v + 1) in omega arith

      row_is : slice s t w ≡ entries v (edges_of (theory_of ws) ByHead)
      row_is = ap₂ (λ (f g : ℕ). slice f g w) (es ∙ start_is v) (et ∙ start_is (v + 1)) ∙ k.ready.table.row v atom_low

      row_length : length (entries v (edges_of (theory_of ws) ByHead)) ≡ t - s
      row_length = sym (ap length row_is) ∙ length-slice s t w ends

      pub atom_done : t ≤ s + c → Looked ws b w w v None
      atom_done h =
          let l = row_length in
          let e = row_end ws v c atom_low (omega arith) in
          record {
            moved = record {
              cursor = c;
              stored = sym (ap (set w (b.dependencies + v)) ec ∙ set-get_or w (b.dependencies + v) 0);
              linked = row_linked c;
            };
            took = (ap (left_of ws v) (sym ec) ∙ e, e);
          }

      -- past the end of the row no cursor leaves anything
      pub row_over : (e : ℕ) → t ≤ s + c → t ≤ s + e → left_of ws v (get_or w (b.dependencies + v) 0) ≡ left_of ws v e
      row_over e h h' = let l = row_length in ap (left_of ws v) (sym ec) ∙ row_end ws v c atom_low (omega arith) ∙ sym (row_end ws v e atom_low (omega arith))

      pub row_rises : s ≤ t
      row_rises = let r = k.ready.table.rising v atom_low in let e = start_is v in let f = start_is (v + 1) in omega arith

      pub row_few : t - s ≤ ed.entries
      unfolding by_head
      row_few =
          let l = row_length in
          let a = sum_one (v + 1) (λ r. length (entries r (edges_of (theory_of ws) ByHead))) v (omega arith) in
          let d = rows_length (v + 1) (edges_of (theory_of ws) ByHead) in
          let e = by_head_few (theory_of ws) in
          let f = acc.head_total in
          omega arith

      module _ (more : s + c < t) where
        shorter : c < length (entries v (edges_of (theory_of ws) ByHead))
        shorter = let l = row_length in omega arith

        module _ {p : ℕ} (ep : p ≡ get_or w (s + c) 0) where
          producer_is : p ≡ get_or (entries v (edges_of (theory_of ws) ByHead)) c 0
          producer_is = ep ∙ sym (get_or-drop s (take t w) c 0 ∙ get_or-take t w (s + c) 0 more) ∙ ap (λ (l : List ℕ). get_or l c 0) row_is

          producer_low : p < (theory_of ws).producers
          producer_low =
              row_item (theory_of ws).heads (theory_of ws).producers v p
              (subst (λ (q : ℕ). Mem q (entries v (edges_of (theory_of ws) ByHead))) (sym producer_is) (get_d_mem (entries v (edges_of (theory_of ws) ByHead)) c shorter))

          pub producer_in : ProducerIn ws p
          producer_in = record { size = acc.size; below = let l = producer_low in let e = the_producers ws in omega arith }

          next_is : {l : List ℕ} → body_vertex ws ((theory_of ws).body p) ≡ l → left_of ws v (get_or w (b.dependencies + v) 0) ≡ l ++ left_of ws v (c + 1)
          next_is e = ap (left_of ws v) (sym ec) ∙ row_next ws v c atom_low shorter producer_is ∙ ap (λ (l : List ℕ). l ++ left_of ws v (c + 1)) e

          pub atom_fact : (theory_of ws).body p ≡ 0 → left_of ws v (get_or w (b.dependencies + v) 0) ≡ left_of ws v (c + 1)
          unfolding body_vertex
          atom_fact z = next_is (ap (body_vertex ws) z)

          module _ {n : ℕ} (e : (theory_of ws).body p ≡ suc n) where
            pub body_fits : b.atoms + n < b.atoms + b.nodes
            body_fits = let l = acc.well_formed.body_low p n producer_low e in let f = k.ready.based.nodes in let g = the_nodes ws in omega arith

            vertex_is : body_vertex ws ((theory_of ws).body p) ≡ (b.atoms + n) ∷ []
            unfolding body_vertex
            vertex_is = ap (body_vertex ws) e ∙ ap (λ (a : ℕ). (a + n) ∷ []) (sym (atoms_are k.ready.based))

            pub atom_body : Looked ws b w (set w (b.dependencies + v) (c + 1)) v (Some (b.atoms + n))
            atom_body = record { moved = record { cursor = c + 1; stored = refl; linked = row_linked (c + 1) }; took = next_is vertex_is }

  -- ---- a node

  module _ (high : b.atoms ≤ v) {c : ℕ} (ec : c ≡ get_or w (b.dependencies + v) 0) where
    node_high : (theory_of ws).atoms ≤ v
    node_high = let e = atoms_are k.ready.based in omega arith

    pub node_done : c ≡ 0 → Looked ws b w w v None
    node_done z =
        let e = links_end ws v node_high refl c z in
        record {
          moved = record {
            cursor = c;
            stored = sym (ap (set w (b.dependencies + v)) ec ∙ set-get_or w (b.dependencies + v) 0);
            linked = subst (Linked ws v) (sym ec) k.linked;
          };
          took = (ap (left_of ws v) (sym ec) ∙ e, e);
        }

    module _ (some : c ≢ 0) where
      node_is : v - b.atoms ≡ v - (theory_of ws).atoms
      node_is = ap (λ (n : ℕ). v - n) (atoms_are k.ready.based)

      pub node_operand : has_operand ws (v - b.atoms) ≡ true → {x : ℕ} → x ≡ get_or ws (node_at (v - b.atoms) + 1) 0 → Looked ws b w (set w (b.dependencies + v) 0) v (Some x)
      node_operand q ex = record {
        moved = record { cursor = 0; stored = refl; linked = λ h f. clash q (ap (has_operand ws) node_is ∙ f) };
        took = ap (left_of ws v) (sym ec) ∙ operand_next ws v node_high node_is c some q ∙ ap (λ (y : ℕ). y ∷ left_of ws v 0) (the_operand ws (v - b.atoms) ∙ sym ex);
      }

      module _ (q : has_operand ws (v - b.atoms) ≡ false) where
        pub link_ends : MeetsOnce ws c
        link_ends = subst (MeetsOnce ws) (sym ec) (k.linked node_high (sym (ap (has_operand ws) node_is) ∙ q))

        pub next_few : next_of ws c ≤ ed.links
        next_few = let a = once_link ws (once_next ws link_ends some) in let l = acc.links_few in omega arith

        pub node_leaf : {y x : ℕ} → y ≡ next_of ws c → x ≡ value_of ws c → Looked ws b w (set w (b.dependencies + v) y) v (Some (b.atoms + x))
        node_leaf {y} {x} ey ex = record {
          moved = record { cursor = y; stored = refl; linked = λ h f. subst (MeetsOnce ws) (sym ey) (once_next ws link_ends some) };
          took =
              ap (left_of ws v) (sym ec) ∙ link_next ws v node_high node_is c some q link_ends
              ∙ ap₂ (λ (a l : ℕ). a ∷ left_of ws v l) (ap₂ (λ (a l : ℕ). a + l) (sym (atoms_are k.ready.based)) (sym ex)) (sym ey);
        }
