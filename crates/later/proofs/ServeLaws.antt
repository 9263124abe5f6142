-- The rows of a later pass serve: what is left out leads to vertices that wait for nothing.
use mathlib.Core.Path.{◌≡◌, refl, sym, ap, ap₂, ◌∙◌, subst}
use mathlib.Core.Logic.{◌⊎◌, inl, inr}
use mathlib.Core.Bool.{Bool, true, false, not, ◌&&◌, cond}
use mathlib.Core.List.{List, [], ◌++◌}
use Prim.Native.Nat.{ℕ, ◌+◌, ◌-◌, ◌≤◌, ◌<◌}
use native.Mathlib.Omega.{arith}
use native.Mathlib.Decide.{dec_lt}
use borrow.Author.Tests.{lt-ltb}
use lib.Dec.{ltb}
use lib.ListN.{length}
use Rattle.std.specs.Prelude.{filter}
use Rattle.std.proofs.lemmas.List.Elements.{filter-append}
use Rattle.theory.specs.Sets.{Set, Is, everyone}
use Rattle.theory.specs.Words.{theory_of}
use Rattle.theory.specs.Accepted.{Accepted, edition1}
use Rattle.theory.specs.Edges.{vertices, preds}
use Rattle.theory.specs.Rows.{entries, flat_map, shifted, parents, by_body, node_succs, succs}
use Rattle.theory.specs.Founded.{cyclic, cyclic_cone}
use Rattle.theory.specs.Closure.{Mode, dead, waiting}
use Rattle.theory.specs.Pass.{live, kind_mode, stated, atom_mode_among, node_mode_among, pass_mode}
use Rattle.theory.specs.Worklist.{Serves, Serving}
use Rattle.theory.proofs.SetLaws.{bool_cases, clash}
use Rattle.theory.proofs.PassLaws.{atom_among, node_among}
use Rattle.theory.proofs.RowLaws.{succs_node}
use Rattle.theory.proofs.ServeLaws.{serves_all, serves_kept}
use Rattle.area.specs.declared.Bases.{Bases}
use Rattle.area.specs.Layout.{Based}
use Rattle.events.proofs.RunLaws.{graph_serves}
use Rattle.preparation.proofs.PassLaws.{counts, bound}
use Rattle.projection.specs.Narrowed.{in_pass, parent_row, body_heads, head_row, parents_of, heads_of}
use Rattle.projection.proofs.SourceLaws.{in_atom, in_node}
use Rattle.later.specs.Later.{later_row}
use Rattle.later.proofs.ReadLaws.{atom_reads, node_reads}

module _ {ws : List ℕ} (acc : Accepted edition1 ws) {b : Bases} {words : ℕ} (based : Based ws words b) (never atom_never : Set) where
  abbrev mode : ℕ → Mode
  mode v = pass_mode (theory_of ws) (cyclic_cone (theory_of ws)) never atom_never v

  abbrev keeps : Set
  keeps = in_pass (theory_of ws) (cyclic (theory_of ws)) (cyclic_cone (theory_of ws))

  -- what is not dead may be found
  live_kept : (v : ℕ) → (mode v ≡ dead → ⊥) → Is (keeps v)
  unfolding live atom_mode_among node_mode_among
  live_kept v n = go (dec_lt v (theory_of ws).atoms)
    where
      atom : (l : v < (theory_of ws).atoms) → cyclic (theory_of ws) v ≡ false → mode v ≡ dead
      atom l e = atom_among (theory_of ws) (cyclic (theory_of ws)) (cyclic_cone (theory_of ws)) never atom_never v l ∙ rw e refl

      off : (x y : Bool) (m : Mode) → live (x && false && y) m ≡ dead
      off true y m = refl
      off false y m = refl

      node : (m : ℕ) → cyclic_cone (theory_of ws) m ≡ false → mode ((theory_of ws).atoms + m) ≡ dead
      node m e = node_among (theory_of ws) (cyclic (theory_of ws)) (cyclic_cone (theory_of ws)) never atom_never m ∙ rw e (off _ _ _)

      go : Dec (v < (theory_of ws).atoms) → Is (keeps v)
      go (yes l) = by (bool_cases (cyclic (theory_of ws) v))
        where
          by : (cyclic (theory_of ws) v ≡ true) ⊎ (cyclic (theory_of ws) v ≡ false) → Is (keeps v)
          by (inl e) = in_atom (theory_of ws) (cyclic (theory_of ws)) (cyclic_cone (theory_of ws)) v l ∙ e
          by (inr e) = absurd (n (atom l e))
      go (no l) = by (v - (theory_of ws).atoms) (omega arith) (bool_cases (cyclic_cone (theory_of ws) (v - (theory_of ws).atoms)))
        where
          by : (m : ℕ) → (theory_of ws).atoms + m ≡ v → (cyclic_cone (theory_of ws) m ≡ true) ⊎ (cyclic_cone (theory_of ws) m ≡ false) → Is (keeps v)
          by m q (inl e) = ap keeps (sym q) ∙ in_node (theory_of ws) (cyclic (theory_of ws)) (cyclic_cone (theory_of ws)) m ∙ e
          by m q (inr e) = absurd (n (ap mode (sym q) ∙ node m e))

  waiting_kept : (v : ℕ) → Is (waiting (mode v)) → Is (keeps v)
  unfolding waiting
  waiting_kept v w = live_kept v (λ d. clash w (ap waiting d))

  -- a node of the cone has what may be found of its row
  narrowed : (m : ℕ) → m < (theory_of ws).nodes → Is (cyclic_cone (theory_of ws) m) → parents_of ws m ++ heads_of ws m ≡ filter keeps (succs (theory_of ws) ((theory_of ws).atoms + m))
  unfolding parent_row head_row body_heads node_succs
  narrowed m l i =
      let e : (theory_of ws).atoms + m - (theory_of ws).atoms ≡ m = omega arith in
      rw (i, lt-ltb m (theory_of ws).nodes l)
      (sym (filter-append keeps (shifted (theory_of ws) (entries m (parents (theory_of ws)))) (flat_map (theory_of ws).heads (entries m (by_body (theory_of ws)))))
      ∙ ap (filter keeps) (sym (succs_node (theory_of ws) ((theory_of ws).atoms + m) (omega arith) ∙ ap (node_succs (theory_of ws)) e)))

  pub later_serves : Serving (b.atoms + b.nodes) mode (preds (theory_of ws) everyone) (later_row ws b)
  later_serves u l n = go (dec_lt u b.atoms)
    where
      all : Serves (b.atoms + b.nodes) mode (preds (theory_of ws) everyone) u (succs (theory_of ws) u)
      all = graph_serves acc based mode u l n

      go : Dec (u < b.atoms) → Serves (b.atoms + b.nodes) mode (preds (theory_of ws) everyone) u (later_row ws b u)
      go (yes h) = rw (atom_reads ws b u h) all
      go (no h) =
          let q = counts based in
          let e : (theory_of ws).atoms + (u - b.atoms) ≡ u = omega arith in
          let i : Is (cyclic_cone (theory_of ws) (u - b.atoms)) = sym (in_node (theory_of ws) (cyclic (theory_of ws)) (cyclic_cone (theory_of ws)) (u - b.atoms)) ∙ ap keeps e ∙ live_kept u n in
          rw (node_reads ws b u (omega arith) ∙ narrowed (u - b.atoms) (omega arith) i ∙ ap (λ (x : ℕ). filter keeps (succs (theory_of ws) x)) e)
          (serves_kept (b.atoms + b.nodes) mode (preds (theory_of ws) everyone) keeps (λ v k w. waiting_kept v w) all)
