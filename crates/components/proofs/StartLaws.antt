-- From the first walk to the second: the order is there, every vertex of the graph is marked, and no flag is set.
use mathlib.Core.Path.{◌≡◌, refl, ◌∙◌}
use mathlib.Core.List.Memᴰ
use mathlib.Core.List.{List}
use Prim.Native.Nat.{ℕ, ◌+◌, ◌≤◌, ◌<◌}
use native.Mathlib.Omega.{arith}
use lib.ListN.{length, get_or, take}
use Rattle.theory.specs.Words.{theory_of}
use Rattle.theory.specs.Accepted.{Accepted, Edition}
use Rattle.theory.specs.Edges.{in_graph, cone_preds}
use Rattle.theory.specs.Search.{Ordered}
use Rattle.theory.specs.Prefix.{upto}
use Rattle.theory.proofs.CollectLaws.{swept_start}
use Rattle.area.specs.declared.Bases.{Bases}
use Rattle.area.specs.Layout.{Based}
use Rattle.area.proofs.PartLaws.{frame_at, frame_less}
use Rattle.area.proofs.FillLaws.{Filled}
use Rattle.rows.specs.Rows.{Tables}
use Rattle.area.specs.Views.{mark_of, mark_in}
use Rattle.rows.proofs.VertexLaws.{tables_same}
use Rattle.finishing.specs.Latest.{latest}
use Rattle.finishing.specs.Finished.{Finished}
use Rattle.components.specs.Classes.{Sweeping, Classified, ordered}
use Rattle.components.proofs.GatherLaws.{within, count, ordered_same}

module _ {ws : List ℕ} {ed : Edition} (acc : Accepted ed ws) {b : Bases} {w₀ w : List ℕ} (based : Based ws (length w₀) b) (t : Tables (theory_of ws) b w₀) {r : ℕ} (f : Finished ws b w₀ w r) where
  pub flags_part : (b.cyclic_atoms ≤ b.end) × (b.end ≤ length w)
  flags_part = let l = based.laid in let e = based.ends in let k = f.kept.size in (omega arith, omega arith)

  -- the flags are cleared
  module _ {w₁ : List ℕ} (c : Filled b.cyclic_atoms b.end 0 w w₁) where
    before : (i : ℕ) → i < b.cyclic_atoms → get_or w₁ i 0 ≡ get_or w i 0
    before i l = frame_at b.cyclic_atoms w w₁ c.before i l

    marks₁ : (v : ℕ) → v < b.atoms + b.nodes → mark_in b w₁ v ≡ mark_in b w v
    marks₁ v l = let q = based.laid in before (mark_of b v) (omega arith)

    tables₁ : take b.states w₁ ≡ take b.states w₀
    tables₁ = let q = based.laid in frame_less b.cyclic_atoms w w₁ c.before b.states (omega arith) ∙ f.kept.tables

    pub sizes : length w₁ ≡ length w₀
    sizes = c.size ∙ f.kept.size

    order₁ : ordered b w₁ r ≡ latest w b.body_nodes r
    order₁ = let q = based.laid in let k = f.count in let n = count acc based in ordered_same b r w w₁ (λ i l. before (b.body_nodes + i) (omega arith))

    bound : Ordered (b.atoms + b.nodes) (cone_preds (theory_of ws)) (in_graph (theory_of ws)) (ordered b w₁ r)
    bound = rw (order₁, ← count acc based) f.ordered

    pub sweep_begin : Sweeping ws b w₁ w₁ r 0
    unfolding upto
    sweep_begin =
        let n = count acc based in
        record {
          size = refl;
          tables = refl;
          state = record {
            tables = tables_same tables₁ sizes t;
            roots = λ v m. bound.only v m;
            fits = let k = f.count in omega arith;
            swept = swept_start (b.atoms + b.nodes) (cone_preds (theory_of ws)) (in_graph (theory_of ws)) (within acc based) bound
                (λ v l g. marks₁ v l ∙ f.marks.outside v (omega arith) g) (λ v l g. marks₁ v l ∙ f.marks.inside v (omega arith) g);
          };
          flags = record { yes = λ a l m y. absurd (Memᴰ.not-nil m); no = λ a l h. let q = based.laid in c.at (b.cyclic_atoms + a) (omega arith) (omega arith) };
        }

    pub sweep_finish : {w₂ : List ℕ} → Classified ws b w₁ w₂ → Classified ws b w₀ w₂
    sweep_finish k = record { size = k.size ∙ sizes; tables = k.tables ∙ tables₁; yes = k.yes; no = k.no }
