-- Four tables, one after the other: each stands where it was built once the later ones are there.
use mathlib.Core.Path.{◌∙◌}
use mathlib.Core.List.{List}
use Prim.Native.Nat.{ℕ}
use native.Mathlib.Omega.{arith}
use lib.ListN.{length}
use Rattle.theory.specs.Words.{theory_of}
use Rattle.area.specs.declared.Bases.{Bases}
use Rattle.area.specs.Layout.{Based}
use Rattle.area.proofs.PartLaws.{frame_less}
use Rattle.adjacency.specs.Tables.{Built}
use Rattle.adjacency.specs.declared.Table.TheVariants.{AtomNodes, Parents, ByHead, ByBody}
use Rattle.adjacency.proofs.TableLaws.{kept, wider}
use Rattle.preparation.specs.Stages.{Rowed}

pub rowed : {ws : List ℕ} {b : Bases} {w₀ w₁ w₂ w₃ w₄ : List ℕ} → Based ws (length w₀) b
    → Built (theory_of ws) b AtomNodes w₀ w₁ → Built (theory_of ws) b Parents w₁ w₂ → Built (theory_of ws) b ByHead w₂ w₃ → Built (theory_of ws) b ByBody w₃ w₄ → Rowed ws b w₀ w₄
rowed {ws} {b} {w₀} {w₁} {w₂} {w₃} {w₄} based a p h y =
    let l = based.laid in
    let s₁ = a.size in let s₂ = p.size in let s₃ = h.size in let s₄ = y.size in
    let z = based.ends in
    let f₄ = y.before in
    let f₃ = frame_less b.by_body w₃ w₄ y.before b.by_head (omega arith) ∙ h.before in
    let f₂ = frame_less b.by_head w₂ w₄ f₃ b.parents (omega arith) ∙ p.before in
    record {
      size = s₄ ∙ s₃ ∙ s₂ ∙ s₁;
      tables = record {
        atom_nodes = wider (kept a.table w₄ f₂ (s₄ ∙ s₃ ∙ s₂)) b.states (omega arith) (omega arith);
        parents = wider (kept p.table w₄ f₃ (s₄ ∙ s₃)) b.states (omega arith) (omega arith);
        by_body = y.table;
      };
      by_head = kept h.table w₄ f₄ s₄;
    }
