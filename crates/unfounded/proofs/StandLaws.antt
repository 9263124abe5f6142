-- With every flag set and the body cone found, all stands that a pass goes by where every atom is marked (`stands_all`).
use mathlib.Core.Path.{sym, ap, ◌∙◌}
use mathlib.Core.Bool.{Bool, ◌&&◌, cond}
use mathlib.Core.List.{List}
use Prim.Native.Nat.{ℕ, ◌+◌, ◌≤◌}
use native.Mathlib.Omega.{arith}
use lib.Dec.{eqb}
use lib.ListN.{length, get_or}
use lib.Seq.{get_or-drop}
use Rattle.std.specs.Prelude.{Result, Ok, Err}
use Rattle.theory.specs.Sets.{filled}
use Rattle.theory.specs.Words.{theory_of}
use Rattle.theory.specs.Accepted.{Edition, Accepted}
use Rattle.theory.specs.Edges.{body_cone}
use Rattle.theory.specs.EveryAtom.{every_atom}
use Rattle.theory.proofs.EdgeLaws.{cone_bound}
use Rattle.theory.proofs.EveryAtomLaws.{every, any_filled}
use Rattle.area.specs.declared.Bases.{Bases}
use Rattle.area.specs.Layout.{Laid, Based}
use Rattle.area.proofs.FillLaws.{Filled}
use Rattle.area.proofs.PartLaws.{frame_less}
use Rattle.rows.proofs.VertexLaws.{tables_same}
use Rattle.cones.specs.declared.Cone.{Cone}
use Rattle.cones.specs.declared.Absorbed.{Absorbed}
use Rattle.cones.specs.Cones.{Kept, body_coned}
use Rattle.cones.proofs.FactLaws.{members_agree}
use Rattle.preparation.specs.Stages.{Rowed, Stood}
use Rattle.preparation.proofs.PassLaws.{counts}

pub flags_part : {b : Bases} {words : ℕ} → Laid b → b.end ≤ words → (b.cyclic_atoms ≤ b.cyclic_atoms + b.atoms) × (b.cyclic_atoms + b.atoms ≤ words)
flags_part laid ends = (omega arith, omega arith)

module _ {ed : Edition} {ws : List ℕ} (acc : Accepted ed ws) {b : Bases} {w₀ w₁ w₂ w₃ : List ℕ} (based : Based ws (length w₀) b) (r : Rowed ws b w₀ w₁)
    (f : Filled b.cyclic_atoms (b.cyclic_atoms + b.atoms) 1 w₁ w₂) (k : Kept b w₂ w₃) where
  pub stands_all : (x : Result Cone Absorbed) → body_coned (theory_of ws) b w₃ x → Stood ws b (every_atom (theory_of ws)) (body_cone (theory_of ws)) w₀ w₃ x
  unfolding body_coned Stood body_cone
  stands_all (Err e) h = record { size = k.size ∙ f.size ∙ r.size; row = h }
  stands_all (Ok c) h = record {
    size = k.size ∙ f.size ∙ r.size;
    row = h.1;
    standing = record {
      based = rw (k.size, f.size, r.size) based;
      tables = let l = based.laid in tables_same k.tables k.size (tables_same (frame_less b.cyclic_atoms w₁ w₂ f.before b.states (omega arith)) f.size r.tables);
      flagged = record {
        low = λ a i. let q = counts based in let l = (every (theory_of ws) a).0 i in omega arith;
        flag = λ a l. let q = counts based in
            sym (get_or-drop b.cyclic_atoms w₃ a 0) ∙ ap (λ (x : List ℕ). get_or x a 0) k.flags ∙ get_or-drop b.cyclic_atoms w₂ a 0 ∙ f.at (b.cyclic_atoms + a) (omega arith) (omega arith)
            ∙ ap (λ (x : Bool). cond x 1 0) (sym ((every (theory_of ws) a).1 (omega arith)));
      };
      low = λ n i. cone_bound (theory_of ws) (λ p. filled ((theory_of ws).heads p)) n i;
      coned = record {
        found = h.0.found;
        few = h.0.few;
        lists = h.0.lists ∙ members_agree (theory_of ws).producers _ _ (λ p l. ap (λ (x : Bool). eqb ((theory_of ws).body p) 0 && x) (sym (any_filled (theory_of ws) acc.well_formed p l)));
      };
    };
  }
