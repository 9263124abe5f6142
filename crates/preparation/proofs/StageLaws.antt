-- From stage to stage: what a stage leaves is what the next one needs; and where row 12 refuses, the stage ends with its place.
use mathlib.Core.Path.{◌≡◌, ap, ◌∙◌}
use mathlib.Core.Bool.{Bool, cond}
use mathlib.Core.List.{List}
use Prim.Native.Nat.{ℕ}
use native.Mathlib.Omega.{arith}
use lib.ListN.{length}
use Rattle.theory.specs.Sets.{Set}
use Rattle.theory.specs.Words.{theory_of}
use Rattle.theory.specs.Edges.{body_cone}
use Rattle.refusals.specs.Answer.{accept, refuse}
use Rattle.refusals.specs.Refusals.{absorbed_row}
use Rattle.theory.specs.Founded.{missing_among}
use Rattle.theory.specs.Pass.{EnoughAmong}
use Rattle.area.specs.declared.Bases.{Bases}
use Rattle.area.specs.Layout.{Based}
use Rattle.area.proofs.PartLaws.{frame_less}
use Rattle.adjacency.proofs.TableLaws.{kept}
use Rattle.rows.proofs.VertexLaws.{tables_same}
use Rattle.cones.specs.Cones as cones
use Rattle.cones.specs.declared.Absorbed.{Absorbed}
use Rattle.cones.specs.declared.Cone.{Cone}
use Rattle.std.specs.Prelude.{Result, Ok, Err}
use Rattle.std.specs.Result.{IsErrAnd}
use Rattle.preparation.specs.Flags.{Refused, Marked, Listed}
use Rattle.preparation.specs.Stages.{Rowed, Onward, Marking, Staged, Standing, Stands, Stood, Passing}

module _ (ws : List ℕ) (b : Bases) (w₀ : List ℕ) where
  pub onward : {w₁ w₂ : List ℕ} {x : ℕ} → Based ws (length w₀) b → Rowed ws b w₀ w₁ → cones.Kept b w₁ w₂ → cones.Found (theory_of ws) (body_cone (theory_of ws)) b w₂ x → Onward ws b w₂
  onward {w₁} {w₂} based r k f = let l = based.laid in record {
    based = rw (k.size, r.size) based;
    tables = tables_same k.tables k.size r.tables;
    by_head = kept r.by_head w₂ (frame_less b.states w₁ w₂ k.tables b.by_body (omega arith)) k.size;
    marks = f.marks;
  }

  -- `?` passes the refusal on as it is
  pub staged_refused : (w : List ℕ) (e : Absorbed) (r : Result (Unit {0}) Absorbed) → IsErrAnd r (λ x. x ≡ e) → length w ≡ length w₀ → absorbed_row (theory_of ws) ≡ refuse 12 e.node → Staged ws b w₀ w r
  unfolding Staged
  staged_refused w e (Ok u) h s m = absurd h
  staged_refused w e (Err x) h s m = rw h (record { size = s; row = m })

  pub staged_done : {w₂ : List ℕ} (w : List ℕ) → length w₂ ≡ length w₀ → absorbed_row (theory_of ws) ≡ accept → Marking ws b w₂ w → Staged ws b w₀ w (Ok (tt {0}))
  unfolding Staged
  staged_done w s e m = record { marking = record { size = m.size ∙ s; tables = m.tables; flags = m.flags }; row = e }

  module _ (w : List ℕ) where
    pub marked_staged : (r : Result (Unit {0}) Absorbed) → Staged ws b w₀ w r → Marked ws b w₀ w r
    unfolding Staged Marked
    marked_staged (Ok u) s = record { size = s.marking.size; flags = s.marking.flags; row = s.row }
    marked_staged (Err e) s = s

    pub marked_flags : (u : Unit {0}) → Staged ws b w₀ w (Ok u) → Marking ws b w₀ w × (absorbed_row (theory_of ws) ≡ accept)
    unfolding Staged
    marked_flags u q = (q.marking, q.row)

    pub staged_row : (e : Absorbed) → Staged ws b w₀ w (Err e) → Refused ws w₀ w e.node
    unfolding Staged
    staged_row e s = s

    module _ (marked cone : Set) where
      pub stood_refused : (e : Absorbed) (r : Result Cone Absorbed) → IsErrAnd r (λ x. x ≡ e) → Refused ws w₀ w e.node → Stood ws b marked cone w₀ w r
      unfolding Stood
      stood_refused e (Ok u) h s = absurd h
      stood_refused e (Err x) h s = rw h s

      pub stood_done : (c : Cone) → length w ≡ length w₀ → absorbed_row (theory_of ws) ≡ accept → Standing ws b marked cone w c → Stood ws b marked cone w₀ w (Ok c)
      unfolding Stood
      stood_done c s e h = record { size = s; row = e; standing = h }

      pub stood_standing : (c : Cone) → Stood ws b marked cone w₀ w (Ok c) → Stands ws b marked cone w₀ w c
      unfolding Stood
      stood_standing c s = s

      pub listed_refused : (l : Set) (e : Absorbed) (r : Result (Unit {0}) Absorbed) → IsErrAnd r (λ x. x ≡ e) → Stood ws b marked cone w₀ w (Err e) → Listed ws l b w₀ w r
      unfolding Stood Listed
      listed_refused l e (Ok u) h s = absurd h
      listed_refused l e (Err x) h s = rw h s

  pub listed_done : {marked cone never atom_never : Set} {w₂ : List ℕ} {c : Cone} (w : List ℕ) → Stands ws b marked cone w₀ w₂ c → EnoughAmong (theory_of ws) marked cone never atom_never → Passing ws never atom_never b w₂ w c
      → (l : Set) → ((a : ℕ) → missing_among (theory_of ws) marked never atom_never a ≡ l a) → Listed ws l b w₀ w (Ok (tt {0}))
  unfolding Listed
  listed_done {marked = marked} {cone = cone} w s e p l same = record { size = p.outside.size ∙ s.size; row = s.row; flags = λ a i. (p.waiting marked cone s.standing e).flags a i ∙ ap (λ (x : Bool). cond x 1 0) (same a) }
