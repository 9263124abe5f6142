-- The tables are built and the atoms' counts cleared: the shape stands, and no edge is counted.
use mathlib.Core.Path.{◌≡◌}
use mathlib.Core.List.{List}
use Prim.Native.Nat.{ℕ, ◌+◌, ◌≤◌, ◌<◌}
use native.Mathlib.Omega.{arith}
use lib.ListN.{length, take}
use Rattle.theory.specs.Words.{theory_of}
use Rattle.theory.specs.Accepted.{Edition, Accepted}
use Rattle.theory.proofs.RowLaws.{preds_few}
use Rattle.graph.proofs.DecodeLaws.{the_atoms, the_nodes}
use Rattle.area.specs.declared.Bases.{Bases}
use Rattle.area.specs.Layout.{Laid, Based}
use Rattle.area.proofs.PartLaws.{frame_less}
use Rattle.area.proofs.FillLaws.{Filled}
use Rattle.adjacency.specs.declared.Table.TheVariants.{AtomNodes, Parents, ByBody}
use Rattle.adjacency.specs.Tables.{Built}
use Rattle.adjacency.proofs.TableLaws.{kept, wider}
use Rattle.cycles.specs.Held.{Shape, Started}

pub counts_part : {b : Bases} {words words' : ℕ} → Laid b → b.end ≤ words → words' ≡ words → (b.dependencies ≤ b.dependencies + b.atoms) × (b.dependencies + b.atoms ≤ words')
counts_part laid ends same = (omega arith, omega arith)

module _ {ed : Edition} {ws : List ℕ} {lim : ℕ} {b : Bases} {w₀ w₁ w₂ w₃ w₄ : List ℕ}
    (acc : Accepted ed ws) (few : ed.counts + ed.counts < lim) (fits : 1 + ed.entries + ed.entries < lim) (base : Based ws (length w₀) b)
    (s₁ : Built (theory_of ws) b AtomNodes w₀ w₁) (s₂ : Built (theory_of ws) b Parents w₁ w₂) (s₃ : Built (theory_of ws) b ByBody w₂ w₃) (f : Filled b.dependencies (b.dependencies + b.atoms) 0 w₃ w₄) where
  frame : take b.states w₄ ≡ take b.states w₃
  frame = frame_less b.dependencies w₃ w₄ f.before b.states (let l = base.laid in omega arith)

  shape : Shape lim (theory_of ws) b w₄
  shape =
      let l = base.laid in let e = base.ends in let x = base.atoms in let y = base.nodes in
      let x' = the_atoms ws in let y' = the_nodes ws in
      let z₁ = s₁.size in let z₂ = s₂.size in let z₃ = s₃.size in let z₄ = f.size in
      let t₁ = kept (wider (kept s₁.table w₂ s₂.before s₂.size) b.by_body (omega arith) (omega arith)) w₃ s₃.before s₃.size in
      let t₂ = kept (wider s₂.table b.by_body (omega arith) (omega arith)) w₃ s₃.before s₃.size in
      record {
        ok = acc.well_formed;
        laid = base.laid;
        atoms = omega arith;
        nodes = omega arith;
        long = omega arith;
        small = let u = acc.atoms_few in let k = acc.nodes_few in omega arith;
        few = λ v h. let p = preds_few (theory_of ws) v (omega arith) in let u = acc.leaf_total in let k = acc.head_total in omega arith;
        tables = record {
          atom_nodes = kept (wider t₁ b.states (omega arith) (omega arith)) w₄ frame f.size;
          parents = kept (wider t₂ b.states (omega arith) (omega arith)) w₄ frame f.size;
          by_body = kept s₃.table w₄ frame f.size;
        };
      }

  pub set_up_started : Started lim (theory_of ws) b w₄ 0
  set_up_started = record { shape = shape; atoms = λ v h. f.at (b.dependencies + v) (omega arith) (omega arith); nodes = λ m h. absurd (omega arith) }
