-- From stage to stage: what the projection's slices hold, what stands for the next pair, and what preparation leaves.
use mathlib.Core.Path.{◌≡◌, refl, sym, ap, ◌∙◌}
use mathlib.Core.List.{List, ◌++◌}
use Prim.Native.Nat.{ℕ, ◌+◌, ◌*◌, ◌≤◌, ◌<◌}
use native.Mathlib.Omega.{arith}
use lib.ListN.{length, take, drop}
use Rattle.std.specs.Prelude.{Result, Ok, Err}
use Rattle.std.specs.Result.{IsErrAnd}
use Rattle.theory.specs.Words.{theory_of}
use Rattle.theory.specs.Accepted.{Accepted, edition1}
use Rattle.theory.specs.Founded.{cyclic, cyclic_cone}
use Rattle.theory.specs.Roles.{Resting}
use Rattle.refusals.specs.Answer.{accept}
use Rattle.refusals.specs.Refusals.{absorbed_row}
use Rattle.area.specs.declared.Bases.{Bases}
use Rattle.area.specs.Views.{count_at, Outside}
use Rattle.cones.specs.declared.Absorbed.{Absorbed}
use Rattle.cones.specs.declared.Cone.{Cone}
use Rattle.preparation.specs.Stages.{Standing, Stood}
use Rattle.preparation.proofs.PassLaws.{standing_kept, start_prepared}
use Rattle.projection.specs.Narrowed.{Sourced, RowTable, parents_of, heads_of}
use Rattle.projection.specs.Roles.{Parted, Membered}
use Rattle.later.specs.Later.{Again, Projected}
use Rattle.branch.specs.Answers.{missing_of}
use Rattle.branch.specs.Branch.{AllPaired}

pub projected : {ws : List ℕ} {b : Bases} {w : List ℕ} {c : Cone} → Sourced ws b w c → {parents heads nodes roles part : List ℕ} {seeds count : ℕ}
    → RowTable b.nodes (parents_of ws) parents → RowTable (b.nodes + 1) (heads_of ws) heads → Parted (theory_of ws) (cyclic (theory_of ws)) (drop b.body_nodes w) c.nodes nodes roles seeds
    → Membered (cyclic (theory_of ws)) b.atoms part count → Projected ws b parents heads nodes roles seeds (take count part)
projected {b = b} {w = w} s p h d m = record {
  parent_rows = p;
  head_rows = h;
  whole = drop b.body_nodes w;
  parted = rw d.node_words d;
  cone = rw d.node_words (start_prepared s.accepted s.standing).listed;
  atoms_are = m.are;
}

pub again_next : {ws : List ℕ} {b : Bases} {w w' : List ℕ} → Again ws b w → Outside b.dependencies b.body_nodes w w' → Resting (theory_of ws) (cyclic (theory_of ws)) (cyclic_cone (theory_of ws)) (count_at b w') → Again ws b w'
again_next g o r = record { accepted = g.accepted; counted = g.counted; standing = standing_kept g.standing o; resting = r }

pub again_first : {ws : List ℕ} {b : Bases} {w w' : List ℕ} {c : Cone} → Accepted edition1 ws → Standing ws b (cyclic (theory_of ws)) (cyclic_cone (theory_of ws)) w c → Outside b.dependencies b.body_nodes w w'
    → Resting (theory_of ws) (cyclic (theory_of ws)) (cyclic_cone (theory_of ws)) (count_at b w') → Sourced ws b w' c × Again ws b w'
again_first {c = c} acc s o r = let k = standing_kept s o in (record { accepted = acc; standing = k }, record { accepted = acc; counted = c; standing = k; resting = r })

module _ (ws : List ℕ) (b : Bases) (w₀ w : List ℕ) where
  pub stood : (c : Cone) → Stood ws b (cyclic (theory_of ws)) (cyclic_cone (theory_of ws)) w₀ w (Ok c)
      → (length w ≡ length w₀) × (absorbed_row (theory_of ws) ≡ accept) × Standing ws b (cyclic (theory_of ws)) (cyclic_cone (theory_of ws)) w c
  unfolding Stood
  stood c s = (s.size, s.row, s.standing)

  pub not_stood : (never atom_never : List ℕ) (pairs : ℕ) (output : List ℕ) (e : Absorbed) (r : Result (Unit {0}) Absorbed) → IsErrAnd r (λ x. x ≡ e) → Stood ws b (cyclic (theory_of ws)) (cyclic_cone (theory_of ws)) w₀ w (Err e)
      → AllPaired ws never atom_never pairs output output r × (length w ≡ length w₀)
  unfolding Stood AllPaired
  not_stood never atom_never pairs output e (Ok u) h s = absurd h
  not_stood never atom_never pairs output e (Err x) h s = rw h ((s.row, refl), s.size)
