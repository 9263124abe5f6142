-- An atom's closed walks do not depend on the cone: it is cyclic exactly if it is on a closed walk over all atoms and all nodes (`cyclic_anywhere`). So theories
-- with the same edges have the same cyclic atoms (`cyclic_edges`).
use mathlib.Core.Path.{◌≡◌, sym, subst}
use mathlib.Core.Logic.{◌↔◌}
use mathlib.Core.List.{List}
use Prim.Native.Nat.{ℕ, ◌<◌}
use Rattle.theory.specs.Sets.{Is, everyone, Mem}
use Rattle.theory.specs.Walks.{Walk, edge, next}
use Rattle.theory.specs.Theory.{Theory, WellFormed}
use Rattle.theory.specs.Edges.{preds, in_graph, cone_preds}
use Rattle.theory.specs.Founded.{cyclic}
use Rattle.theory.proofs.SetLaws.{same_test}
use Rattle.theory.proofs.CycleLaws.{cyclic_walk}
use Rattle.theory.proofs.ConeLaws.{graph_atom, preds_cone, cone_within}

-- walks along other edges, between the vertices that f makes of them
pub walk_map : {pred other : ℕ → List ℕ} (f : ℕ → ℕ) → ((x y : ℕ) → Mem x (pred y) → Mem (f x) (other (f y))) → {u v : ℕ} → Walk pred u v → Walk other (f u) (f v)
walk_map f h {u} {v} (edge m) = edge (h u v m)
walk_map f h {v = v} (next {w = w} p m) = next (walk_map f h p) (h w v m)

module _ (th : Theory) (ok : WellFormed th) where
  to_cone : {u v : ℕ} → Is (in_graph th v) → Walk (preds th everyone) u v → Walk (cone_preds th) u v
  to_cone {u} {v} g (edge m) = edge (subst (λ (l : List ℕ). Mem u l) (sym (preds_cone th v g)) m)
  to_cone {u} {v} g (next {w = w} p m) =
      let k = subst (λ (l : List ℕ). Mem w l) (sym (preds_cone th v g)) m in
      next (to_cone ((cone_within th ok).from w v k).0 p) k

  pub cyclic_anywhere : (a : ℕ) → Is (cyclic th a) ↔ ((a < th.atoms) × Walk (preds th everyone) a a)
  cyclic_anywhere a = (
    λ c. let r = (cyclic_walk th a).0 c in (r.0, walk_map (λ x. x) (λ x y m. subst (λ (l : List ℕ). Mem x l) (preds_cone th y ((cone_within th ok).to x y m).0) m) r.1),
    λ r. (cyclic_walk th a).1 (r.0, to_cone (graph_atom th a r.0) r.1),
  )

pub cyclic_edges : (th other : Theory) → WellFormed th → WellFormed other → th.atoms ≡ other.atoms
    → ((x y : ℕ) → Mem x (preds th everyone y) ↔ Mem x (preds other everyone y)) → (a : ℕ) → cyclic th a ≡ cyclic other a
cyclic_edges th other ok fine e same a =
    same_test _ _
    (λ c. let r = (cyclic_anywhere th ok a).0 c in (cyclic_anywhere other fine a).1 (subst (λ (k : ℕ). a < k) e r.0, walk_map (λ x. x) (λ x y. (same x y).0) r.1))
    (λ c. let r = (cyclic_anywhere other fine a).0 c in (cyclic_anywhere th ok a).1 (subst (λ (k : ℕ). a < k) (sym e) r.0, walk_map (λ x. x) (λ x y. (same x y).1) r.1))
