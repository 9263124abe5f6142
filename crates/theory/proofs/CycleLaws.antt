-- An atom is cyclic exactly if it is on a closed walk (`cyclic_walk`), and exactly if its strongly connected component has more than one vertex
-- (`cyclic_component`); the loop test's answer is yes exactly if some vertex of its graph is on a closed walk (`has_cycle_walk`).
use mathlib.Core.Path.{sym}
use mathlib.Core.Logic.{◌↔◌, ◌≢◌}
use mathlib.Core.List.Memᴰ
use Prim.Native.Nat.{ℕ, ◌<◌}
use lib.Dec.{ltb, ltb→lt, lt→ltb}
use Rattle.theory.specs.Sets.{Is, everyone}
use Rattle.theory.specs.Least.{has}
use Rattle.theory.specs.Walks.{Walk, edge, next, reached}
use Rattle.theory.specs.Theory.{Theory}
use Rattle.theory.specs.Edges.{vertices, preds, body_cone, cone_preds}
use Rattle.theory.specs.Founded.{has_cycle, cyclic}
use Rattle.theory.specs.Unfounded.{OnClosedWalk}
use Rattle.theory.proofs.SetLaws.{is_T, T_is, below_found, below_holds, and_intro, and_left, and_right}
use Rattle.theory.proofs.WalkLaws.{walk_cat, reached_walk, walk_reached}
use Rattle.theory.proofs.EdgeLaws.{preds_low}
use Rattle.theory.proofs.ConeLaws.{no_self}

module _ (th : Theory) where
  pub cyclic_walk : (a : ℕ) → Is (cyclic th a) ↔ ((a < th.atoms) × OnClosedWalk th a)
  unfolding cyclic vertices
  cyclic_walk a = (
    λ p. (ltb→lt a th.atoms (is_T _ (and_left (ltb a th.atoms) _ p)), reached_walk _ (preds th (body_cone th)) a a (and_right (ltb a th.atoms) _ p)),
    λ q. and_intro (T_is (ltb a th.atoms) (lt→ltb a th.atoms q.0)) (walk_reached _ (preds th (body_cone th)) a (preds_low th (body_cone th)) q.1),
  )

  -- another vertex v lies in a's component (Sharir 1981): walks lead from a to v and back
  pub cyclic_component : (a : ℕ) → Is (cyclic th a) ↔ ((a < th.atoms) × ((v : ℕ) × (v ≢ a) × Walk (cone_preds th) a v × Walk (cone_preds th) v a))
  cyclic_component a = (
    λ p. let q = (cyclic_walk a).0 p in (q.0, other q.0 q.1),
    λ q. (cyclic_walk a).1 (q.0, walk_cat q.1.2 q.1.3),
  )
    where
      -- the vertex before the last edge: no atom has an edge to itself
      other : a < th.atoms → OnClosedWalk th a → (v : ℕ) × (v ≢ a) × Walk (cone_preds th) a v × Walk (cone_preds th) v a
      other l (edge m) = absurd (no_self th (body_cone th) a l m)
      other l (next {w = w} p m) = (w, λ e. no_self th (body_cone th) a l (Memᴰ.cast (sym e) m), p, edge m)

  pub has_cycle_walk : Is (has_cycle th) ↔ ((v : ℕ) × (v < vertices th) × Walk (preds th everyone) v v)
  unfolding has_cycle vertices
  has_cycle_walk = (
    λ p. let r = below_found (vertices th) (λ v. has (reached (vertices th) (preds th everyone) v) v) p in (r.0, r.1, reached_walk (vertices th) (preds th everyone) r.0 r.0 r.2),
    λ r. below_holds (vertices th) (λ v. has (reached (vertices th) (preds th everyone) v) v) r.0 r.1 (walk_reached (vertices th) (preds th everyone) r.0 (preds_low th everyone) r.2),
  )
