-- Kahn's count (Kahn 1962) is a worklist in which every vertex waits for all its predecessors. At its end all vertices are found exactly if there is no closed
-- walk (`kahn_open`, `kahn_closed`).
use mathlib.Core.Path.{◌≡◌, sym, subst}
use mathlib.Core.Logic.{◌⊎◌, inl, inr}
use mathlib.Core.Bool.{true, false, not}
use mathlib.Core.List.Memᴰ
use mathlib.Core.List.{List, [], ◌∷◌}
use Prim.Native.Nat.{ℕ, zero, suc, ◌+◌, ◌≤◌, ◌<◌}
use native.Mathlib.Omega.{arith}
use lib.ListN.{length}
use Rattle.theory.specs.Sets.{Is, Set, Mem, any, any_below}
use Rattle.theory.specs.Counts.{Distinct}
use Rattle.theory.specs.Walks.{Walk, edge, next}
use Rattle.theory.specs.Closure.{every, fired, closure}
use Rattle.theory.specs.Worklist.{Worklist}
use Rattle.theory.proofs.SetLaws.{bool_cases, clash, not_true, not_false, any_found, any_holds, all_at, all_holds, mem_dec, below_found, below_holds}
use Rattle.theory.proofs.WalkLaws.{walk_cat}
use Rattle.theory.proofs.CountLaws.{pigeonhole, covers}
use Rattle.theory.proofs.ClosureLaws.{closure_closed, closure_induct}
use Rattle.theory.proofs.WorklistLaws.{worklist_end}

module _ (b : ℕ) (pred : ℕ → List ℕ) where
  abbrev released : Set
  released v = closure b (λ u. every) pred v

  -- ---- no vertex of the closure is on a closed walk: the walk, begun one edge earlier, is one of a predecessor

  none_closed : (v : ℕ) → Is (released v) → Walk pred v v → ⊥
  unfolding fired
  none_closed = closure_induct b (λ u. every) pred (λ v. Walk pred v v → ⊥) step
    where
      step : (s : Set) → ((v : ℕ) → Is (s v) → Walk pred v v → ⊥) → (v : ℕ) → v < b → Is (fired every s (pred v)) → Walk pred v v → ⊥
      step s ih v l q (edge m) = ih v (all_at s q m) (edge m)
      step s ih v l q (next {w = u} p m) = ih u (all_at s q m) (walk_cat (edge m) p)

  -- ---- a vertex outside has a predecessor outside, so a walk back from it can always be led on, and comes back

  module _ (from : (u v : ℕ) → Mem u (pred v) → u < b) where
    before : (v : ℕ) → v < b → released v ≡ false → (u : ℕ) × (released u ≡ false) × Mem u (pred v)
    unfolding fired
    before v l n = go (bool_cases (any (λ u. not (released u)) (pred v)))
      where
        go : (any (λ u. not (released u)) (pred v) ≡ true) ⊎ (any (λ u. not (released u)) (pred v) ≡ false) → (u : ℕ) × (released u ≡ false) × Mem u (pred v)
        go (inl p) = let r = any_found (λ u. not (released u)) (pred v) p in (r.0, not_true (released r.0) r.2, r.1)
        go (inr p) = clash (closure_closed b (λ u. every) pred v l (all_holds released (pred v) (λ u m. is u m (bool_cases (released u))))) n
          where
            is : (u : ℕ) → Mem u (pred v) → (released u ≡ true) ⊎ (released u ≡ false) → Is (released u)
            is u m (inl q) = q
            is u m (inr q) = clash (any_holds (λ u. not (released u)) m (not_false (released u) q)) p

    -- from t each vertex passed is reached; there are at most n vertices left
    chase : (n t : ℕ) (passed : List ℕ) → b ≤ n + length passed → Distinct (t ∷ passed) → ((x : ℕ) → Mem x (t ∷ passed) → x < b)
        → ((x : ℕ) → Mem x passed → Walk pred t x) → t < b → released t ≡ false → (x : ℕ) × Walk pred x x
    chase zero t passed h d low reach l s = let p = pigeonhole b (t ∷ passed) d low in absurd (omega arith)
    chase (suc n) t passed h d low reach l s = go (before t l s) (chase n)
      where
        Rest : Type 0
        Rest = (u : ℕ) (k : List ℕ) → b ≤ n + length k → Distinct (u ∷ k) → ((x : ℕ) → Mem x (u ∷ k) → x < b) → ((x : ℕ) → Mem x k → Walk pred u x) → u < b → released u ≡ false → (x : ℕ) × Walk pred x x

        go : (u : ℕ) × (released u ≡ false) × Mem u (pred t) → Rest → (x : ℕ) × Walk pred x x
        go (u, su, k) rest = turn (mem_dec u (t ∷ passed))
          where
            to : (x : ℕ) → (x ≡ t) ⊎ Mem x passed → Walk pred u x
            to x (inl e) = edge (subst (λ (z : ℕ). Mem u (pred z)) (sym e) k)
            to x (inr m) = walk_cat (edge k) (reach x m)

            lower : (x : ℕ) → (x ≡ u) ⊎ Mem x (t ∷ passed) → x < b
            lower x (inl e) = subst (λ (z : ℕ). z < b) (sym e) (from u t k)
            lower x (inr m) = low x m

            turn : Mem u (t ∷ passed) ⊎ (Mem u (t ∷ passed) → ⊥) → (x : ℕ) × Walk pred x x
            turn (inl m) = (u, to u (Memᴰ.cases_cons m))
            turn (inr m) = rest u (t ∷ passed) (omega arith) (m, d) (λ x i. lower x (Memᴰ.cases_cons i)) (λ x i. to x (Memᴰ.cases_cons i)) (from u t k) su

    comes_back : (v : ℕ) → v < b → released v ≡ false → (x : ℕ) × Walk pred x x
    comes_back v l s = chase b v [] (omega arith) (Memᴰ.not-nil, tt) (λ x m. only x (Memᴰ.cases_cons m)) (λ x m. absurd (Memᴰ.not-nil m)) l s
      where
        only : (x : ℕ) → (x ≡ v) ⊎ Mem x [] → x < b
        only x (inl e) = subst (λ (z : ℕ). z < b) (sym e) l
        only x (inr m) = absurd (Memᴰ.not-nil m)

  -- ---- the answer, once every row is followed

  module _ {order : List ℕ} {count : ℕ → ℕ} (s : Worklist b (λ u. every) pred order order [] count) where
    -- a list of different numbers below b that is b long has them all
    pub kahn_open : b ≤ length order → (x : ℕ) → x < b → Walk pred x x → ⊥
    kahn_open h x l w = none_closed x (s.sound x (here (mem_dec x order))) w
      where
        low : (y : ℕ) → (y ≡ x) ⊎ Mem y order → y < b
        low y (inl e) = subst (λ (z : ℕ). z < b) (sym e) l
        low y (inr m) = s.low y m

        here : Mem x order ⊎ (Mem x order → ⊥) → Mem x order
        here (inl m) = m
        here (inr n) = let p = pigeonhole b (x ∷ order) (n, s.distinct) (λ y m. low y (Memᴰ.cases_cons m)) in absurd (omega arith)

    pub kahn_closed : ((u v : ℕ) → Mem u (pred v) → u < b) → length order < b → (x : ℕ) × Walk pred x x
    kahn_closed from h = go (bool_cases (any_below b (λ v. not (released v))))
      where
        in' : any_below b (λ v. not (released v)) ≡ false → (v : ℕ) → v < b → Mem v order
        in' p v l = at (bool_cases (released v))
          where
            at : (released v ≡ true) ⊎ (released v ≡ false) → Mem v order
            at (inl q) = worklist_end b (λ u. every) pred s v q
            at (inr q) = clash (below_holds b (λ v. not (released v)) v l (not_false (released v) q)) p

        go : (any_below b (λ v. not (released v)) ≡ true) ⊎ (any_below b (λ v. not (released v)) ≡ false) → (x : ℕ) × Walk pred x x
        go (inl p) = let r = below_found b (λ v. not (released v)) p in comes_back from r.0 r.1 (not_true (released r.0) r.2)
        go (inr p) = let c = covers b order (in' p) in absurd (omega arith)
