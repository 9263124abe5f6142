-- A worklist, a step at a time: the start (`worklist_start`), beginning a row that serves (`worklist_begin`), an entry of it (`entry_idle`, `entry_count`,
-- `entry_found`), and the end: what is found is the closure (`worklist_end`). Nothing dead is found (`found_live`).
use mathlib.Core.Path.{◌≡◌, refl, sym, ap, ◌∙◌, subst}
use mathlib.Core.Logic.{◌⊎◌, inl, inr, ◌≢◌}
use mathlib.Core.Bool.{false}
use mathlib.Core.List.Memᴰ
use mathlib.Core.List.{List, [], ◌∷◌}
use Prim.Native.Nat.{ℕ, suc, ◌+◌, ◌≤◌, ◌<◌}
use native.Mathlib.Omega.{arith}
use native.Mathlib.Decide.{ℕ_discrete}
use lib.ListN.{length}
use Rattle.theory.specs.Sets.{Is, Set, Mem, any, member}
use Rattle.theory.specs.Counts.{count_in, occ}
use Rattle.theory.specs.Closure.{Mode, dead, free, single, every, waiting, fired, closure}
use Rattle.theory.specs.Worklist.{Started, Serves, Worklist}
use Rattle.theory.proofs.SetLaws.{any_found, any_holds, all_at, all_holds, mem_member, member_mem, clash}
use Rattle.theory.proofs.CountLaws.{occ_same, occ_other, occ_mem, mem_occ, count_le, count_all, count_full, member_more, pigeonhole}
use Rattle.theory.proofs.ClosureLaws.{closure_closed, closure_induct}

pub none : (l : List ℕ) → count_in (λ u. member u []) l ≡ 0
unfolding count_in member any
none [] = refl
none (x ∷ l) = none l

module _ (b : ℕ) (mode : ℕ → Mode) (pred : ℕ → List ℕ) where
  -- a vertex that waits for nothing and is not dead is in the closure
  fires : {order : List ℕ} {count : ℕ → ℕ} → Started b mode pred order count → (v : ℕ) → v < b → count v ≡ 0 → (mode v ≡ dead → ⊥) → Is (closure b mode pred v)
  unfolding fired
  fires {order} {count} s v l z n = closure_closed b mode pred v l (by (mode v) refl)
    where
      by : (m : Mode) → mode v ≡ m → Is (fired m (closure b mode pred) (pred v))
      by dead e = absurd (n e)
      by free e = refl
      by single e = let c = s.single_count v l e in absurd (omega arith)
      by every e = all_holds (closure b mode pred) (pred v) (λ x m. absurd (empty x (pred v) refl m))
        where
          empty : (x : ℕ) (k : List ℕ) → pred v ≡ k → Mem x k → ⊥
          empty x [] q m = Memᴰ.not-nil m
          empty x (y ∷ k) q m = let c = s.every_count v l e in let h = ap length q in omega arith

  pub worklist_start : {order : List ℕ} {count : ℕ → ℕ} → Started b mode pred order count → Worklist b mode pred order [] [] count
  unfolding count_in
  worklist_start {order} {count} s = record {
    distinct = s.distinct;
    low = s.low;
    begun = λ v m. absurd (Memᴰ.not-nil m);
    sound = λ v m. let f = (s.first v (s.low v m)).0 m in fires s v (s.low v m) f.0 f.1;
    ahead = λ v m. absurd (Memᴰ.not-nil m);
    starts = λ v l e. inl ((s.first v l).1 (s.free_count v l e, λ d. differ (sym e ∙ d)));
    once = λ v l n. once v l n (mode v) refl;
    passed = λ u v l e m i. absurd (Memᴰ.not-nil i);
    tally = λ v l e. let c = s.every_count v l e in let n = none (pred v) in omega arith;
    idle = s.dead_count;
    found = λ v l z. found v l z (mode v) refl;
    spent = λ v m. ((s.first v (s.low v m)).0 m).0;
  }
    where
      differ : free ≡ dead → ⊥
      differ e = let z : ◌≡◌ {A = ℕ} 0 1 = cc in omega arith

      once : (v : ℕ) → v < b → (mode v ≡ every → ⊥) → (m : Mode) → mode v ≡ m → count v ≤ 1
      once v l n dead e = let c = s.dead_count v l e in omega arith
      once v l n free e = let c = s.free_count v l e in omega arith
      once v l n single e = let c = s.single_count v l e in omega arith
      once v l n every e = absurd (n e)

      found : (v : ℕ) → v < b → count v ≡ 0 → (m : Mode) → mode v ≡ m → Mem v order ⊎ (mode v ≡ dead)
      found v l z dead e = inr e
      found v l z free e = inl ((s.first v l).1 (z, λ d. let k : ◌≡◌ {A = ℕ} 0 1 = cc in omega arith))
      found v l z single e = inl ((s.first v l).1 (z, λ d. let k : ◌≡◌ {A = ℕ} 0 1 = cc in omega arith))
      found v l z every e = inl ((s.first v l).1 (z, λ d. let k : ◌≡◌ {A = ℕ} 0 1 = cc in omega arith))

  -- ---- the row of a found vertex is begun

  pub found_live : {order done todo : List ℕ} {count : ℕ → ℕ} → Worklist b mode pred order done todo count → (v : ℕ) → Mem v order → mode v ≡ dead → ⊥
  unfolding fired
  found_live s v m e = closure_induct b mode pred (λ u. mode u ≡ dead → ⊥) (λ t ih u l p d. clash p (ap (λ (x : Mode). fired x t (pred u)) d)) v (s.sound v m) e

  pub worklist_begin : {order done : List ℕ} {count : ℕ → ℕ} {u : ℕ} {row : List ℕ} → Worklist b mode pred order done [] count → Mem u order → (Mem u done → ⊥)
      → Serves b mode pred u row → Worklist b mode pred order (u ∷ done) row count
  unfolding count_in waiting
  worklist_begin {order} {done} {count} {u} {row} s m n h = record {
    distinct = s.distinct;
    low = s.low;
    begun = λ v i. begun v (Memᴰ.cases_cons i);
    sound = s.sound;
    ahead = λ v i. let k = h.leads v i in (k.0, inr (u, Memᴰ.head refl, k.1));
    starts = λ v l e. left v (s.starts v l e);
    once = s.once;
    passed = λ w v l e k i. passed w v l e k (Memᴰ.cases_cons i);
    tally = λ v l e. let t = s.tally v l e in let c = member_more u done n (pred v) in let q = h.each v l (ap waiting e) in omega arith;
    idle = s.idle;
    found = s.found;
    spent = s.spent;
  }
    where
      begun : (v : ℕ) → (v ≡ u) ⊎ Mem v done → Mem v order
      begun v (inl e) = subst (λ (z : ℕ). Mem z order) (sym e) m
      begun v (inr i) = s.begun v i

      left : (v : ℕ) → Mem v order ⊎ Mem v [] → Mem v order ⊎ Mem v row
      left v (inl o) = inl o
      left v (inr o) = absurd (Memᴰ.not-nil o)

      to : (v : ℕ) → v < b → mode v ≡ single → Mem u (pred v) → Mem v row
      to v l e i = let q = h.each v l (ap waiting e) in let k = occ_mem i in mem_occ v row (omega arith)

      passed : (w v : ℕ) → v < b → mode v ≡ single → Mem w (pred v) → (w ≡ u) ⊎ Mem w done → Mem v order ⊎ Mem v row
      passed w v l e k (inl q) = inr (to v l e (subst (λ (z : ℕ). Mem z (pred v)) q k))
      passed w v l e k (inr i) = left v (s.passed w v l e k i)

  -- ---- an entry of the row

  module _ {order done : List ℕ} {v : ℕ} {todo : List ℕ} {count : ℕ → ℕ} (s : Worklist b mode pred order done (v ∷ todo) count) where
    pub entry_low : v < b
    entry_low = (s.ahead v (Memᴰ.head refl)).0

    -- a vertex that waits for all its predecessors waits for this entry
    every_waits : mode v ≡ every → 0 < count v
    every_waits e =
        let t = s.tally v entry_low e in
        let c = count_le (λ u. member u done) (pred v) in
        let o = occ_same v todo in
        omega arith

    later : (x : ℕ) → x ≢ v → Mem x order ⊎ Mem x (v ∷ todo) → Mem x order ⊎ Mem x todo
    later x n (inl o) = inl o
    later x n (inr m) = go (Memᴰ.cases_cons m)
      where
        go : (x ≡ v) ⊎ Mem x todo → Mem x order ⊎ Mem x todo
        go (inl e) = absurd (n e)
        go (inr i) = inr i

    -- v is found already, or never will be
    pub entry_idle : count v ≡ 0 → Worklist b mode pred order done todo count
    entry_idle z = record {
      distinct = s.distinct;
      low = s.low;
      begun = s.begun;
      sound = s.sound;
      ahead = λ x m. s.ahead x (Memᴰ.tail m);
      starts = λ x l e. settled x (λ d. differ (sym e ∙ d)) (s.starts x l e) (ℕ_discrete x v);
      once = s.once;
      passed = λ u x l e m i. settled x (λ d. apart (sym e ∙ d)) (s.passed u x l e m i) (ℕ_discrete x v);
      tally = λ x l e. tally x l e (ℕ_discrete x v);
      idle = s.idle;
      found = s.found;
      spent = s.spent;
    }
      where
        differ : free ≡ dead → ⊥
        differ e = let k : ◌≡◌ {A = ℕ} 0 1 = cc in omega arith

        apart : single ≡ dead → ⊥
        apart e = let k : ◌≡◌ {A = ℕ} 0 1 = cc in omega arith

        here : (mode v ≡ dead → ⊥) → Mem v order ⊎ (mode v ≡ dead) → Mem v order
        here n (inl o) = o
        here n (inr d) = absurd (n d)

        settled : (x : ℕ) → (mode x ≡ dead → ⊥) → Mem x order ⊎ Mem x (v ∷ todo) → Dec (x ≡ v) → Mem x order ⊎ Mem x todo
        settled x n m (yes q) = inl (subst (λ (z : ℕ). Mem z order) (sym q) (here (λ d. n (ap mode q ∙ d)) (s.found v entry_low z)))
        settled x n m (no q) = later x q m

        tally : (x : ℕ) → x < b → mode x ≡ every → Dec (x ≡ v) → count x + count_in (λ u. member u done) (pred x) ≡ length (pred x) + occ x todo
        tally x l e (yes q) = let w = every_waits (sym (ap mode q) ∙ e) in absurd (omega arith)
        tally x l e (no n) = let t = s.tally x l e in let o = occ_other x v todo n in omega arith

    module _ (count' : ℕ → ℕ) (fewer : count v ≡ suc (count' v)) (others : (x : ℕ) → x < b → x ≢ v → count' x ≡ count x) where
      fresh : Mem v order → ⊥
      fresh m = let z = s.spent v m in omega arith

      pub entry_room : length order < b
      entry_room = pigeonhole b (v ∷ order) (fresh, s.distinct) (λ x m. go x (Memᴰ.cases_cons m))
        where
          go : (x : ℕ) → (x ≡ v) ⊎ Mem x order → x < b
          go x (inl e) = subst (λ (z : ℕ). z < b) (sym e) entry_low
          go x (inr m) = s.low x m

      tally : (x : ℕ) → x < b → mode x ≡ every → Dec (x ≡ v) → count' x + count_in (λ u. member u done) (pred x) ≡ length (pred x) + occ x todo
      tally x l e (yes q) =
          subst (λ (z : ℕ). count' z + count_in (λ u. member u done) (pred z) ≡ length (pred z) + occ z todo) (sym q)
          (let t = s.tally v entry_low (sym (ap mode q) ∙ e) in let o = occ_same v todo in omega arith)
      tally x l e (no n) = let t = s.tally x l e in let o = occ_other x v todo n in let k = others x l n in omega arith

      idle : (x : ℕ) → x < b → mode x ≡ dead → Dec (x ≡ v) → count' x ≡ 0
      idle x l e (yes q) = let z = s.idle v entry_low (sym (ap mode q) ∙ e) in absurd (omega arith)
      idle x l e (no n) = others x l n ∙ s.idle x l e

      once : (x : ℕ) → x < b → (mode x ≡ every → ⊥) → Dec (x ≡ v) → count' x ≤ 1
      once x l e (yes q) = let z = s.once v entry_low (λ d. e (ap mode q ∙ d)) in let k = ap count' q in omega arith
      once x l e (no n) = let k = others x l n in let z = s.once x l e in omega arith

      spent : (x : ℕ) → Mem x order → count' x ≡ 0
      spent x m = go (ℕ_discrete x v)
        where
          go : Dec (x ≡ v) → count' x ≡ 0
          go (yes e) = absurd (fresh (subst (λ (z : ℕ). Mem z order) e m))
          go (no n) = others x (s.low x m) n ∙ s.spent x m

      -- others are still to come
      pub entry_count : 0 < count' v → Worklist b mode pred order done todo count'
      entry_count h = record {
        distinct = s.distinct;
        low = s.low;
        begun = s.begun;
        sound = s.sound;
        ahead = λ x m. s.ahead x (Memᴰ.tail m);
        starts = λ x l e. later x (other x (λ d. differ (sym e ∙ d))) (s.starts x l e);
        once = λ x l e. once x l e (ℕ_discrete x v);
        passed = λ u x l e m i. later x (other x (λ d. apart (sym e ∙ d))) (s.passed u x l e m i);
        tally = λ x l e. tally x l e (ℕ_discrete x v);
        idle = λ x l e. idle x l e (ℕ_discrete x v);
        found = λ x l z. found x l z (ℕ_discrete x v);
        spent = spent;
      }
        where
          differ : free ≡ every → ⊥
          differ e = let k : ◌≡◌ {A = ℕ} 0 1 = cc in omega arith

          apart : single ≡ every → ⊥
          apart e = let k : ◌≡◌ {A = ℕ} 0 1 = cc in omega arith

          -- it waits for more than one
          other : (x : ℕ) → (mode x ≡ every → ⊥) → x ≢ v
          other x n q = let z = s.once v entry_low (λ d. n (ap mode q ∙ d)) in omega arith

          found : (x : ℕ) → x < b → count' x ≡ 0 → Dec (x ≡ v) → Mem x order ⊎ (mode x ≡ dead)
          found x l z (yes q) = let k = ap count' q in absurd (omega arith)
          found x l z (no n) = s.found x l (sym (others x l n) ∙ z)

      -- the last one: v is found
      pub entry_found : count' v ≡ 0 → Worklist b mode pred (v ∷ order) done todo count'
      unfolding fired waiting
      entry_found h = record {
        distinct = (fresh, s.distinct);
        low = λ x m. low x (Memᴰ.cases_cons m);
        begun = λ x m. Memᴰ.tail (s.begun x m);
        sound = λ x m. sound x (Memᴰ.cases_cons m);
        ahead = λ x m. s.ahead x (Memᴰ.tail m);
        starts = λ x l e. passed x (ℕ_discrete x v) (s.starts x l e);
        once = λ x l e. once x l e (ℕ_discrete x v);
        passed = λ u x l e m i. passed x (ℕ_discrete x v) (s.passed u x l e m i);
        tally = λ x l e. tally x l e (ℕ_discrete x v);
        idle = λ x l e. idle x l e (ℕ_discrete x v);
        found = λ x l z. found x l z (ℕ_discrete x v);
        spent = λ x m. last x (Memᴰ.cases_cons m);
      }
        where
          low : (x : ℕ) → (x ≡ v) ⊎ Mem x order → x < b
          low x (inl e) = subst (λ (z : ℕ). z < b) (sym e) entry_low
          low x (inr m) = s.low x m

          by : (m : Mode) → mode v ≡ m → Is (fired m (closure b mode pred) (pred v))
          by dead e = let z = s.idle v entry_low e in absurd (omega arith)
          by free e = refl
          by single e = some ((s.ahead v (Memᴰ.head refl)).1)
            where
              some : (waiting (mode v) ≡ false) ⊎ ((u : ℕ) × Mem u done × Mem u (pred v)) → Is (any (closure b mode pred) (pred v))
              some (inl w) = clash (ap waiting e) w
              some (inr a) = any_holds (closure b mode pred) a.2 (s.sound a.0 (s.begun a.0 a.1))
          by every e =
              all_holds (closure b mode pred) (pred v)
              (λ x m. s.sound x (s.begun x (member_mem x done (count_full (λ u. member u done) (pred v) full m))))
            where
              full : length (pred v) ≤ count_in (λ u. member u done) (pred v)
              full = let t = tally v entry_low e (yes refl) in omega arith

          sound : (x : ℕ) → (x ≡ v) ⊎ Mem x order → Is (closure b mode pred x)
          sound x (inl e) = subst (λ (z : ℕ). Is (closure b mode pred z)) (sym e) (closure_closed b mode pred v entry_low (by (mode v) refl))
          sound x (inr m) = s.sound x m

          passed : (x : ℕ) → Dec (x ≡ v) → Mem x order ⊎ Mem x (v ∷ todo) → Mem x (v ∷ order) ⊎ Mem x todo
          passed x (yes e) m = inl (Memᴰ.head e)
          passed x (no n) m = go (later x n m)
            where
              go : Mem x order ⊎ Mem x todo → Mem x (v ∷ order) ⊎ Mem x todo
              go (inl o) = inl (Memᴰ.tail o)
              go (inr o) = inr o

          found : (x : ℕ) → x < b → count' x ≡ 0 → Dec (x ≡ v) → Mem x (v ∷ order) ⊎ (mode x ≡ dead)
          found x l z (yes e) = inl (Memᴰ.head e)
          found x l z (no n) = go (s.found x l (sym (others x l n) ∙ z))
            where
              go : Mem x order ⊎ (mode x ≡ dead) → Mem x (v ∷ order) ⊎ (mode x ≡ dead)
              go (inl o) = inl (Memᴰ.tail o)
              go (inr d) = inr d

          last : (x : ℕ) → (x ≡ v) ⊎ Mem x order → count' x ≡ 0
          last x (inl e) = ap count' e ∙ h
          last x (inr m) = spent x m

  -- ---- the end: every row is followed

  pub worklist_end : {order : List ℕ} {count : ℕ → ℕ} → Worklist b mode pred order order [] count → (v : ℕ) → Is (closure b mode pred v) → Mem v order
  unfolding fired count_in
  worklist_end {order} {count} s = closure_induct b mode pred (λ v. Mem v order) step
    where
      went : (v : ℕ) → Mem v order ⊎ Mem v [] → Mem v order
      went v (inl m) = m
      went v (inr m) = absurd (Memᴰ.not-nil m)

      by : (t : Set) → ((v : ℕ) → Is (t v) → Mem v order) → (v : ℕ) → v < b → (m : Mode) → mode v ≡ m → Is (fired m t (pred v)) → Mem v order
      by t ih v l dead e q = clash q refl
      by t ih v l free e q = went v (s.starts v l e)
      by t ih v l single e q = let r = any_found t (pred v) q in went v (s.passed r.0 v l e r.1 (ih r.0 r.2))
      by t ih v l every e q =
          let c = count_all (λ u. member u order) (pred v) (λ u m. mem_member (ih u (all_at t q m))) in
          let k = s.tally v l e in
          go (s.found v l (omega arith))
        where
          go : Mem v order ⊎ (mode v ≡ dead) → Mem v order
          go (inl m) = m
          go (inr d) = let z : ◌≡◌ {A = ℕ} 0 1 = cc in absurd (omega arith)

      step : (t : Set) → ((v : ℕ) → Is (t v) → Mem v order) → (v : ℕ) → v < b → Is (fired (mode v) t (pred v)) → Mem v order
      step t ih v l q = by t ih v l (mode v) refl q
