-- The start of a worklist, a step at a time: the beginning (`starting_begin`), a head of a fact (`head_passed`, `head_found`), a node (`node_idle`,
-- `node_found`), and the end (`starting_end`).
use mathlib.Core.Path.{◌≡◌, refl, sym, ap, ◌∙◌, subst}
use mathlib.Core.Logic.{◌⊎◌, inl, inr, ◌≢◌, ◌↔◌}
use mathlib.Core.List.Memᴰ
use mathlib.Core.List.{List, [], ◌∷◌}
use Prim.Native.Nat.{ℕ, ◌<◌}
use native.Mathlib.Omega.{arith}
use native.Mathlib.Decide.{ℕ_discrete}
use lib.ListN.{length}
use Rattle.theory.specs.Sets.{Mem}
use Rattle.theory.specs.Counts.{Distinct}
use Rattle.theory.specs.Closure.{Mode, dead, free}
use Rattle.theory.specs.Worklist.{Started}
use Rattle.theory.specs.Starting.{waits, Settled, Due, Starting}
use Rattle.theory.proofs.CountLaws.{pigeonhole}

module _ (b : ℕ) (mode : ℕ → Mode) (pred : ℕ → List ℕ) where
  -- ---- the beginning: every vertex but these is settled, and nothing is found

  -- found nothing, and v is settled as long as it waits for something or is dead
  unfound : {count : ℕ → ℕ} (v : ℕ) → count v ≡ waits (mode v) (length (pred v)) → (count v ≡ 0 → mode v ≡ dead) → Settled b mode pred [] count v
  unfound v e h = record { waiting = e; first = (λ m. absurd (Memᴰ.not-nil m), λ q. absurd (q.1 (h q.0))) }

  pub starting_begin : {heads nodes : List ℕ} {count : ℕ → ℕ}
      → ((v : ℕ) → Mem v heads → (v < b) × (waits (mode v) (length (pred v)) ≡ 0))
      → Distinct nodes
      → ((v : ℕ) → Mem v nodes → (v < b) × (count v ≡ 0))
      → ((v : ℕ) → v < b → (((count v ≡ waits (mode v) (length (pred v))) × (count v ≡ 0 → mode v ≡ dead)) ⊎ Mem v nodes) ⊎ (Mem v heads × (mode v ≡ free) × (count v ≡ 1)))
      → Starting b mode pred heads nodes [] count
  starting_begin {heads} {nodes} {count} named once new each = record {
    distinct = tt;
    low = λ v m. absurd (Memᴰ.not-nil m);
    named = named;
    once = once;
    new = λ v m. let r = new v m in (r.0, r.1, Memᴰ.not-nil);
    each = λ v l. go v (each v l);
  }
    where
      go : (v : ℕ) → (((count v ≡ waits (mode v) (length (pred v))) × (count v ≡ 0 → mode v ≡ dead)) ⊎ Mem v nodes) ⊎ (Mem v heads × (mode v ≡ free) × (count v ≡ 1))
          → Due b mode pred heads nodes [] count v
      go v (inl (inl q)) = inl (inl (unfound v q.0 q.1))
      go v (inl (inr m)) = inl (inr m)
      go v (inr q) = inr (q.0, q.1, q.2, Memᴰ.not-nil)

  -- ---- a step at v

  -- a vertex that is not in the list has room there
  pub starting_room : {heads nodes order : List ℕ} {count : ℕ → ℕ} → Starting b mode pred heads nodes order count → (v : ℕ) → v < b → (Mem v order → ⊥) → length order < b
  starting_room {order = order} s v l n = pigeonhole b (v ∷ order) (n, s.distinct) (λ x m. go x (Memᴰ.cases_cons m))
    where
      go : (x : ℕ) → (x ≡ v) ⊎ Mem x order → x < b
      go x (inl e) = subst (λ (z : ℕ). z < b) (sym e) l
      go x (inr m) = s.low x m

  -- v is settled; every other vertex stays as it was
  module _ {heads nodes order : List ℕ} {count : ℕ → ℕ} (s : Starting b mode pred heads nodes order count) (v : ℕ) {heads' nodes' order' : List ℕ} {count' : ℕ → ℕ}
      (fewer : (u : ℕ) → Mem u heads' → Mem u heads) (left : (u : ℕ) → Mem u heads → (u ≡ v) ⊎ Mem u heads')
      (once : Distinct nodes') (later : (u : ℕ) → Mem u nodes' → Mem u nodes × (u ≢ v)) (ahead : (u : ℕ) → Mem u nodes → (u ≡ v) ⊎ Mem u nodes')
      (distinct : Distinct order') (low : (u : ℕ) → Mem u order' → u < b) (same : (u : ℕ) → u ≢ v → Mem u order' ↔ Mem u order)
      (kept : (u : ℕ) → u < b → u ≢ v → count' u ≡ count u) (settled : Settled b mode pred order' count' v) where
    settle : Starting b mode pred heads' nodes' order' count'
    settle = record {
      distinct = distinct;
      low = low;
      named = λ u m. s.named u (fewer u m);
      once = once;
      new = λ u m. let r = later u m in let k = s.new u r.0 in (k.0, kept u k.0 r.1 ∙ k.1, λ o. k.2 ((same u r.1).0 o));
      each = λ u l. go u l (ℕ_discrete u v);
    }
      where
        other : (u : ℕ) → u < b → u ≢ v → Due b mode pred heads nodes order count u → Due b mode pred heads' nodes' order' count' u
        other u l n (inl (inl q)) = inl (inl (record {
          waiting = kept u l n ∙ q.waiting;
          first = (λ m. let r = q.first.0 ((same u n).0 m) in (kept u l n ∙ r.0, r.1), λ r. (same u n).1 (q.first.1 (sym (kept u l n) ∙ r.0, r.1)));
        }))
        other u l n (inl (inr m)) = go (ahead u m)
          where
            go : (u ≡ v) ⊎ Mem u nodes' → Due b mode pred heads' nodes' order' count' u
            go (inl e) = absurd (n e)
            go (inr k) = inl (inr k)
        other u l n (inr q) = go (left u q.0)
          where
            go : (u ≡ v) ⊎ Mem u heads' → Due b mode pred heads' nodes' order' count' u
            go (inl e) = absurd (n e)
            go (inr k) = inr (k, q.1, kept u l n ∙ q.2, λ o. q.3 ((same u n).0 o))

        go : (u : ℕ) → u < b → Dec (u ≡ v) → Due b mode pred heads' nodes' order' count' u
        go u l (yes e) = inl (inl (subst (λ (z : ℕ). Settled b mode pred order' count' z) (sym e) settled))
        go u l (no n) = other u l n (s.each u l)

  -- a head of a fact that waits for nothing: it is settled
  pub head_passed : {v : ℕ} {heads nodes order : List ℕ} {count : ℕ → ℕ} → Starting b mode pred (v ∷ heads) nodes order count → count v ≡ 0 → Starting b mode pred heads nodes order count
  head_passed {v} {heads} {nodes} {order} {count} s z = record {
    distinct = s.distinct;
    low = s.low;
    named = λ u m. s.named u (Memᴰ.tail m);
    once = s.once;
    new = s.new;
    each = λ u l. go u (s.each u l);
  }
    where
      go : (u : ℕ) → Due b mode pred (v ∷ heads) nodes order count u → Due b mode pred heads nodes order count u
      go u (inl q) = inl q
      go u (inr q) = turn (Memᴰ.cases_cons q.0)
        where
          turn : (u ≡ v) ⊎ Mem u heads → Due b mode pred heads nodes order count u
          turn (inl e) = let o : count u ≡ 1 = q.2 in let c : count u ≡ count v = ap count e in absurd (omega arith)
          turn (inr m) = inr (m, q.1, q.2, q.3)

  more_low : {v : ℕ} {order : List ℕ} → v < b → ((u : ℕ) → Mem u order → u < b) → (u : ℕ) → Mem u (v ∷ order) → u < b
  more_low {v} {order} l low u m = go (Memᴰ.cases_cons m)
    where
      go : (u ≡ v) ⊎ Mem u order → u < b
      go (inl e) = subst (λ (z : ℕ). z < b) (sym e) l
      go (inr i) = low u i

  more_same : {v : ℕ} {order : List ℕ} (u : ℕ) → u ≢ v → Mem u (v ∷ order) ↔ Mem u order
  more_same {v} {order} u n = (λ m. go (Memᴰ.cases_cons m), λ m. Memᴰ.tail m)
    where
      go : (u ≡ v) ⊎ Mem u order → Mem u order
      go (inl e) = absurd (n e)
      go (inr i) = i

  -- v is found
  now_found : {v : ℕ} {order : List ℕ} {count : ℕ → ℕ} → waits (mode v) (length (pred v)) ≡ 0 → (mode v ≡ dead → ⊥) → count v ≡ 0 → Settled b mode pred (v ∷ order) count v
  now_found w n z = record { waiting = z ∙ sym w; first = (λ m. (z, n), λ q. Memᴰ.head refl) }

  -- a head of a fact that waits: it is found
  module _ {v : ℕ} {heads nodes order : List ℕ} {count : ℕ → ℕ} (s : Starting b mode pred (v ∷ heads) nodes order count) (h : 0 < count v) where
    -- it is met for the first time
    unmet : (mode v ≡ free) × (Mem v order → ⊥)
    unmet = go (s.each v k.0)
      where
        k : (v < b) × (waits (mode v) (length (pred v)) ≡ 0)
        k = s.named v (Memᴰ.head refl)

        go : Due b mode pred (v ∷ heads) nodes order count v → (mode v ≡ free) × (Mem v order → ⊥)
        go (inl (inl q)) = let e = q.waiting in let z = k.1 in absurd (omega arith)
        go (inl (inr m)) = let z = (s.new v m).1 in absurd (omega arith)
        go (inr q) = (q.1, q.3)

    pub head_low : v < b
    head_low = (s.named v (Memᴰ.head refl)).0

    pub head_room : length order < b
    head_room = starting_room s v head_low unmet.1

    pub head_found : {count' : ℕ → ℕ} → count' v ≡ 0 → ((u : ℕ) → u < b → u ≢ v → count' u ≡ count u) → Starting b mode pred heads nodes (v ∷ order) count'
    head_found {count'} z kept =
        settle s v (λ u m. Memᴰ.tail m) (λ u m. Memᴰ.cases_cons m) s.once (λ u m. (m, apart u m)) (λ u m. inr m)
        (unmet.1, s.distinct) (more_low head_low s.low) more_same kept
        (now_found (s.named v (Memᴰ.head refl)).1 (λ e. let k : ◌≡◌ {A = ℕ} 0 1 = differ (sym unmet.0 ∙ e) in omega arith) z)
      where
        apart : (u : ℕ) → Mem u nodes → u ≢ v
        apart u m e = let z = (s.new u m).1 in let c : count u ≡ count v = ap count e in omega arith

        differ : free ≡ dead → ◌≡◌ {A = ℕ} 0 1
        differ e = cc

  -- a node
  module _ {v : ℕ} {heads nodes order : List ℕ} {count : ℕ → ℕ} (s : Starting b mode pred heads (v ∷ nodes) order count) where
    pub node_low : v < b
    node_low = (s.new v (Memᴰ.head refl)).0

    pub node_room : length order < b
    node_room = starting_room s v node_low (s.new v (Memᴰ.head refl)).2

    apart : (u : ℕ) → Mem u nodes → Mem u (v ∷ nodes) × (u ≢ v)
    apart u m = (Memᴰ.tail m, λ e. s.once.0 (subst (λ (z : ℕ). Mem z nodes) e m))

    -- that is dead, or waits for something
    pub node_idle : {count' : ℕ → ℕ} → count' v ≡ waits (mode v) (length (pred v)) → (count' v ≡ 0 → mode v ≡ dead) → ((u : ℕ) → u < b → u ≢ v → count' u ≡ count u)
        → Starting b mode pred heads nodes order count'
    node_idle {count'} e h kept =
        settle s v (λ u m. m) (λ u m. inr m) s.once.1 apart (λ u m. Memᴰ.cases_cons m) s.distinct s.low (λ u n. (λ m. m, λ m. m)) kept
        (record { waiting = e; first = (λ m. absurd ((s.new v (Memᴰ.head refl)).2 m), λ q. absurd (q.1 (h q.0))) })

    -- that waits for nothing
    pub node_found : waits (mode v) (length (pred v)) ≡ 0 → (mode v ≡ dead → ⊥) → {count' : ℕ → ℕ} → ((u : ℕ) → u < b → count' u ≡ count u) → Starting b mode pred heads nodes (v ∷ order) count'
    node_found w n kept =
        let k = s.new v (Memᴰ.head refl) in
        settle s v (λ u m. m) (λ u m. inr m) s.once.1 apart (λ u m. Memᴰ.cases_cons m) (k.2, s.distinct) (more_low node_low s.low) more_same (λ u l d. kept u l)
        (now_found w n (kept v node_low ∙ k.1))

  -- ---- the end: nothing is left

  pub starting_end : {order : List ℕ} {count : ℕ → ℕ} → Starting b mode pred [] [] order count → Started b mode pred order count
  unfolding waits
  starting_end {order} {count} s = record {
    distinct = s.distinct;
    low = s.low;
    dead_count = λ v l e. waiting v l e;
    free_count = λ v l e. waiting v l e;
    single_count = λ v l e. waiting v l e;
    every_count = λ v l e. waiting v l e;
    first = λ v l. (settled v (s.each v l)).first;
  }
    where
      settled : (v : ℕ) → Due b mode pred [] [] order count v → Settled b mode pred order count v
      settled v (inl (inl q)) = q
      settled v (inl (inr m)) = absurd (Memᴰ.not-nil m)
      settled v (inr q) = absurd (Memᴰ.not-nil q.0)

      waiting : {m : Mode} (v : ℕ) → v < b → mode v ≡ m → count v ≡ waits m (length (pred v))
      waiting v l e = (settled v (s.each v l)).waiting ∙ ap (λ (x : Mode). waits x (length (pred v))) e
