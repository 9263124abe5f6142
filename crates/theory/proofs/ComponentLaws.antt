-- The two walks of Sharir (1981), a step at a time, over lists. First walk: `descent_push`, `descent_skip`, `descent_finish` keep a finishing order
-- (`Good`). Second walk: `collect_root`, `collect_add`, `collect_skip`, and at the end of each search `sweep_next` and `component_marks`: a
-- vertex of the component is on a closed walk exactly if the component has more than one member.
use mathlib.Core.Path.{◌≡◌, refl, sym, ◌∙◌, subst}
use mathlib.Core.Logic.{◌⊎◌, inl, inr, ◌↔◌}
use mathlib.Core.List.Memᴰ
use mathlib.Core.List.{List, [], ◌∷◌}
use Prim.Native.Nat.{ℕ, zero, suc, ◌<◌}
use native.Mathlib.Omega.{arith}
use native.Mathlib.Decide.{ℕ_discrete}
use lib.ListN.{length}
use Rattle.theory.specs.Sets.{Mem}
use Rattle.theory.specs.Counts.{Distinct}
use Rattle.theory.specs.Walks.{Walk, edge, next}
use Rattle.theory.specs.Components.{Star, here, on, Via, start, step, Good, Stacked, Descent, Same, Sweep, Collect}
use Rattle.theory.proofs.WalkLaws.{walk_cat}

module _ (pred : ℕ → List ℕ) where
  pub star_cat : {u v w : ℕ} → Star pred u v → Star pred v w → Star pred u w
  star_cat {u} p (here e) = subst (λ (z : ℕ). Star pred u z) e p
  star_cat p (on q m) = on (star_cat p q) m

  pub star_edge : {u v : ℕ} → Mem u (pred v) → Star pred u v
  star_edge m = on (here refl) m

  pub star_walk : {u w v : ℕ} → Star pred u w → Mem w (pred v) → Walk pred u v
  star_walk (here e) m = edge (Memᴰ.cast e m)
  star_walk (on p k) m = next (star_walk p k) m

  pub edge_star : {u v w : ℕ} → Mem u (pred v) → Star pred v w → Walk pred u w
  edge_star {u} m (here e) = edge (subst (λ (z : ℕ). Mem u (pred z)) e m)
  edge_star m (on p k) = next (edge_star m p) k

  pub walk_star : {u v : ℕ} → Walk pred u v → Star pred u v
  walk_star (edge m) = star_edge m
  walk_star (next p m) = on (walk_star p) m

  pub via_star : {S : List ℕ} {z x : ℕ} → Via pred S z x → Star pred z x
  via_star (start m k) = star_edge k
  via_star (step p m k) = on (via_star p) k

  -- the first edge
  via_first : {S : List ℕ} {z x : ℕ} → Via pred S z x → (y : ℕ) × Mem y S × Mem z (pred y)
  via_first (start {x = x} m k) = (x, m, k)
  via_first (step p m k) = via_first p

  -- through one vertex more: without it, or from it
  via_split : {S : List ℕ} {t z x : ℕ} → Via pred (t ∷ S) z x → Via pred S z x ⊎ ((x ≡ t) ⊎ Via pred S t x)
  via_split {S} {t} {z} (start {x = x} m k) = go (Memᴰ.cases_cons m)
    where
      go : (x ≡ t) ⊎ Mem x S → Via pred S z x ⊎ ((x ≡ t) ⊎ Via pred S t x)
      go (inl e) = inr (inl e)
      go (inr i) = inl (start i k)
  via_split {S} {t} {z} (step {y = y} {x = x} p m k) = go (Memᴰ.cases_cons m) (via_split p)
    where
      go : (x ≡ t) ⊎ Mem x S → Via pred S z y ⊎ ((y ≡ t) ⊎ Via pred S t y) → Via pred S z x ⊎ ((x ≡ t) ⊎ Via pred S t x)
      go (inl e) q = inr (inl e)
      go (inr i) (inl q) = inl (step q i k)
      go (inr i) (inr (inl e)) = inr (inr (start i (Memᴰ.cast (sym e) k)))
      go (inr i) (inr (inr q)) = inr (inr (step q i k))

  -- ---- the first search

  pub top_reaches : {z : ℕ} (t : ℕ) (rest : List ℕ) → Stacked pred (t ∷ rest) → Mem z (t ∷ rest) → Star pred t z
  top_reaches t [] s m = here (sym (Memᴰ.eq_of_singleton m))
  top_reaches {z} t (u ∷ rest) s m = go (Memᴰ.cases_cons m) (top_reaches u rest s.1)
    where
      go : (z ≡ t) ⊎ Mem z (u ∷ rest) → (Mem z (u ∷ rest) → Star pred u z) → Star pred t z
      go (inl e) below = here (sym e)
      go (inr i) below = star_cat (star_edge s.0) (below i)

  pub descent_empty : {Pend : ℕ → ℕ → Type 0} → Descent pred Pend [] []
  descent_empty = record {
    good = tt;
    path = tt;
    back = λ z x m p. absurd (Memᴰ.not-nil m);
    looked = λ v w m k. absurd (Memᴰ.not-nil m);
    known = λ v w m k. absurd (Memᴰ.not-nil m);
  }

  module _ {Pend Pend' : ℕ → ℕ → Type 0} {fin : List ℕ} where
    -- no vertex is looked at from the stack but those known: what is no longer pending is discovered
    pub descent_skip : {stack : List ℕ} → Descent pred Pend stack fin → ((v w : ℕ) → Mem v stack → Mem w (pred v) → Pend v w → (Mem w stack ⊎ Mem w fin) ⊎ Pend' v w) → Descent pred Pend' stack fin
    descent_skip {stack} d h = record { good = d.good; path = d.path; back = d.back; looked = λ v w m k. go v w m k (d.looked v w m k); known = d.known }
      where
        go : (v w : ℕ) → Mem v stack → Mem w (pred v) → (Mem w stack ⊎ Mem w fin) ⊎ Pend v w → (Mem w stack ⊎ Mem w fin) ⊎ Pend' v w
        go v w m k (inl s) = inl s
        go v w m k (inr p) = h v w m k p

    -- a vertex that is not discovered goes on the stack, if it is a predecessor of the top or the stack is empty
    pub descent_push : {stack : List ℕ} (u : ℕ)
        → Descent pred Pend stack fin
        → Stacked pred (u ∷ stack)
        → (Mem u stack → ⊥) → (Mem u fin → ⊥)
        → ((w : ℕ) → Mem w (pred u) → Pend' u w)
        → ((v w : ℕ) → Mem v stack → Pend v w → (w ≡ u) ⊎ Pend' v w)
        → Descent pred Pend' (u ∷ stack) fin
    descent_push {stack} u d path off unfin all rest = record {
      good = d.good;
      path = path;
      back = λ z x m p. back z x p (Memᴰ.cases_cons m);
      looked = λ v w m k. looked v w k (Memᴰ.cases_cons m);
      known = λ v w m k. wider w (d.known v w m k);
    }
      where
        wider : (w : ℕ) → Mem w stack ⊎ Mem w fin → Mem w (u ∷ stack) ⊎ Mem w fin
        wider w (inl m) = inl (Memᴰ.tail m)
        wider w (inr m) = inr m

        unseen : Mem u stack ⊎ Mem u fin → ⊥
        unseen (inl m) = off m
        unseen (inr m) = unfin m

        back : (z x : ℕ) → Via pred fin z x → (z ≡ u) ⊎ Mem z stack → Star pred x z
        back z x p (inl e) = let f = via_first p in absurd (unseen (d.known f.0 u f.1 (Memᴰ.cast (sym e) f.2)))
        back z x p (inr m) = d.back z x m p

        more : (v w : ℕ) → Mem v stack → (Mem w stack ⊎ Mem w fin) ⊎ Pend v w → (Mem w (u ∷ stack) ⊎ Mem w fin) ⊎ Pend' v w
        more v w m (inl s) = inl (wider w s)
        more v w m (inr p) = turn (rest v w m p)
          where
            turn : (w ≡ u) ⊎ Pend' v w → (Mem w (u ∷ stack) ⊎ Mem w fin) ⊎ Pend' v w
            turn (inl e) = inl (inl (Memᴰ.head e))
            turn (inr q) = inr q

        looked : (v w : ℕ) → Mem w (pred v) → (v ≡ u) ⊎ Mem v stack → (Mem w (u ∷ stack) ⊎ Mem w fin) ⊎ Pend' v w
        looked v w k (inl e) = inr (subst (λ (y : ℕ). Pend' y w) (sym e) (all w (subst (λ (y : ℕ). Mem w (pred y)) e k)))
        looked v w k (inr m) = more v w m (d.looked v w m k)

    -- the top, with nothing pending, is finished
    pub descent_finish : {rest : List ℕ} (t : ℕ)
        → Descent pred Pend (t ∷ rest) fin
        → ((w : ℕ) → Pend t w → ⊥)
        → ((v w : ℕ) → Mem v rest → Pend v w → Pend' v w)
        → Descent pred Pend' rest (t ∷ fin)
    descent_finish {rest} t d none keep = record {
      good = (d.good, λ x p. d.back t x (Memᴰ.head refl) p);
      path = lower rest d.path;
      back = λ z x m p. back z x m (via_split p);
      looked = λ v w m k. looked v w m (d.looked v w (Memᴰ.tail m) k);
      known = λ v w m k. known v w k (Memᴰ.cases_cons m);
    }
      where
        lower : (rest : List ℕ) → Stacked pred (t ∷ rest) → Stacked pred rest
        lower [] s = tt
        lower (u ∷ l) s = s.1

        back : (z x : ℕ) → Mem z rest → Via pred fin z x ⊎ ((x ≡ t) ⊎ Via pred fin t x) → Star pred x z
        back z x m (inl p) = d.back z x (Memᴰ.tail m) p
        back z x m (inr (inl e)) = subst (λ (y : ℕ). Star pred y z) (sym e) (top_reaches t rest d.path (Memᴰ.tail m))
        back z x m (inr (inr p)) = star_cat (d.back t x (Memᴰ.head refl) p) (top_reaches t rest d.path (Memᴰ.tail m))

        moved : (w : ℕ) → (w ≡ t) ⊎ Mem w rest → Mem w rest ⊎ Mem w (t ∷ fin)
        moved w (inl e) = inr (Memᴰ.head e)
        moved w (inr m) = inl m

        shift : (w : ℕ) → Mem w (t ∷ rest) ⊎ Mem w fin → Mem w rest ⊎ Mem w (t ∷ fin)
        shift w (inl m) = moved w (Memᴰ.cases_cons m)
        shift w (inr m) = inr (Memᴰ.tail m)

        looked : (v w : ℕ) → Mem v rest → (Mem w (t ∷ rest) ⊎ Mem w fin) ⊎ Pend v w → (Mem w rest ⊎ Mem w (t ∷ fin)) ⊎ Pend' v w
        looked v w m (inl s) = inl (shift w s)
        looked v w m (inr p) = inr (keep v w m p)

        known : (v w : ℕ) → Mem w (pred v) → (v ≡ t) ⊎ Mem v fin → Mem w rest ⊎ Mem w (t ∷ fin)
        known v w k (inl e) = last (d.looked t w (Memᴰ.head refl) (subst (λ (y : ℕ). Mem w (pred y)) e k))
          where
            last : (Mem w (t ∷ rest) ⊎ Mem w fin) ⊎ Pend t w → Mem w rest ⊎ Mem w (t ∷ fin)
            last (inl s) = shift w s
            last (inr p) = absurd (none w p)
        known v w k (inr m) = shift w (d.known v w m k)

  -- ---- the second search

  pub sweep_start : {Done : ℕ → Type 0} {fin : List ℕ} → Good pred fin → ((x y : ℕ) → Mem x (pred y) → Mem y fin) → ((x : ℕ) → Done x → ⊥) → Sweep pred Done fin
  sweep_start g all none = record { good = g; whole = λ x y d s. absurd (none x d); cover = λ x y m. inr (all x y m) }

  pub sweep_skip : {Done : ℕ → Type 0} {r : ℕ} {earlier : List ℕ} → Sweep pred Done (r ∷ earlier) → Done r → Sweep pred Done earlier
  sweep_skip {Done} {r} {earlier} s d = record { good = s.good.0; whole = s.whole; cover = λ x y m. go y (s.cover x y m) }
    where
      at : (y : ℕ) → (y ≡ r) ⊎ Mem y earlier → Done y ⊎ Mem y earlier
      at y (inl e) = inl (subst Done (sym e) d)
      at y (inr m) = inr m

      go : (y : ℕ) → Done y ⊎ Mem y (r ∷ earlier) → Done y ⊎ Mem y earlier
      go y (inl q) = inl q
      go y (inr m) = at y (Memᴰ.cases_cons m)

  module _ {Done : ℕ → Type 0} {r : ℕ} {earlier : List ℕ} where
    pub collect_root : {Pend : ℕ → ℕ → Type 0} → (Done r → ⊥) → ((y : ℕ) → Mem r (pred y) → Pend r y) → Collect pred Done Pend r earlier (r ∷ [])
    collect_root {Pend} n all = record {
      root = Memᴰ.head refl;
      via = λ x m. inl (Memᴰ.eq_of_singleton m);
      fresh = λ x m d. n (subst Done (Memᴰ.eq_of_singleton m) d);
      followed = λ x y m k. inr (subst (λ (z : ℕ). Pend z y) (sym (Memᴰ.eq_of_singleton m)) (all y (Memᴰ.cast (sym (Memᴰ.eq_of_singleton m)) k)));
      distinct = (Memᴰ.not-nil, tt);
    }

    module _ {Pend Pend' : ℕ → ℕ → Type 0} {C : List ℕ} where
      pub collect_skip : Collect pred Done Pend r earlier C → ((x y : ℕ) → Mem x C → Mem x (pred y) → Pend x y → (Done y ⊎ Mem y C) ⊎ Pend' x y) → Collect pred Done Pend' r earlier C
      collect_skip c h = record { root = c.root; via = c.via; fresh = c.fresh; followed = λ x y m k. go x y m k (c.followed x y m k); distinct = c.distinct }
        where
          go : (x y : ℕ) → Mem x C → Mem x (pred y) → (Done y ⊎ Mem y C) ⊎ Pend x y → (Done y ⊎ Mem y C) ⊎ Pend' x y
          go x y m k (inl s) = inl s
          go x y m k (inr p) = h x y m k p

      -- y, which an edge leads to from x, is found
      pub collect_add : (x y : ℕ)
          → Sweep pred Done (r ∷ earlier)
          → Collect pred Done Pend r earlier C
          → Mem x C → Mem x (pred y)
          → (Done y → ⊥) → (Mem y C → ⊥)
          → ((w : ℕ) → Mem y (pred w) → Pend' y w)
          → ((v w : ℕ) → Mem v C → Pend v w → (w ≡ y) ⊎ Pend' v w)
          → Collect pred Done Pend' r earlier (y ∷ C)
      collect_add x y s c m k new off all rest = record {
        root = Memᴰ.tail c.root;
        via = λ v i. via v (Memᴰ.cases_cons i);
        fresh = λ v i. fresh v (Memᴰ.cases_cons i);
        followed = λ v w i j. followed v w j (Memᴰ.cases_cons i);
        distinct = (off, c.distinct);
      }
        where
          among : Done y ⊎ Mem y (r ∷ earlier) → Mem y earlier
          among (inl d) = absurd (new d)
          among (inr i) = tail_of (Memᴰ.cases_cons i)
            where
              tail_of : (y ≡ r) ⊎ Mem y earlier → Mem y earlier
              tail_of (inl e) = absurd (off (Memᴰ.cast e c.root))
              tail_of (inr j) = j

          reach : Mem y earlier → (x ≡ r) ⊎ Via pred earlier r x → Via pred earlier r y
          reach i (inl e) = start i (Memᴰ.cast (sym e) k)
          reach i (inr p) = step p i k

          via : (v : ℕ) → (v ≡ y) ⊎ Mem v C → (v ≡ r) ⊎ Via pred earlier r v
          via v (inl e) = inr (subst (λ (z : ℕ). Via pred earlier r z) (sym e) (reach (among (s.cover x y k)) (c.via x m)))
          via v (inr i) = c.via v i

          fresh : (v : ℕ) → (v ≡ y) ⊎ Mem v C → Done v → ⊥
          fresh v (inl e) d = new (subst Done e d)
          fresh v (inr i) d = c.fresh v i d

          more : (v w : ℕ) → Mem v C → (Done w ⊎ Mem w C) ⊎ Pend v w → (Done w ⊎ Mem w (y ∷ C)) ⊎ Pend' v w
          more v w i (inl (inl d)) = inl (inl d)
          more v w i (inl (inr j)) = inl (inr (Memᴰ.tail j))
          more v w i (inr p) = turn (rest v w i p)
            where
              turn : (w ≡ y) ⊎ Pend' v w → (Done w ⊎ Mem w (y ∷ C)) ⊎ Pend' v w
              turn (inl e) = inl (inr (Memᴰ.head e))
              turn (inr q) = inr q

          followed : (v w : ℕ) → Mem v (pred w) → (v ≡ y) ⊎ Mem v C → (Done w ⊎ Mem w (y ∷ C)) ⊎ Pend' v w
          followed v w j (inl e) = inr (subst (λ (z : ℕ). Pend' z w) (sym e) (all w (Memᴰ.cast (sym e) j)))
          followed v w j (inr i) = more v w i (c.followed v w i j)

    -- at the end
    module _ {Pend : ℕ → ℕ → Type 0} {C : List ℕ} (s : Sweep pred Done (r ∷ earlier)) (c : Collect pred Done Pend r earlier C) (over : (x y : ℕ) → Mem x C → Pend x y → ⊥) where
      pub component_sound : (x : ℕ) → Mem x C → Same pred r x
      component_sound x m = go (c.via x m)
        where
          go : (x ≡ r) ⊎ Via pred earlier r x → Same pred r x
          go (inl e) = (here (sym e), here e)
          go (inr p) = (via_star p, s.good.1 x p)

      pub component_full : {x : ℕ} → Star pred r x → Star pred x r → Mem x C
      component_full {x} (here e) q = Memᴰ.cast (sym e) c.root
      component_full {x} (on {w = w} p k) q =
          let i = component_full p (star_cat (star_edge k) q) in
          go i (c.followed w x i k)
        where
          go : Mem w C → (Done x ⊎ Mem x C) ⊎ Pend w x → Mem x C
          go i (inl (inl d)) = absurd (c.fresh r c.root (s.whole x r d (q, on p k)))
          go i (inl (inr m)) = m
          go i (inr n) = absurd (over w x i n)

      -- the component of r is done
      pub sweep_next : {Done' : ℕ → Type 0} → ((x : ℕ) → Done' x ↔ (Done x ⊎ Mem x C)) → Sweep pred Done' earlier
      sweep_next {Done'} same = record {
        good = s.good.0;
        whole = λ x y d q. (same y).1 (whole x y q ((same x).0 d));
        cover = λ x y m. cover y (s.cover x y m);
      }
        where
          whole : (x y : ℕ) → Same pred x y → Done x ⊎ Mem x C → Done y ⊎ Mem y C
          whole x y q (inl d) = inl (s.whole x y d q)
          whole x y q (inr m) = let k = component_sound x m in inr (component_full (star_cat k.0 q.0) (star_cat q.1 k.1))

          at : (y : ℕ) → (y ≡ r) ⊎ Mem y earlier → Done' y ⊎ Mem y earlier
          at y (inl e) = inl ((same y).1 (inr (Memᴰ.cast e c.root)))
          at y (inr m) = inr m

          cover : (y : ℕ) → Done y ⊎ Mem y (r ∷ earlier) → Done' y ⊎ Mem y earlier
          cover y (inl d) = inl ((same y).1 (inl d))
          cover y (inr m) = at y (Memᴰ.cases_cons m)

      -- a vertex alone in its component, with no edge to itself, is on no closed chain
      pub alone_open : length C ≡ 1 → (Mem r (pred r) → ⊥) → Walk pred r r → ⊥
      alone_open e loop (edge m) = loop m
      alone_open e loop (next {w = w} p m) = loop (Memᴰ.cast (sym (only (component_full (walk_star p) (star_edge m)) c.root)) m)
        where
          one : (l : List ℕ) → length l ≡ 1 → (a b : ℕ) → Mem a l → Mem b l → a ≡ b
          one [] h a b i j = absurd (Memᴰ.not-nil i)
          one (z ∷ []) h a b i j = Memᴰ.eq_of_singleton i ∙ sym (Memᴰ.eq_of_singleton j)
          one (z ∷ y ∷ l) h a b i j = absurd (omega arith)

          only : Mem w C → Mem r C → w ≡ r
          only i j = one C e w r i j

      -- a vertex of a component of two or more is on a closed chain
      pub among_closed : 1 < length C → (x : ℕ) → Mem x C → Walk pred x x
      among_closed h x m = go (other C h c.distinct x)
        where
          other : (l : List ℕ) → 1 < length l → Distinct l → (x : ℕ) → (y : ℕ) × Mem y l × (y ≡ x → ⊥)
          other [] h d x = absurd (omega arith)
          other (a ∷ []) h d x = absurd (omega arith)
          other (a ∷ b ∷ l) h d x = pick (ℕ_discrete a x)
            where
              pick : Dec (a ≡ x) → (y : ℕ) × Mem y (a ∷ b ∷ l) × (y ≡ x → ⊥)
              pick (yes e) = (b, Memᴰ.tail (Memᴰ.head refl), λ f. d.0 (Memᴰ.head (e ∙ sym f)))
              pick (no e) = (a, Memᴰ.head refl, e)

          moving : {u v : ℕ} → Star pred u v → (u ≡ v → ⊥) → Walk pred u v
          moving (here e) n = absurd (n e)
          moving (on p k) n = star_walk p k

          go : (y : ℕ) × Mem y C × (y ≡ x → ⊥) → Walk pred x x
          go t =
              let a = component_sound x m in
              let b = component_sound t.0 t.1 in
              walk_cat (moving (star_cat a.1 b.0) (λ e. t.2 (sym e))) (moving (star_cat b.1 a.0) t.2)

      -- what the count of the component says of its members
      pub component_marks : (x : ℕ) → Mem x C → (Mem x (pred x) → ⊥) → Walk pred x x ↔ (1 < length C)
      component_marks x m loop = (λ w. go (length C) refl w, λ h. among_closed h x m)
        where
          sole : (l : List ℕ) → length l ≡ 1 → (a b : ℕ) → Mem a l → Mem b l → a ≡ b
          sole [] h a b i j = absurd (Memᴰ.not-nil i)
          sole (z ∷ []) h a b i j = Memᴰ.eq_of_singleton i ∙ sym (Memᴰ.eq_of_singleton j)
          sole (z ∷ y ∷ l) h a b i j = absurd (omega arith)

          filled : (l : List ℕ) → Mem r l → length l ≡ 0 → ⊥
          filled [] i e = Memᴰ.not-nil i
          filled (z ∷ l) i e = omega arith

          go : (n : ℕ) → length C ≡ n → Walk pred x x → 1 < length C
          go zero e w = absurd (filled C c.root e)
          go (suc zero) e w =
              let q : x ≡ r = sole C e x r m c.root in
              absurd (alone_open e (subst (λ (z : ℕ). Mem z (pred z) → ⊥) q loop) (subst (λ (z : ℕ). Walk pred z z) q w))
          go (suc (suc n)) e w = omega arith
