-- The second walk, a step at a time: the start and a root that is met already (`swept_start`, `swept_known`), a search begun at a root
-- (`collect_begin`), a row of it begun (`collect_row`), an entry that is met already or outside, or new (`entry_met`, `entry_fresh`); at its end
-- the members are a component (`collect_end`), and a member is on a closed walk exactly if there are two or more (`members_cyclic`).
use mathlib.Core.Path.{◌≡◌, refl, sym, ap, ◌∙◌, subst}
use mathlib.Core.Logic.{◌⊎◌, inl, inr, ◌≢◌, ◌↔◌}
use mathlib.Core.Bool.{true, false}
use mathlib.Core.List.Memᴰ
use mathlib.Core.List.{List, [], ◌∷◌, ◌++◌}
use Prim.Native.Nat.{ℕ, ◌<◌}
use native.Mathlib.Omega.{arith}
use native.Mathlib.Decide.{ℕ_discrete}
use lib.ListN.{length}
use Rattle.theory.specs.Sets.{Is, Set, Mem}
use Rattle.theory.specs.Counts.{Distinct}
use Rattle.theory.specs.Walks.{Walk}
use Rattle.theory.specs.Search.{Within, Ordered, Swept, Collecting}
use Rattle.theory.proofs.SetLaws.{bool_cases}
use Rattle.theory.proofs.CountLaws.{pigeonhole}
use Rattle.theory.proofs.ComponentLaws.{sweep_start, sweep_skip, sweep_next, collect_root, collect_skip, collect_add, component_marks}

module _ (b : ℕ) (pred : ℕ → List ℕ) (graph : Set) (within : Within b pred graph) where
  pub swept_start : {fin : List ℕ} {mark : ℕ → ℕ} → Ordered b pred graph fin → ((v : ℕ) → v < b → graph v ≡ false → mark v ≡ 0) → ((v : ℕ) → v < b → Is (graph v) → mark v ≡ 2)
      → Swept b pred graph fin [] mark
  swept_start {fin} {mark} o out two = record {
    sweep = sweep_start pred o.good (λ x y m. let t = within.to x y m in o.full y t.1 t.0) (λ x m. Memᴰ.not-nil m);
    once = tt;
    low = λ v m. absurd (Memᴰ.not-nil m);
    outside = out;
    unmet = λ v l g. inl (two v l g);
    met = λ v l e. absurd (none v l e (bool_cases (graph v)));
    marked = λ v m. absurd (Memᴰ.not-nil m);
  }
    where
      none : (v : ℕ) → v < b → mark v ≡ 3 → (graph v ≡ true) ⊎ (graph v ≡ false) → ⊥
      none v l e (inl g) = let k = two v l g in omega arith
      none v l e (inr g) = let k = out v l g in omega arith

  pub swept_known : {r : ℕ} {earlier found : List ℕ} {mark : ℕ → ℕ} → Swept b pred graph (r ∷ earlier) found mark → r < b → mark r ≡ 3 → Swept b pred graph earlier found mark
  swept_known {r} s l e = record {
    sweep = sweep_skip pred s.sweep (s.met r l e);
    once = s.once;
    low = s.low;
    outside = s.outside;
    unmet = s.unmet;
    met = s.met;
    marked = s.marked;
  }

  -- the marks after one more vertex, w, is met
  module _ {w : ℕ} {mark mark' : ℕ → ℕ} (here : mark' w ≡ 3) (others : (v : ℕ) → v < b → v ≢ w → mark' v ≡ mark v) (two : mark w ≡ 2) where
    more_outside : ((v : ℕ) → v < b → graph v ≡ false → mark v ≡ 0) → (v : ℕ) → v < b → graph v ≡ false → mark' v ≡ 0
    more_outside out v l o = go (ℕ_discrete v w)
      where
        go : Dec (v ≡ w) → mark' v ≡ 0
        go (yes q) = let z = out v l o in let y = ap mark q in absurd (omega arith)
        go (no n) = others v l n ∙ out v l o

    more_unmet : ((v : ℕ) → v < b → Is (graph v) → (mark v ≡ 2) ⊎ (mark v ≡ 3)) → (v : ℕ) → v < b → Is (graph v) → (mark' v ≡ 2) ⊎ (mark' v ≡ 3)
    more_unmet old v l g = go (ℕ_discrete v w) (old v l g)
      where
        go : Dec (v ≡ w) → (mark v ≡ 2) ⊎ (mark v ≡ 3) → (mark' v ≡ 2) ⊎ (mark' v ≡ 3)
        go (yes q) k = inr (ap mark' q ∙ here)
        go (no n) (inl k) = inl (others v l n ∙ k)
        go (no n) (inr k) = inr (others v l n ∙ k)

    more_met : {seen : List ℕ} → ((v : ℕ) → v < b → mark v ≡ 3 → Mem v seen) → (v : ℕ) → v < b → mark' v ≡ 3 → Mem v (w ∷ seen)
    more_met {seen} old v l e = go (ℕ_discrete v w)
      where
        go : Dec (v ≡ w) → Mem v (w ∷ seen)
        go (yes q) = Memᴰ.head q
        go (no n) = Memᴰ.tail (old v l (sym (others v l n) ∙ e))

    more_marked : {seen : List ℕ} → ((v : ℕ) → Mem v seen → v < b) → ((v : ℕ) → Mem v seen → mark v ≡ 3) → (v : ℕ) → Mem v (w ∷ seen) → mark' v ≡ 3
    more_marked {seen} low old v m = go (Memᴰ.cases_cons m)
      where
        go : (v ≡ w) ⊎ Mem v seen → mark' v ≡ 3
        go (inl q) = ap mark' q ∙ here
        go (inr i) = let k = old v i in others v (low v i) (λ q. let z = ap mark q in omega arith) ∙ k

    more_low : {seen : List ℕ} → w < b → ((v : ℕ) → Mem v seen → v < b) → (v : ℕ) → Mem v (w ∷ seen) → v < b
    more_low {seen} l low v m = go (Memᴰ.cases_cons m)
      where
        go : (v ≡ w) ⊎ Mem v seen → v < b
        go (inl q) = subst (λ (z : ℕ). z < b) (sym q) l
        go (inr i) = low v i

  -- the room in a list of the vertices met: one that is not met is not among them
  pub met_room : (w : ℕ) (seen : List ℕ) → Distinct seen → ((v : ℕ) → Mem v seen → v < b) → w < b → (Mem w seen → ⊥) → length seen < b
  met_room w seen d low l n = pigeonhole b (w ∷ seen) (n, d) (λ v m. go v (Memᴰ.cases_cons m))
    where
      go : (v : ℕ) → (v ≡ w) ⊎ Mem v seen → v < b
      go v (inl q) = subst (λ (z : ℕ). z < b) (sym q) l
      go v (inr m) = low v m

  module _ {r : ℕ} {earlier found : List ℕ} {mark : ℕ → ℕ} (s : Swept b pred graph (r ∷ earlier) found mark) (l : r < b) (two : mark r ≡ 2) where
    pub root_new : Mem r found → ⊥
    root_new m = let k = s.marked r m in omega arith

    pub collect_begin : {mark' : ℕ → ℕ} → mark' r ≡ 3 → ((v : ℕ) → v < b → v ≢ r → mark' v ≡ mark v) → Collecting b pred graph r earlier found (r ∷ []) [] [] mark'
    collect_begin here others = record {
      sweep = s.sweep;
      collect = collect_root pred root_new (λ y m. inl Memᴰ.not-nil);
      once = (root_new, s.once);
      low = more_low here others two l s.low;
      started = λ v m. absurd (Memᴰ.not-nil m);
      ahead = λ y m. absurd (Memᴰ.not-nil m);
      outside = more_outside here others two s.outside;
      unmet = more_unmet here others two s.unmet;
      met = more_met here others two s.met;
      marked = more_marked here others two s.low s.marked;
    }

  -- the row of a member, u, is begun
  pub collect_row : {r : ℕ} {earlier found members begun : List ℕ} {mark : ℕ → ℕ} → Collecting b pred graph r earlier found members begun [] mark → (u : ℕ) → Mem u members
      → (row : List ℕ) → ((y : ℕ) → Mem u (pred y) → Mem y row) → ((y : ℕ) → Mem y row → (y < b) × (Is (graph y) → Mem u (pred y)))
      → Collecting b pred graph r earlier found members (u ∷ begun) row mark
  collect_row {r} {earlier} {found} {members} {begun} {mark} c u m row all edges = record {
    sweep = c.sweep;
    collect = collect_skip pred c.collect (λ x y i k p. inr (pend x y k p (ℕ_discrete x u)));
    once = c.once;
    low = c.low;
    started = λ v i. started v (Memᴰ.cases_cons i);
    ahead = λ y i. ((edges y i).0, λ g. (u, m, (edges y i).1 g));
    outside = c.outside;
    unmet = c.unmet;
    met = c.met;
    marked = c.marked;
  }
    where
      started : (v : ℕ) → (v ≡ u) ⊎ Mem v begun → Mem v members
      started v (inl q) = subst (λ (z : ℕ). Mem z members) (sym q) m
      started v (inr i) = c.started v i

      pend : (x y : ℕ) → Mem x (pred y) → (Mem x begun → ⊥) ⊎ Mem y [] → Dec (x ≡ u) → (Mem x (u ∷ begun) → ⊥) ⊎ Mem y row
      pend x y k (inr i) d = absurd (Memᴰ.not-nil i)
      pend x y k (inl n) (yes q) = inr (all y (subst (λ (z : ℕ). Mem z (pred y)) q k))
      pend x y k (inl n) (no d) = inl (λ i. go (Memᴰ.cases_cons i))
        where
          go : (x ≡ u) ⊎ Mem x begun → ⊥
          go (inl q) = d q
          go (inr i) = n i

  -- ---- the next entry, y

  module _ {r : ℕ} {earlier found members begun : List ℕ} {y : ℕ} {todo : List ℕ} {mark : ℕ → ℕ} (c : Collecting b pred graph r earlier found members begun (y ∷ todo) mark) where
    pub entry_low : y < b
    entry_low = (c.ahead y (Memᴰ.head refl)).0

    later : (x z : ℕ) → (Mem x begun → ⊥) ⊎ Mem z (y ∷ todo) → (z ≡ y) ⊎ ((Mem x begun → ⊥) ⊎ Mem z todo)
    later x z (inl n) = inr (inl n)
    later x z (inr m) = go (Memᴰ.cases_cons m)
      where
        go : (z ≡ y) ⊎ Mem z todo → (z ≡ y) ⊎ ((Mem x begun → ⊥) ⊎ Mem z todo)
        go (inl q) = inl q
        go (inr i) = inr (inr i)

    -- it is met already, or outside
    pub entry_met : mark y ≢ 2 → Collecting b pred graph r earlier found members begun todo mark
    entry_met n = record {
      sweep = c.sweep;
      collect = collect_skip pred c.collect (λ x z i k p. at x z k (later x z p));
      once = c.once;
      low = c.low;
      started = c.started;
      ahead = λ z i. c.ahead z (Memᴰ.tail i);
      outside = c.outside;
      unmet = c.unmet;
      met = c.met;
      marked = c.marked;
    }
      where
        known : Is (graph y) → Mem y found ⊎ Mem y members
        known g = go (c.unmet y entry_low g)
          where
            swap : Mem y members ⊎ Mem y found → Mem y found ⊎ Mem y members
            swap (inl m) = inr m
            swap (inr m) = inl m

            go : (mark y ≡ 2) ⊎ (mark y ≡ 3) → Mem y found ⊎ Mem y members
            go (inl e) = absurd (n e)
            go (inr e) = swap (Memᴰ.append_cases members (c.met y entry_low e))

        at : (x z : ℕ) → Mem x (pred z) → (z ≡ y) ⊎ ((Mem x begun → ⊥) ⊎ Mem z todo) → (Mem z found ⊎ Mem z members) ⊎ ((Mem x begun → ⊥) ⊎ Mem z todo)
        at x z k (inl q) = inl (subst (λ (v : ℕ). Mem v found ⊎ Mem v members) (sym q) (known (subst (λ (v : ℕ). Is (graph v)) q (within.to x z k).0)))
        at x z k (inr p) = inr p

    module _ (two : mark y ≡ 2) where
      in_graph : Is (graph y)
      in_graph = go (bool_cases (graph y))
        where
          go : (graph y ≡ true) ⊎ (graph y ≡ false) → Is (graph y)
          go (inl g) = g
          go (inr g) = let z = c.outside y entry_low g in absurd (omega arith)

      new : Mem y (members ++ found) → ⊥
      new m = let k = c.marked y m in omega arith

      pub entry_room : length (members ++ found) < b
      entry_room = met_room y (members ++ found) c.once c.low entry_low new

      -- it is new, and joins the members
      pub entry_fresh : {mark' : ℕ → ℕ} → mark' y ≡ 3 → ((v : ℕ) → v < b → v ≢ y → mark' v ≡ mark v) → Collecting b pred graph r earlier found (y ∷ members) begun todo mark'
      entry_fresh here others =
          let a = (c.ahead y (Memᴰ.head refl)).1 in_graph in
          record {
            sweep = c.sweep;
            collect = collect_add pred a.0 y c.sweep c.collect a.1 a.2 (λ m. new (Memᴰ.append_right members m)) (λ m. new (Memᴰ.append_left found m))
                (λ w m. inl (λ i. new (Memᴰ.append_left found (c.started y i)))) (λ v w m p. later v w p);
            once = (new, c.once);
            low = more_low here others two entry_low c.low;
            started = λ v i. Memᴰ.tail (c.started v i);
            ahead = λ z i. let k = c.ahead z (Memᴰ.tail i) in (k.0, λ g. let j = k.1 g in (j.0, Memᴰ.tail j.1, j.2));
            outside = more_outside here others two c.outside;
            unmet = more_unmet here others two c.unmet;
            met = more_met here others two c.met;
            marked = more_marked here others two c.low c.marked;
          }

  -- ---- every member's row is followed

  module _ {r : ℕ} {earlier found members begun : List ℕ} {mark : ℕ → ℕ} (c : Collecting b pred graph r earlier found members begun [] mark) (all : (v : ℕ) → Mem v members → Mem v begun) where
    over : (x y : ℕ) → Mem x members → (Mem x begun → ⊥) ⊎ Mem y [] → ⊥
    over x y m (inl n) = n (all x m)
    over x y m (inr i) = Memᴰ.not-nil i

    pub collect_end : Swept b pred graph earlier (members ++ found) mark
    collect_end = record {
      sweep = sweep_next pred c.sweep c.collect over (λ x. (λ m. go x (Memᴰ.append_cases members m), λ m. back x m));
      once = c.once;
      low = c.low;
      outside = c.outside;
      unmet = c.unmet;
      met = c.met;
      marked = c.marked;
    }
      where
        go : (x : ℕ) → Mem x members ⊎ Mem x found → Mem x found ⊎ Mem x members
        go x (inl m) = inr m
        go x (inr m) = inl m

        back : (x : ℕ) → Mem x found ⊎ Mem x members → Mem x (members ++ found)
        back x (inl m) = Memᴰ.append_right members m
        back x (inr m) = Memᴰ.append_left found m

    pub members_cyclic : (x : ℕ) → Mem x members → (Mem x (pred x) → ⊥) → Walk pred x x ↔ (1 < length members)
    members_cyclic x m loop = component_marks pred c.sweep c.collect over x m loop
