-- The search for a cone, over lists: its start (`find_start`), a node that is found already or new (`find_skip`, `find_add`, with room by
-- `find_room`), the next producer and the leaves of the next node (`find_producer`, `find_leaves`), and its end (`find_end`): what is found is the cone.
use mathlib.Core.Path.{◌≡◌, refl, sym, ap, ◌∙◌, subst}
use mathlib.Core.Logic.{◌⊎◌, inl, inr, ◌≢◌}
use mathlib.Core.Bool.{Bool, true, false, cond}
use mathlib.Core.List.Memᴰ
use mathlib.Core.List.{List, [], ◌∷◌, ◌++◌}
use Prim.Native.Nat.{ℕ, suc, ◌≤◌, ◌<◌}
use native.Mathlib.Nat.{not-suc-le-zero}
use native.Mathlib.Omega.{arith}
use native.Mathlib.Decide.{ℕ_discrete}
use lib.ListN.{length}
use Rattle.theory.specs.Sets.{Is, Set, Mem, any, member}
use Rattle.theory.specs.Counts.{Distinct}
use Rattle.theory.specs.Theory.{Theory, WellFormed, joins}
use Rattle.theory.specs.Edges.{cone}
use Rattle.theory.proofs.SetLaws.{bool_cases, same_test, mem_member, member_mem}
use Rattle.theory.proofs.CountLaws.{pigeonhole}
use Rattle.theory.proofs.EdgeLaws.{cone_leaf, cone_bound, cone_least}
use Rattle.cones.specs.Finding.{Due, Finding}

distinct_last : (l : List ℕ) (x : ℕ) → Distinct l → (Mem x l → ⊥) → Distinct (l ++ (x ∷ []))
distinct_last [] x d n = (Memᴰ.not-nil, tt)
distinct_last (y ∷ l) x d n = ((λ m. go (Memᴰ.append_cases l m)), distinct_last l x d.1 (λ m. n (Memᴰ.tail m)))
  where
    go : Mem y l ⊎ Mem y (x ∷ []) → ⊥
    go (inl m) = d.0 m
    go (inr m) = n (Memᴰ.head (sym (Memᴰ.eq_of_singleton m)))

module _ {th : Theory} {wanted : Set} where
  pub find_start : {mark : ℕ → ℕ} → ((n : ℕ) → n < th.nodes → mark n ≡ 0) → Finding th wanted 0 [] [] [] mark
  unfolding member any
  find_start zeros = record {
    once = tt;
    sound = λ n m. absurd (Memᴰ.not-nil m);
    ahead = λ n m. absurd (Memᴰ.not-nil m);
    due = λ n d. absurd (none n d);
    marks = zeros;
  }
    where
      none : (n : ℕ) → Due th wanted 0 [] n → ⊥
      none n (inl (q, l, e, h)) = not-suc-le-zero l
      none n (inr (m, i, k)) = Memᴰ.not-nil i

  -- ---- the next node, y

  module _ {p : ℕ} {found begun : List ℕ} {y : ℕ} {todo : List ℕ} {mark : ℕ → ℕ} (f : Finding th wanted p found begun (y ∷ todo) mark) where
    pub find_low : y < th.nodes
    find_low = cone_bound th wanted y (f.ahead y (Memᴰ.head refl))

    -- once it is found, the others are left to come
    later : {found' : List ℕ} → ((n : ℕ) → Mem n found → Mem n found') → Mem y found' → (n : ℕ) → Mem n found ⊎ Mem n (y ∷ todo) → Mem n found' ⊎ Mem n todo
    later {found'} keep here n (inl m) = inl (keep n m)
    later {found'} keep here n (inr m) = go (Memᴰ.cases_cons m)
      where
        go : (n ≡ y) ⊎ Mem n todo → Mem n found' ⊎ Mem n todo
        go (inl e) = inl (subst (λ (z : ℕ). Mem z found') (sym e) here)
        go (inr m) = inr m

    pub find_mark : mark y ≤ 1
    find_mark = let k = f.marks y find_low in go (member y found) k
      where
        go : (t : Bool) → mark y ≡ cond t 1 0 → mark y ≤ 1
        go true e = omega arith
        go false e = omega arith

    -- it is found already
    pub find_skip : mark y ≡ 1 → {mark' : ℕ → ℕ} → mark' y ≡ 1 → ((n : ℕ) → n < th.nodes → n ≢ y → mark' n ≡ mark n) → Finding th wanted p found begun todo mark'
    find_skip h {mark'} here others = record {
      once = f.once;
      sound = f.sound;
      ahead = λ n m. f.ahead n (Memᴰ.tail m);
      due = λ n d. later (λ x m. m) (known (bool_cases (member y found))) n (f.due n d);
      marks = λ n l. same n l (ℕ_discrete n y) ∙ f.marks n l;
    }
      where
        same : (n : ℕ) → n < th.nodes → Dec (n ≡ y) → mark' n ≡ mark n
        same n l (yes e) = subst (λ (z : ℕ). mark' z ≡ mark z) (sym e) (here ∙ sym h)
        same n l (no d) = others n l d

        known : (member y found ≡ true) ⊎ (member y found ≡ false) → Mem y found
        known (inl e) = member_mem y found e
        known (inr e) = let k = f.marks y find_low ∙ ap (λ (t : Bool). cond t 1 0) e in absurd (omega arith)

    module _ (zero' : mark y ≡ 0) where
      new : Mem y found → ⊥
      new m = let k = f.marks y find_low ∙ ap (λ (t : Bool). cond t 1 0) (mem_member m) in omega arith

      pub find_room : length found < th.nodes
      find_room = pigeonhole th.nodes (y ∷ found) (new, f.once) (λ n m. go n (Memᴰ.cases_cons m))
        where
          go : (n : ℕ) → (n ≡ y) ⊎ Mem n found → n < th.nodes
          go n (inl e) = subst (λ (z : ℕ). z < th.nodes) (sym e) find_low
          go n (inr m) = cone_bound th wanted n (f.sound n m)

      -- it is new, and marked
      pub find_add : {mark' : ℕ → ℕ} → mark' y ≡ 1 → ((n : ℕ) → n < th.nodes → n ≢ y → mark' n ≡ mark n) → Finding th wanted p (found ++ (y ∷ [])) begun todo mark'
      find_add {mark'} here others = record {
        once = distinct_last found y f.once new;
        sound = λ n m. sound n (Memᴰ.append_cases found m);
        ahead = λ n m. f.ahead n (Memᴰ.tail m);
        due = λ n d. later (λ x m. Memᴰ.append_left (y ∷ []) m) last n (f.due n d);
        marks = λ n l. marks n l (ℕ_discrete n y);
      }
        where
          last : Mem y (found ++ (y ∷ []))
          last = Memᴰ.append_right found (Memᴰ.head refl)

          sound : (n : ℕ) → Mem n found ⊎ Mem n (y ∷ []) → Is (cone th wanted n)
          sound n (inl m) = f.sound n m
          sound n (inr m) = subst (λ (z : ℕ). Is (cone th wanted z)) (sym (Memᴰ.eq_of_singleton m)) (f.ahead y (Memᴰ.head refl))

          -- another node is in the longer list exactly if it was in the list
          before : (n : ℕ) → n ≢ y → Mem n found ⊎ Mem n (y ∷ []) → Is (member n found)
          before n d (inl m) = mem_member m
          before n d (inr m) = absurd (d (Memᴰ.eq_of_singleton m))

          marks : (n : ℕ) → n < th.nodes → Dec (n ≡ y) → mark' n ≡ cond (member n (found ++ (y ∷ []))) 1 0
          marks n l (yes e) =
              subst (λ (z : ℕ). mark' z ≡ cond (member z (found ++ (y ∷ []))) 1 0) (sym e)
              (here ∙ ap (λ (t : Bool). cond t 1 0) (sym (mem_member last)))
          marks n l (no d) =
              others n l d ∙ f.marks n l
              ∙ ap (λ (t : Bool). cond t 1 0)
              (same_test (member n found) (member n (found ++ (y ∷ []))) (λ h. mem_member (Memᴰ.append_left (y ∷ []) (member_mem n found h)))
              (λ h. before n d (Memᴰ.append_cases found (member_mem n (found ++ (y ∷ [])) h))))

  -- ---- nothing is left to come

  module _ {p : ℕ} {found begun : List ℕ} {mark : ℕ → ℕ} (f : Finding th wanted p found begun [] mark) where
    -- more nodes become due, and come next
    more : (p' : ℕ) (begun' todo : List ℕ) → ((n : ℕ) → Mem n todo → Is (cone th wanted n)) → ((n : ℕ) → Due th wanted p' begun' n → Due th wanted p begun n ⊎ Mem n todo)
        → Finding th wanted p' found begun' todo mark
    more p' begun' todo ahead new = record {
      once = f.once;
      sound = f.sound;
      ahead = ahead;
      due = λ n d. go n (new n d);
      marks = f.marks;
    }
      where
        old : (n : ℕ) → Mem n found ⊎ Mem n [] → Mem n found ⊎ Mem n todo
        old n (inl m) = inl m
        old n (inr m) = absurd (Memᴰ.not-nil m)

        go : (n : ℕ) → Due th wanted p begun n ⊎ Mem n todo → Mem n found ⊎ Mem n todo
        go n (inl d) = old n (f.due n d)
        go n (inr m) = inr m

    -- producer p: its body comes next, if it has one and is wanted
    pub find_producer : (todo : List ℕ) → ((n : ℕ) → Mem n todo → Is (cone th wanted n)) → ((n : ℕ) → th.body p ≡ suc n → Is (wanted p) → Mem n todo)
        → Finding th wanted (suc p) found begun todo mark
    find_producer todo ahead next = more (suc p) begun todo ahead (λ n d. due n d)
      where
        at : (n q : ℕ) → q < suc p → th.body q ≡ suc n → Is (wanted q) → Dec (q ≡ p) → Due th wanted p begun n ⊎ Mem n todo
        at n q l e h (yes s) = inr (next n (subst (λ (z : ℕ). th.body z ≡ suc n) s e) (subst (λ (z : ℕ). Is (wanted z)) s h))
        at n q l e h (no d) = inl (inl (q, omega arith, e, h))

        due : (n : ℕ) → Due th wanted (suc p) begun n → Due th wanted p begun n ⊎ Mem n todo
        due n (inl (q, l, e, h)) = at n q l e h (ℕ_discrete q p)
        due n (inr d) = inl (inr d)

    -- the leaves of a node that is found, u, come next
    pub find_leaves : WellFormed th → (u : ℕ) → Mem u found → ((n : ℕ) → Mem n (th.leaves u) → Is (joins (th.kind u))) → Finding th wanted p found (begun ++ (u ∷ [])) (th.leaves u) mark
    find_leaves ok u i only = more p (begun ++ (u ∷ [])) (th.leaves u) (λ n m. ahead n m) (λ n d. due n d)
      where
        ahead : (n : ℕ) → Mem n (th.leaves u) → Is (cone th wanted n)
        ahead n m =
            let h = cone_bound th wanted u (f.sound u i) in
            let l = ok.leaf_low u n h m in
            cone_leaf th wanted n u h (omega arith) (f.sound u i) (only n m) m

        at : (n m : ℕ) → Mem n (th.leaves m) → Mem m begun ⊎ Mem m (u ∷ []) → Due th wanted p begun n ⊎ Mem n (th.leaves u)
        at n m k (inl j) = inl (inr (m, j, k))
        at n m k (inr j) = inr (subst (λ (z : ℕ). Mem n (th.leaves z)) (Memᴰ.eq_of_singleton j) k)

        due : (n : ℕ) → Due th wanted p (begun ++ (u ∷ [])) n → Due th wanted p begun n ⊎ Mem n (th.leaves u)
        due n (inl d) = inl (inl d)
        due n (inr (m, j, k)) = at n m k (Memᴰ.append_cases begun j)

  -- the marks are read elsewhere
  pub find_same : {p : ℕ} {found begun todo : List ℕ} {mark mark' : ℕ → ℕ} → Finding th wanted p found begun todo mark → ((n : ℕ) → n < th.nodes → mark' n ≡ mark n) → Finding th wanted p found begun todo mark'
  find_same f same = record { once = f.once; sound = f.sound; ahead = f.ahead; due = f.due; marks = λ n l. same n l ∙ f.marks n l }

  pub find_bound : {p : ℕ} {found begun todo : List ℕ} {mark : ℕ → ℕ} → Finding th wanted p found begun todo mark → (n : ℕ) → Mem n found → n < th.nodes
  find_bound f n m = cone_bound th wanted n (f.sound n m)

  -- every producer has been looked at, and the leaves of every node found: the nodes found are the cone
  pub find_end : {found : List ℕ} {mark : ℕ → ℕ} → Finding th wanted th.producers found found [] mark → (n : ℕ) → member n found ≡ cone th wanted n
  find_end {found} f n =
      same_test (member n found) (cone th wanted n) (λ h. f.sound n (member_mem n found h))
      (cone_least th wanted (λ m. member m found) (λ p m l e h. in_found m (inl (p, l, e, h))) (λ m k l h j i. in_found m (inr (k, member_mem k found h, i))) n)
    where
      in_found : (m : ℕ) → Due th wanted th.producers found m → Is (member m found)
      in_found m d = go (f.due m d)
        where
          go : Mem m found ⊎ Mem m [] → Is (member m found)
          go (inl i) = mem_member i
          go (inr i) = absurd (Memᴰ.not-nil i)
