-- A chain that meets no link twice ends within K links (`once_ends`), since there are K links. It is followed link by link: `once_link`, `once_next`, `chain_end` and
-- `chain_step` are all that a follower needs, and the chain's length falls at each link. Where the links stay within the graph, the test of refusal 14 says whether a
-- chain comes back to one of its own links (`comes_back_lem`), and one that does not meets no link twice (`clear_once`). Links that only point upward never come back (`upward_clear`).
use mathlib.Core.Path.{◌≡◌, refl, sym, ap, ◌∙◌, subst}
use mathlib.Core.Logic.{◌⊎◌, inl, inr, ◌↔◌}
use mathlib.Core.Bool.{Bool, true, false, not, cond}
use mathlib.Core.List.Memᴰ
use mathlib.Core.List.{List, [], ◌∷◌}
use Prim.Native.Nat.{ℕ, zero, suc, ◌+◌, ◌-◌, ◌≤◌, ◌<◌}
use native.Mathlib.Nat.{not-suc-le-zero}
use native.Mathlib.Decide.{ℕ_discrete}
use native.Mathlib.Omega.{arith}
use borrow.Author.Tests.{eq-eqb, ne_eqb}
use lib.Dec.{eqb}
use lib.ListN.{length, get_or}
use Rattle.theory.specs.Sets.{Is, Mem}
use Rattle.theory.specs.Counts.{Distinct}
use Rattle.theory.specs.Words.{value_of, next_of, chain_in, chain}
use Rattle.theory.specs.Links.{after, link_after, ComesBack, MeetsOnce, comes_back}
use Rattle.theory.proofs.SetLaws.{clash, mem_dec}
use Rattle.theory.proofs.CountLaws.{pigeonhole}

-- ---- among the values of a function at the first n numbers two are the same, or all are different

module _ (f : ℕ → ℕ) where
  unfoldable values : ℕ → List ℕ
  values zero = []
  values (suc n) = f n ∷ values n

  values_length : (n : ℕ) → length (values n) ≡ n
  unfolding values
  values_length zero = refl
  values_length (suc n) = ap suc (values_length n)

  value_at : (n x : ℕ) → Mem x (values n) → (i : ℕ) × (i < n) × (f i ≡ x)
  unfolding values
  value_at zero x m = elim m [ ]
  value_at (suc n) x m = go (Memᴰ.cases_cons m) (λ (h : Mem x (values n)). value_at n x h)
    where
      go : (x ≡ f n) ⊎ Mem x (values n) → (Mem x (values n) → (i : ℕ) × (i < n) × (f i ≡ x)) → (i : ℕ) × (i < suc n) × (f i ≡ x)
      go (inl e) ih = (n, omega arith, sym e)
      go (inr h) ih = let r = ih h in let k : r.0 < n = r.1 in (r.0, omega arith, r.2)

  abbrev Twice : ℕ → Type 0
  Twice n = (i : ℕ) × (j : ℕ) × (i < j) × (j < n) × (f j ≡ f i)

  repeats : (n : ℕ) → Twice n ⊎ Distinct (values n)
  unfolding values
  repeats zero = inr tt
  repeats (suc n) = go (repeats n) (mem_dec (f n) (values n))
    where
      go : Twice n ⊎ Distinct (values n) → Mem (f n) (values n) ⊎ (Mem (f n) (values n) → ⊥) → Twice (suc n) ⊎ Distinct (f n ∷ values n)
      go (inl t) m = let k : t.1 < n = t.3 in inl (t.0, t.1, t.2, omega arith, t.4)
      go (inr d) (inl m) = let r = value_at n (f n) m in inl (r.0, n, r.1, omega arith, sym r.2)
      go (inr d) (inr m) = inr (m, d)

module _ (ws : List ℕ) where
  -- ---- positions of a chain

  after_end : after ws 0 ≡ 0
  unfolding after
  after_end = refl

  after_next : {l : ℕ} → (l ≡ 0 → ⊥) → after ws l ≡ next_of ws l
  unfolding after
  after_next {l} z = rw (ne_eqb l 0 z) refl

  -- position k, counted from position i on
  after_more : (i j k l : ℕ) → i + j ≡ k → link_after ws k l ≡ link_after ws j (link_after ws i l)
  unfolding link_after
  after_more zero j k l e = let d : k ≡ j = omega arith in ap (λ (x : ℕ). link_after ws x l) d
  after_more (suc i) j zero l e = absurd (omega arith)
  after_more (suc i) j (suc k) l e = after_more i j k (after ws l) (omega arith)

  after_one : (i l : ℕ) → link_after ws (suc i) l ≡ after ws (link_after ws i l)
  unfolding link_after
  after_one i l = after_more i 1 (suc i) l (omega arith)

  pub after_none : (i : ℕ) → link_after ws i 0 ≡ 0
  unfolding link_after
  after_none zero = refl
  after_none (suc i) = ap (link_after ws i) after_end ∙ after_none i

  pub after_step : (i j l : ℕ) → (l ≡ 0 → ⊥) → i + 1 ≡ j → link_after ws j l ≡ link_after ws i (next_of ws l)
  unfolding link_after
  after_step i j l z e = after_more 1 i j l (omega arith) ∙ ap (link_after ws i) (after_next z)

  -- past its end a chain stays there
  pub past_end : (i j l : ℕ) → link_after ws i l ≡ 0 → i ≤ j → link_after ws j l ≡ 0
  past_end i j l e h = after_more i (j - i) j l (omega arith) ∙ ap (link_after ws (j - i)) e ∙ after_none (j - i)

  -- a chain that ends has no circle
  round : (d x : ℕ) → 0 < d → link_after ws d x ≡ x → (m : ℕ) → (k : ℕ) × (m ≤ k) × (link_after ws k x ≡ x)
  unfolding link_after
  round d x p e zero = (0, omega arith, refl)
  round d x p e (suc m) =
      let r = round d x p e m in
      let h : m ≤ r.0 = r.1 in
      (r.0 + d, omega arith, after_more r.0 d (r.0 + d) x refl ∙ ap (link_after ws d) r.2 ∙ e)

  no_circle : (n i j l : ℕ) → link_after ws n l ≡ 0 → i < j → link_after ws j l ≡ link_after ws i l → link_after ws i l ≡ 0
  no_circle n i j l e h s =
      let x = link_after ws i l in
      let r = round (j - i) x (omega arith) (sym (after_more i (j - i) j l (omega arith)) ∙ s) n in
      let k : n ≤ r.0 = r.1 in
      let q : n ≤ i + r.0 = omega arith in
      sym r.2 ∙ sym (after_more i r.0 (i + r.0) l refl) ∙ past_end n (i + r.0) l e q

  -- ---- the test of refusal 14

  pub back_endless : {l : ℕ} → ComesBack ws l → (n : ℕ) → link_after ws n l ≡ 0 → ⊥
  back_endless {l} b n e = b.some (no_circle n b.first b.again l e b.later b.same)

  -- more than K links, all of them links of the graph: one of them comes twice
  back_found : {l : ℕ} → ((i : ℕ) → link_after ws i l ≤ get_or ws 4 0) → (link_after ws (get_or ws 4 0) l ≡ 0 → ⊥) → ComesBack ws l
  unfolding values
  back_found {l} inside z = go (repeats f (suc (get_or ws 4 0)))
    where
      f : ℕ → ℕ
      f i = link_after ws i l

      some : (i : ℕ) → i ≤ get_or ws 4 0 → link_after ws i l ≡ 0 → ⊥
      some i h e = z (past_end i (get_or ws 4 0) l e h)

      low : (x : ℕ) → (x ≡ 0) ⊎ Mem x (values f (suc (get_or ws 4 0))) → x < suc (get_or ws 4 0)
      low x (inl e) = omega arith
      low x (inr m) = let r = value_at f (suc (get_or ws 4 0)) x m in let k = inside r.0 in let e = r.2 in omega arith

      zero_out : Mem 0 (values f (suc (get_or ws 4 0))) → ⊥
      zero_out m = let r = value_at f (suc (get_or ws 4 0)) 0 m in let k : r.0 < suc (get_or ws 4 0) = r.1 in some r.0 (omega arith) r.2

      go : Twice f (suc (get_or ws 4 0)) ⊎ Distinct (values f (suc (get_or ws 4 0))) → ComesBack ws l
      go (inl t) = let k : t.1 < suc (get_or ws 4 0) = t.3 in let h : t.0 < t.1 = t.2 in record { first = t.0; again = t.1; later = t.2; some = some t.0 (omega arith); same = t.4 }
      go (inr d) =
          let n = values_length f (suc (get_or ws 4 0)) in
          let p = pigeonhole (suc (get_or ws 4 0)) (0 ∷ values f (suc (get_or ws 4 0))) (zero_out, d) (λ x m. low x (Memᴰ.cases_cons m)) in
          absurd (omega arith)

  -- where every link that the chain meets is one of the graph's, the test is whether it comes back to one of its own links
  pub comes_back_lem : {l : ℕ} → ((i : ℕ) → link_after ws i l ≤ get_or ws 4 0) → Is (comes_back ws l) ↔ ComesBack ws l
  unfolding comes_back
  comes_back_lem {l} inside = ((λ t. back_found inside (λ e. clash t (ap not (eq-eqb (link_after ws (get_or ws 4 0) l) 0 e)))), λ b. ap not (ne_eqb (link_after ws (get_or ws 4 0) l) 0 (back_endless b (get_or ws 4 0))))

  pub ends_clear : (l : ℕ) → link_after ws (get_or ws 4 0) l ≡ 0 → comes_back ws l ≡ false
  unfolding comes_back
  ends_clear l e = ap not (eq-eqb (link_after ws (get_or ws 4 0) l) 0 e)

  pub runs_back : (l : ℕ) → (link_after ws (get_or ws 4 0) l ≡ 0 → ⊥) → comes_back ws l ≡ true
  unfolding comes_back
  runs_back l z = ap not (ne_eqb (link_after ws (get_or ws 4 0) l) 0 z)

  pub clear_once : {l : ℕ} → ((i : ℕ) → link_after ws i l ≤ get_or ws 4 0) → comes_back ws l ≡ false → MeetsOnce ws l
  clear_once {l} inside c = record { inside = inside; once = λ i j h s. no_circle (get_or ws 4 0) i j l (ends (ℕ_discrete (link_after ws (get_or ws 4 0) l) 0)) h s }
    where
      ends : Dec (link_after ws (get_or ws 4 0) l ≡ 0) → link_after ws (get_or ws 4 0) l ≡ 0
      ends (yes e) = e
      ends (no z) = clash (runs_back l z) c

  -- ---- what rows 4 to 6 leave: every first link and every next is at most K

  module _ (nexts : (l : ℕ) → 0 < l → l ≤ get_or ws 4 0 → next_of ws l ≤ get_or ws 4 0) where
    pub links_inside : {l : ℕ} → l ≤ get_or ws 4 0 → (i : ℕ) → link_after ws i l ≤ get_or ws 4 0
    unfolding link_after
    links_inside {l = l} h zero = h
    links_inside {l = l} h (suc i) = links_inside {l = after ws l} (go (ℕ_discrete l 0)) i
      where
        go : Dec (l ≡ 0) → after ws l ≤ get_or ws 4 0
        go (yes e) = let k = ap (after ws) e ∙ after_end in omega arith
        go (no z) = rw (after_next z) (nexts l (omega arith) h)

  -- each next is 0 or a later link: no chain comes back
  module _ (up : (l : ℕ) → 0 < l → l ≤ get_or ws 4 0 → (next_of ws l ≡ 0) ⊎ ((l < next_of ws l) × (next_of ws l ≤ get_or ws 4 0))) where
    pub upward_nexts : (l : ℕ) → 0 < l → l ≤ get_or ws 4 0 → next_of ws l ≤ get_or ws 4 0
    upward_nexts l p h = go (up l p h)
      where
        go : (next_of ws l ≡ 0) ⊎ ((l < next_of ws l) × (next_of ws l ≤ get_or ws 4 0)) → next_of ws l ≤ get_or ws 4 0
        go (inl e) = omega arith
        go (inr u) = u.1

    rises : {l : ℕ} → l ≤ get_or ws 4 0 → (i : ℕ) → (link_after ws i l ≡ 0) ⊎ (i < link_after ws i l)
    unfolding link_after
    rises {l} h zero = go (ℕ_discrete l 0)
      where
        go : Dec (l ≡ 0) → (l ≡ 0) ⊎ (0 < l)
        go (yes e) = inl e
        go (no z) = inr (omega arith)
    rises {l} h (suc i) = go (rises h i)
      where
        step : 0 < link_after ws i l → (next_of ws (link_after ws i l) ≡ 0) ⊎ ((link_after ws i l < next_of ws (link_after ws i l)) × (next_of ws (link_after ws i l) ≤ get_or ws 4 0))
            → i < link_after ws i l → (link_after ws (suc i) l ≡ 0) ⊎ (suc i < link_after ws (suc i) l)
        step p (inl e) k = inl (after_one i l ∙ after_next (λ z. omega arith) ∙ e)
        step p (inr u) k = let e = after_one i l ∙ after_next (λ z. omega arith) in let m : link_after ws i l < next_of ws (link_after ws i l) = u.0 in inr (omega arith)

        go : (link_after ws i l ≡ 0) ⊎ (i < link_after ws i l) → (link_after ws (suc i) l ≡ 0) ⊎ (suc i < link_after ws (suc i) l)
        go (inl e) = inl (past_end i (suc i) l e (omega arith))
        go (inr k) = step (omega arith) (up (link_after ws i l) (omega arith) (links_inside upward_nexts h i)) k

    pub upward_clear : {l : ℕ} → l ≤ get_or ws 4 0 → comes_back ws l ≡ false
    upward_clear {l} h = ends_clear l (go (rises h (get_or ws 4 0)))
      where
        go : (link_after ws (get_or ws 4 0) l ≡ 0) ⊎ (get_or ws 4 0 < link_after ws (get_or ws 4 0) l) → link_after ws (get_or ws 4 0) l ≡ 0
        go (inl e) = e
        go (inr k) = let m = links_inside upward_nexts h (get_or ws 4 0) in absurd (omega arith)

  -- ---- a chain that meets no link twice

  pub once_ends : {l : ℕ} → MeetsOnce ws l → link_after ws (get_or ws 4 0) l ≡ 0
  once_ends {l} m = go (ℕ_discrete (link_after ws (get_or ws 4 0) l) 0)
    where
      go : Dec (link_after ws (get_or ws 4 0) l ≡ 0) → link_after ws (get_or ws 4 0) l ≡ 0
      go (yes e) = e
      go (no z) = let b = back_found m.inside z in absurd (b.some (m.once b.first b.again b.later b.same))

  pub once_never_back : {l : ℕ} → MeetsOnce ws l → ComesBack ws l → ⊥
  once_never_back m b = back_endless b (get_or ws 4 0) (once_ends m)

  pub once_end : MeetsOnce ws 0
  once_end = record { inside = λ i. let e = after_none i in omega arith; once = λ i j h s. after_none i }

  pub once_link : {l : ℕ} → MeetsOnce ws l → l ≤ get_or ws 4 0
  unfolding link_after
  once_link m = m.inside 0

  pub once_next : {l : ℕ} → MeetsOnce ws l → (l ≡ 0 → ⊥) → MeetsOnce ws (next_of ws l)
  unfolding link_after
  once_next {l} m z = subst (λ (x : ℕ). MeetsOnce ws x) (after_next z) (record { inside = λ i. m.inside (suc i); once = λ i j h s. m.once (suc i) (suc j) (omega arith) s })

  -- ---- the values along it

  in_end : (f : ℕ) → chain_in ws f 0 ≡ []
  unfolding chain_in
  in_end zero = refl
  in_end (suc f) = refl

  in_step : (f l : ℕ) → (l ≡ 0 → ⊥) → chain_in ws (suc f) l ≡ value_of ws l ∷ chain_in ws f (next_of ws l)
  unfolding chain_in
  in_step f l h = ap (λ (b : Bool). cond b [] (value_of ws l ∷ chain_in ws f (next_of ws l))) (ne_eqb l 0 h)

  -- fuel past the end changes nothing
  in_same : (n l : ℕ) → link_after ws n l ≡ 0 → (j k : ℕ) → n ≤ j → n ≤ k → chain_in ws j l ≡ chain_in ws k l
  unfolding link_after
  in_same zero l e j k p q = ap (chain_in ws j) e ∙ in_end j ∙ sym (in_end k) ∙ sym (ap (chain_in ws k) e)
  in_same (suc n) l e zero k p q = absurd (not-suc-le-zero p)
  in_same (suc n) l e (suc j) zero p q = absurd (not-suc-le-zero q)
  in_same (suc n) l e (suc j) (suc k) p q = go (ℕ_discrete l 0) (λ (d : link_after ws n (next_of ws l) ≡ 0). in_same n (next_of ws l) d j k (omega arith) (omega arith))
    where
      go : Dec (l ≡ 0) → (link_after ws n (next_of ws l) ≡ 0 → chain_in ws j (next_of ws l) ≡ chain_in ws k (next_of ws l)) → chain_in ws (suc j) l ≡ chain_in ws (suc k) l
      go (yes d) ih = ap (chain_in ws (suc j)) d ∙ in_end (suc j) ∙ sym (in_end (suc k)) ∙ sym (ap (chain_in ws (suc k)) d)
      go (no z) ih = in_step j l z ∙ ap (λ (x : List ℕ). value_of ws l ∷ x) (ih (ap (link_after ws n) (sym (after_next z)) ∙ e)) ∙ sym (in_step k l z)

  pub chain_end : chain ws 0 ≡ []
  unfolding chain
  chain_end = in_end (get_or ws 4 0)

  pub chain_step : {l : ℕ} → MeetsOnce ws l → (l ≡ 0 → ⊥) → chain ws l ≡ value_of ws l ∷ chain ws (next_of ws l)
  unfolding chain
  chain_step {l} m z = in_same (get_or ws 4 0) l (once_ends m) (get_or ws 4 0) (suc (get_or ws 4 0)) (omega arith) (omega arith) ∙ in_step (get_or ws 4 0) l z

  pub chain_falls : {l : ℕ} → MeetsOnce ws l → (l ≡ 0 → ⊥) → length (chain ws (next_of ws l)) < length (chain ws l)
  chain_falls {l} m z = let h = ap length (chain_step m z) in omega arith

  pub chain_few : (l : ℕ) → length (chain ws l) ≤ get_or ws 4 0
  unfolding chain chain_in
  chain_few l = go (get_or ws 4 0) l
    where
      cut : (b : Bool) (v : ℕ) (rest : List ℕ) (fuel : ℕ) → length rest ≤ fuel → length (cond b [] (v ∷ rest)) ≤ suc fuel
      cut true v rest fuel h = omega arith
      cut false v rest fuel h = omega arith

      go : (fuel l : ℕ) → length (chain_in ws fuel l) ≤ fuel
      go zero l = omega arith
      go (suc fuel) l = cut (eqb l 0) (value_of ws l) (chain_in ws fuel (next_of ws l)) fuel (go fuel (next_of ws l))
