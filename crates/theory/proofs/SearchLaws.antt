-- The first walk, a step at a time: the start, a root, an entry that is met already or new, and the top finished (`search_start`, `search_root`,
-- `search_known`, `search_new`, `search_finish`); at the end the vertices are in a finishing order (`search_end`).
use mathlib.Core.Path.{◌≡◌, refl, sym, ap, ◌∙◌, subst}
use mathlib.Core.Logic.{◌⊎◌, inl, inr, ◌≢◌}
use mathlib.Core.Bool.{false}
use mathlib.Core.List.Memᴰ
use mathlib.Core.List.{List, [], ◌∷◌}
use Prim.Native.Nat.{ℕ, ◌≤◌, ◌<◌}
use native.Mathlib.Omega.{arith}
use native.Mathlib.Decide.{ℕ_discrete}
use lib.ListN.{length}
use Rattle.theory.specs.Sets.{Is, Set, Mem}
use Rattle.theory.specs.Components.{Stacked}
use Rattle.theory.specs.Search.{Searching, Ordered}
use Rattle.theory.proofs.CountLaws.{pigeonhole}
use Rattle.theory.proofs.ComponentLaws.{descent_empty, descent_skip, descent_push, descent_finish}

module _ {b : ℕ} {pred : ℕ → List ℕ} {graph : Set} where
  pub search_start : {mark : ℕ → ℕ} {rest : ℕ → List ℕ} → ((v : ℕ) → v < b → graph v ≡ false → mark v ≡ 0) → ((v : ℕ) → v < b → Is (graph v) → mark v ≡ 1)
      → ((v : ℕ) → v < b → mark v ≡ 2 → ⊥) → Searching b pred graph [] [] mark rest
  search_start out new none = record {
    descent = descent_empty pred;
    stack_once = tt;
    fin_once = tt;
    apart = λ v m f. Memᴰ.not-nil m;
    low = λ v m. absurd (neither m);
    inside = λ v m. absurd (neither m);
    outside = out;
    unmet = λ v l g. inl (new v l g);
    met = λ v l e. absurd (none v l e);
    marked = λ v m. absurd (neither m);
    behind = λ v x m i. absurd (Memᴰ.not-nil m);
  }
    where
      neither : {v : ℕ} → Mem v [] ⊎ Mem v [] → ⊥
      neither (inl m) = Memᴰ.not-nil m
      neither (inr m) = Memᴰ.not-nil m

  module _ {stack fin : List ℕ} {mark : ℕ → ℕ} {rest : ℕ → List ℕ} (s : Searching b pred graph stack fin mark rest) where
    -- there is room for what is finished, and for a vertex more on the stack
    pub fin_fits : length fin ≤ b
    fin_fits = pigeonhole b fin s.fin_once (λ v m. s.low v (inr m))

    pub stack_fits : (w : ℕ) → w < b → mark w ≡ 1 → length stack < b
    stack_fits w l e = pigeonhole b (w ∷ stack) ((λ m. let k = s.marked w (inl m) in omega arith), s.stack_once) (λ v m. go v (Memᴰ.cases_cons m))
      where
        go : (v : ℕ) → (v ≡ w) ⊎ Mem v stack → v < b
        go v (inl q) = subst (λ (z : ℕ). z < b) (sym q) l
        go v (inr m) = s.low v (inl m)

    -- marks and rests count only below b, and a rest only where it is begun
    pub search_same : {mark' : ℕ → ℕ} {rest' : ℕ → List ℕ} → ((v : ℕ) → v < b → mark' v ≡ mark v) → ((v : ℕ) → v < b → mark v ≡ 2 → rest' v ≡ rest v)
        → Searching b pred graph stack fin mark' rest'
    search_same {mark'} {rest'} marks rests = record {
      descent = descent_skip pred s.descent (λ v w m i p. inr (subst (λ (k : List ℕ). Mem w k) (sym (on v m)) p));
      stack_once = s.stack_once;
      fin_once = s.fin_once;
      apart = s.apart;
      low = s.low;
      inside = s.inside;
      outside = λ v l g. marks v l ∙ s.outside v l g;
      unmet = λ v l g. unmet v l (s.unmet v l g);
      met = λ v l e. s.met v l (sym (marks v l) ∙ e);
      marked = λ v m. marks v (s.low v m) ∙ s.marked v m;
      behind = λ v x m i. s.behind v x m (subst (λ (k : List ℕ). Mem x k) (on v m) i);
    }
      where
        on : (v : ℕ) → Mem v stack → rest' v ≡ rest v
        on v m = rests v (s.low v (inl m)) (s.marked v (inl m))

        unmet : (v : ℕ) → v < b → (mark v ≡ 1) ⊎ (mark v ≡ 2) → (mark' v ≡ 1) ⊎ (mark' v ≡ 2)
        unmet v l (inl e) = inl (marks v l ∙ e)
        unmet v l (inr e) = inr (marks v l ∙ e)

    -- w goes on the stack
    push : (w : ℕ) → w < b → Is (graph w) → mark w ≡ 1 → Stacked pred (w ∷ stack) → {mark' : ℕ → ℕ} {rest' : ℕ → List ℕ}
        → mark' w ≡ 2 → ((v : ℕ) → v < b → v ≢ w → mark' v ≡ mark v) → rest' w ≡ pred w
        → ((v x : ℕ) → Mem v stack → Mem x (rest v) → (x ≡ w) ⊎ Mem x (rest' v)) → ((v x : ℕ) → Mem v stack → Mem x (rest' v) → Mem x (rest v))
        → Searching b pred graph (w ∷ stack) fin mark' rest'
    push w l g e path {mark'} {rest'} here others new keep shrink = record {
      descent = descent_push pred w s.descent path off unfin (λ x m. subst (λ (k : List ℕ). Mem x k) (sym new) m) keep;
      stack_once = (off, s.stack_once);
      fin_once = s.fin_once;
      apart = λ v m f. apart v f (Memᴰ.cases_cons m);
      low = λ v m. low v (split v m);
      inside = λ v m. inside v (split v m);
      outside = λ v k o. outside v k o (ℕ_discrete v w);
      unmet = λ v k o. unmet v k o (ℕ_discrete v w);
      met = λ v k o. met v k o (ℕ_discrete v w);
      marked = λ v m. marked v (split v m);
      behind = λ v x m i. behind v x i (Memᴰ.cases_cons m);
    }
      where
        off : Mem w stack → ⊥
        off m = let k = s.marked w (inl m) in omega arith

        unfin : Mem w fin → ⊥
        unfin m = let k = s.marked w (inr m) in omega arith

        apart : (v : ℕ) → Mem v fin → (v ≡ w) ⊎ Mem v stack → ⊥
        apart v f (inl q) = unfin (subst (λ (z : ℕ). Mem z fin) q f)
        apart v f (inr m) = s.apart v m f

        split : (v : ℕ) → Mem v (w ∷ stack) ⊎ Mem v fin → (v ≡ w) ⊎ (Mem v stack ⊎ Mem v fin)
        split v (inl m) = go (Memᴰ.cases_cons m)
          where
            go : (v ≡ w) ⊎ Mem v stack → (v ≡ w) ⊎ (Mem v stack ⊎ Mem v fin)
            go (inl q) = inl q
            go (inr i) = inr (inl i)
        split v (inr m) = inr (inr m)

        wider : (v : ℕ) → Mem v stack ⊎ Mem v fin → Mem v (w ∷ stack) ⊎ Mem v fin
        wider v (inl m) = inl (Memᴰ.tail m)
        wider v (inr m) = inr m

        low : (v : ℕ) → (v ≡ w) ⊎ (Mem v stack ⊎ Mem v fin) → v < b
        low v (inl q) = subst (λ (z : ℕ). z < b) (sym q) l
        low v (inr m) = s.low v m

        inside : (v : ℕ) → (v ≡ w) ⊎ (Mem v stack ⊎ Mem v fin) → Is (graph v)
        inside v (inl q) = subst (λ (z : ℕ). Is (graph z)) (sym q) g
        inside v (inr m) = s.inside v m

        outside : (v : ℕ) → v < b → graph v ≡ false → Dec (v ≡ w) → mark' v ≡ 0
        outside v k o (yes q) = let c = ap graph q in let z = s.outside v k o in let y = ap mark q in absurd (omega arith)
        outside v k o (no n) = others v k n ∙ s.outside v k o

        unmet : (v : ℕ) → v < b → Is (graph v) → Dec (v ≡ w) → (mark' v ≡ 1) ⊎ (mark' v ≡ 2)
        unmet v k o (yes q) = inr (ap mark' q ∙ here)
        unmet v k o (no n) = go (s.unmet v k o)
          where
            go : (mark v ≡ 1) ⊎ (mark v ≡ 2) → (mark' v ≡ 1) ⊎ (mark' v ≡ 2)
            go (inl i) = inl (others v k n ∙ i)
            go (inr i) = inr (others v k n ∙ i)

        met : (v : ℕ) → v < b → mark' v ≡ 2 → Dec (v ≡ w) → Mem v (w ∷ stack) ⊎ Mem v fin
        met v k o (yes q) = inl (Memᴰ.head q)
        met v k o (no n) = wider v (s.met v k (sym (others v k n) ∙ o))

        marked : (v : ℕ) → (v ≡ w) ⊎ (Mem v stack ⊎ Mem v fin) → mark' v ≡ 2
        marked v (inl q) = ap mark' q ∙ here
        marked v (inr m) = let k = s.marked v m in others v (s.low v m) (λ q. let z = ap mark q in omega arith) ∙ k

        behind : (v x : ℕ) → Mem x (rest' v) → (v ≡ w) ⊎ Mem v stack → Mem x (pred v)
        behind v x i (inl q) = subst (λ (z : ℕ). Mem x (pred z)) (sym q) (subst (λ (k : List ℕ). Mem x k) new (subst (λ (z : ℕ). Mem x (rest' z)) q i))
        behind v x i (inr m) = s.behind v x m (shrink v x m i)

  -- a root on the empty stack
  pub search_root : {fin : List ℕ} {mark mark' : ℕ → ℕ} {rest rest' : ℕ → List ℕ} → Searching b pred graph [] fin mark rest → (w : ℕ) → w < b → Is (graph w) → mark w ≡ 1
      → mark' w ≡ 2 → ((v : ℕ) → v < b → v ≢ w → mark' v ≡ mark v) → rest' w ≡ pred w → Searching b pred graph (w ∷ []) fin mark' rest'
  search_root s w l g e here others new = push s w l g e tt here others new (λ v x m. absurd (Memᴰ.not-nil m)) (λ v x m. absurd (Memᴰ.not-nil m))

  -- the next entry x of the top, v, is looked at
  module _ {v : ℕ} {stack fin : List ℕ} {mark : ℕ → ℕ} {rest : ℕ → List ℕ} (s : Searching b pred graph (v ∷ stack) fin mark rest)
      {x : ℕ} {more : List ℕ} (e : rest v ≡ x ∷ more) where
    pub entry_edge : Mem x (pred v)
    entry_edge = s.behind v x (Memᴰ.head refl) (subst (λ (k : List ℕ). Mem x k) (sym e) (Memᴰ.head refl))

    module _ {rest' : ℕ → List ℕ} (here : rest' v ≡ more) (others : (u : ℕ) → u < b → u ≢ v → mark u ≡ 2 → rest' u ≡ rest u) where
      keep : (u y : ℕ) → Mem u (v ∷ stack) → Mem y (rest u) → (y ≡ x) ⊎ Mem y (rest' u)
      keep u y m i = go (ℕ_discrete u v)
        where
          go : Dec (u ≡ v) → (y ≡ x) ⊎ Mem y (rest' u)
          go (yes q) = turn (Memᴰ.cases_cons (subst (λ (k : List ℕ). Mem y k) (ap rest q ∙ e) i))
            where
              turn : (y ≡ x) ⊎ Mem y more → (y ≡ x) ⊎ Mem y (rest' u)
              turn (inl p) = inl p
              turn (inr j) = inr (subst (λ (k : List ℕ). Mem y k) (sym (ap rest' q ∙ here)) j)
          go (no n) = inr (subst (λ (k : List ℕ). Mem y k) (sym (others u (s.low u (inl m)) n (s.marked u (inl m)))) i)

      shrink : (u y : ℕ) → Mem u (v ∷ stack) → Mem y (rest' u) → Mem y (rest u)
      shrink u y m i = go (ℕ_discrete u v)
        where
          go : Dec (u ≡ v) → Mem y (rest u)
          go (yes q) = subst (λ (k : List ℕ). Mem y k) (sym (ap rest q ∙ e)) (Memᴰ.tail (subst (λ (k : List ℕ). Mem y k) (ap rest' q ∙ here) i))
          go (no n) = subst (λ (k : List ℕ). Mem y k) (others u (s.low u (inl m)) n (s.marked u (inl m))) i

      -- x is met already
      pub search_known : x < b → mark x ≡ 2 → Searching b pred graph (v ∷ stack) fin mark rest'
      search_known l k = record {
        descent = descent_skip pred s.descent (λ u y m i p. go u y (keep u y m p));
        stack_once = s.stack_once;
        fin_once = s.fin_once;
        apart = s.apart;
        low = s.low;
        inside = s.inside;
        outside = s.outside;
        unmet = s.unmet;
        met = s.met;
        marked = s.marked;
        behind = λ u y m i. s.behind u y m (shrink u y m i);
      }
        where
          go : (u y : ℕ) → (y ≡ x) ⊎ Mem y (rest' u) → (Mem y (v ∷ stack) ⊎ Mem y fin) ⊎ Mem y (rest' u)
          go u y (inl q) = inl (subst (λ (z : ℕ). Mem z (v ∷ stack) ⊎ Mem z fin) (sym q) (s.met x l k))
          go u y (inr m) = inr m

      -- x is new
      pub search_new : x < b → Is (graph x) → mark x ≡ 1 → {mark' : ℕ → ℕ} → mark' x ≡ 2 → ((u : ℕ) → u < b → u ≢ x → mark' u ≡ mark u) → rest' x ≡ pred x
          → Searching b pred graph (x ∷ v ∷ stack) fin mark' rest'
      search_new l g k at same new = push s x l g k (entry_edge, s.descent.path) at same new keep shrink

  -- the top has nothing left to look at
  pub search_finish : {v : ℕ} {stack fin : List ℕ} {mark : ℕ → ℕ} {rest : ℕ → List ℕ} → Searching b pred graph (v ∷ stack) fin mark rest → rest v ≡ []
      → Searching b pred graph stack (v ∷ fin) mark rest
  search_finish {v} {stack} {fin} {mark} {rest} s e = record {
    descent = descent_finish pred v s.descent (λ w i. Memᴰ.not-nil (subst (λ (k : List ℕ). Mem w k) e i)) (λ u w m i. i);
    stack_once = s.stack_once.1;
    fin_once = ((λ m. s.apart v (Memᴰ.head refl) m), s.fin_once);
    apart = λ u m f. apart u m (Memᴰ.cases_cons f);
    low = λ u m. s.low u (back u m);
    inside = λ u m. s.inside u (back u m);
    outside = s.outside;
    unmet = s.unmet;
    met = λ u l k. forth u (s.met u l k);
    marked = λ u m. s.marked u (back u m);
    behind = λ u x m i. s.behind u x (Memᴰ.tail m) i;
  }
    where
      apart : (u : ℕ) → Mem u stack → (u ≡ v) ⊎ Mem u fin → ⊥
      apart u m (inl q) = s.stack_once.0 (subst (λ (z : ℕ). Mem z stack) q m)
      apart u m (inr f) = s.apart u (Memᴰ.tail m) f

      back : (u : ℕ) → Mem u stack ⊎ Mem u (v ∷ fin) → Mem u (v ∷ stack) ⊎ Mem u fin
      back u (inl m) = inl (Memᴰ.tail m)
      back u (inr m) = go (Memᴰ.cases_cons m)
        where
          go : (u ≡ v) ⊎ Mem u fin → Mem u (v ∷ stack) ⊎ Mem u fin
          go (inl q) = inl (Memᴰ.head q)
          go (inr i) = inr i

      forth : (u : ℕ) → Mem u (v ∷ stack) ⊎ Mem u fin → Mem u stack ⊎ Mem u (v ∷ fin)
      forth u (inl m) = go (Memᴰ.cases_cons m)
        where
          go : (u ≡ v) ⊎ Mem u stack → Mem u stack ⊎ Mem u (v ∷ fin)
          go (inl q) = inr (Memᴰ.head q)
          go (inr i) = inl i
      forth u (inr m) = inr (Memᴰ.tail m)

  -- no vertex of the graph is unmet
  pub search_end : {fin : List ℕ} {mark : ℕ → ℕ} {rest : ℕ → List ℕ} → Searching b pred graph [] fin mark rest → ((v : ℕ) → v < b → mark v ≢ 1) → Ordered b pred graph fin
  search_end {fin} {mark} s none = record {
    good = s.descent.good;
    once = s.fin_once;
    full = λ v l g. go v l (s.unmet v l g);
    only = λ v m. (s.inside v (inr m), s.low v (inr m));
  }
    where
      listed : (v : ℕ) → Mem v [] ⊎ Mem v fin → Mem v fin
      listed v (inl m) = absurd (Memᴰ.not-nil m)
      listed v (inr m) = m

      go : (v : ℕ) → v < b → (mark v ≡ 1) ⊎ (mark v ≡ 2) → Mem v fin
      go v l (inl k) = absurd (none v l k)
      go v l (inr k) = listed v (s.met v l k)
