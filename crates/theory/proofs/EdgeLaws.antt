-- What the edges and the cones are, read off their definitions: the predecessors of an atom and of a node (`preds_atom`, `preds_node`), an
-- edge to an atom (`edge_atom`), and that a cone is the least set with its bodies and leaves (`cone_body`, `cone_leaf`, `cone_least`).
use mathlib.Core.Path.{◌≡◌, refl, sym, ap, ◌∙◌, subst}
use mathlib.Core.Logic.{◌⊎◌, inl, inr, ◌↔◌}
use mathlib.Core.Bool.{Bool, true, false, ◌&&◌, ◌||◌, cond}
use mathlib.Core.List.Memᴰ
use mathlib.Core.List.{List, [], ◌∷◌, ◌++◌}
use Prim.Native.Nat.{ℕ, zero, suc, ◌+◌, ◌-◌, ◌≤◌, ◌<◌}
use native.Mathlib.Nat.{not-suc-le-zero}
use native.Mathlib.Omega.{arith}
use native.Mathlib.Decide.{ℕ_discrete}
use lib.Dec.{eqb, ltb, ltb→lt, nltb→le, lt→ltb}
use Rattle.theory.specs.Sets.{Is, Set, ◌⊆◌, Mem, member}
use Rattle.theory.specs.Least.{has, least}
use Rattle.theory.specs.Theory.{Theory, joins}
use Rattle.theory.specs.Edges.{occurrences, body_entries, bodies_below, inputs, preds_by, preds, is_body, is_leaf, cone_step, cone}
use Rattle.theory.proofs.SetLaws.{is_T, T_is, is_false, not_false, clash, member_mem, mem_member, below_found, below_holds, eq_is, is_eq, and_intro, and_left, and_right, or_cases, or_left, or_right}
use Rattle.theory.proofs.LeastLaws.{least_closed, least_least, least_bound}

occurs_of : (x a w : ℕ) (hs : List ℕ) → Mem w (occurrences x a hs) → (w ≡ x) × Mem a hs
unfolding occurrences
occurs_of x a w [] m = absurd (Memᴰ.not-nil m)
occurs_of x a w (h ∷ hs) m = go (eqb a h) refl m (occurs_of x a w hs)
  where
    cons : (w ≡ x) ⊎ Mem w (occurrences x a hs) → a ≡ h → (Mem w (occurrences x a hs) → (w ≡ x) × Mem a hs) → (w ≡ x) × Mem a (h ∷ hs)
    cons (inl e) q rest = (e, Memᴰ.head q)
    cons (inr k) q rest = let r = rest k in (r.0, Memᴰ.tail r.1)

    go : (b : Bool) → eqb a h ≡ b → Mem w (cond b (x ∷ occurrences x a hs) (occurrences x a hs)) → (Mem w (occurrences x a hs) → (w ≡ x) × Mem a hs) → (w ≡ x) × Mem a (h ∷ hs)
    go true e k rest = cons (Memᴰ.cases_cons k) (eq_is a h e) rest
    go false e k rest = let r = rest k in (r.0, Memᴰ.tail r.1)

occurs_in : (x a : ℕ) (hs : List ℕ) → Mem a hs → Mem x (occurrences x a hs)
unfolding occurrences
occurs_in x a [] m = absurd (Memᴰ.not-nil m)
occurs_in x a (h ∷ hs) m = go (eqb a h) refl (Memᴰ.cases_cons m) (occurs_in x a hs)
  where
    go : (b : Bool) → eqb a h ≡ b → (a ≡ h) ⊎ Mem a hs → (Mem a hs → Mem x (occurrences x a hs)) → Mem x (cond b (x ∷ occurrences x a hs) (occurrences x a hs))
    go true e k rest = Memᴰ.head refl
    go false e (inl q) rest = clash (is_eq a h q) e
    go false e (inr k) rest = rest k

-- w is the body of a producer below n with head a
abbrev pub BodyOf : Theory → ℕ → ℕ → ℕ → Type 0
BodyOf th n a w = (p : ℕ) × (m : ℕ) × (p < n) × (th.body p ≡ suc m) × Mem a (th.heads p) × (w ≡ th.atoms + m)

module _ (th : Theory) where
  pub bodies_of : (a w n : ℕ) → Mem w (bodies_below th a n) → BodyOf th n a w
  unfolding bodies_below body_entries
  bodies_of a w zero m = absurd (Memᴰ.not-nil m)
  bodies_of a w (suc p) m = go (Memᴰ.append_cases (bodies_below th a p) m) (bodies_of a w p)
    where
      last : (k : ℕ) → th.body p ≡ k → Mem w (body_entries th a k (th.heads p)) → BodyOf th (suc p) a w
      last zero e i = absurd (Memᴰ.not-nil i)
      last (suc n) e i = let q = occurs_of (th.atoms + n) a w (th.heads p) i in (p, n, omega arith, e, q.1, q.0)

      go : Mem w (bodies_below th a p) ⊎ Mem w (body_entries th a (th.body p) (th.heads p)) → (Mem w (bodies_below th a p) → BodyOf th p a w) → BodyOf th (suc p) a w
      go (inl i) rest = let q = rest i in let l : q.0 < p = q.2 in (q.0, q.1, omega arith, q.3, q.4, q.5)
      go (inr i) rest = last (th.body p) refl i

  bodies_in : (a p m n : ℕ) → p < n → th.body p ≡ suc m → Mem a (th.heads p) → Mem (th.atoms + m) (bodies_below th a n)
  unfolding bodies_below body_entries
  bodies_in a p m zero l e i = absurd (not-suc-le-zero l)
  bodies_in a p m (suc n) l e i = go (ℕ_discrete p n) (bodies_in a p m n)
    where
      here : th.body n ≡ suc m → Mem a (th.heads n) → Mem (th.atoms + m) (body_entries th a (th.body n) (th.heads n))
      here q j = subst (λ (k : ℕ). Mem (th.atoms + m) (body_entries th a k (th.heads n))) (sym q) (occurs_in (th.atoms + m) a (th.heads n) j)

      go : Dec (p ≡ n) → (p < n → th.body p ≡ suc m → Mem a (th.heads p) → Mem (th.atoms + m) (bodies_below th a n)) → Mem (th.atoms + m) (bodies_below th a n ++ body_entries th a (th.body n) (th.heads n))
      go (yes q) rest = Memᴰ.append_right (bodies_below th a n) (here (subst (λ (z : ℕ). th.body z ≡ suc m) q e) (subst (λ (z : ℕ). Mem a (th.heads z)) q i))
      go (no q) rest = Memᴰ.append_left _ (rest (omega arith) e i)

  pub preds_atom : (c : Set) (a : ℕ) → a < th.atoms → preds th c a ≡ bodies_below th a th.producers
  unfolding preds preds_by
  preds_atom c a l = ap (λ (x : Bool). preds_by th x (ltb (a - th.atoms) th.nodes && c (a - th.atoms)) a) (T_is (ltb a th.atoms) (lt→ltb a th.atoms l))

  pub past : (n : ℕ) → ltb (th.atoms + n) th.atoms ≡ false
  past n = is_false (ltb (th.atoms + n) th.atoms) (λ p. let h = ltb→lt (th.atoms + n) th.atoms (is_T (ltb (th.atoms + n) th.atoms) p) in omega arith)

  pub less : (n : ℕ) → th.atoms + n - th.atoms ≡ n
  less n = omega arith

  pub preds_node : (c : Set) (n : ℕ) → n < th.nodes → Is (c n) → preds th c (th.atoms + n) ≡ inputs th (th.kind n) n
  unfolding preds preds_by
  preds_node c n l h =
      ap (λ (x : Bool). preds_by th x (ltb (th.atoms + n - th.atoms) th.nodes && c (th.atoms + n - th.atoms)) (th.atoms + n)) (past n)
      ∙ ap (λ (x : Bool). preds_by th false x (th.atoms + n)) (subst (λ (z : ℕ). Is (ltb z th.nodes && c z)) (sym (less n)) (and_intro (T_is (ltb n th.nodes) (lt→ltb n th.nodes l)) h))
      ∙ ap (λ (z : ℕ). inputs th (th.kind z) z) (less n)

  pub edge_atom : (c : Set) (a w : ℕ) → a < th.atoms → Mem w (preds th c a) ↔ BodyOf th th.producers a w
  edge_atom c a w l = (
    λ m. bodies_of a w th.producers (subst (λ (x : List ℕ). Mem w x) (preds_atom c a l) m),
    λ q. subst (λ (x : List ℕ). Mem w x) (sym (preds_atom c a l)) (subst (λ (z : ℕ). Mem z (bodies_below th a th.producers)) (sym q.5) (bodies_in a q.0 q.1 th.producers q.2 q.3 q.4)),
  )

  -- ---- cones

  leaf_found : (s : Set) (n : ℕ) → Is (is_leaf th s n) → (m : ℕ) × (m < th.nodes) × Is (s m) × Is (joins (th.kind m)) × Mem n (th.leaves m)
  unfolding is_leaf
  leaf_found s n q =
      let r = below_found th.nodes (λ m. s m && joins (th.kind m) && member n (th.leaves m)) q in
      let x = and_left (s r.0 && joins (th.kind r.0)) (member n (th.leaves r.0)) r.2 in
      let y = and_right (s r.0 && joins (th.kind r.0)) (member n (th.leaves r.0)) r.2 in
      (r.0, r.1, and_left (s r.0) (joins (th.kind r.0)) x, and_right (s r.0) (joins (th.kind r.0)) x, member_mem n (th.leaves r.0) y)

  leaf_holds : (s : Set) (m n : ℕ) → n < th.nodes → Is (s n) → Is (joins (th.kind n)) → Mem m (th.leaves n) → Is (is_leaf th s m)
  unfolding is_leaf
  leaf_holds s m n l h j i = below_holds th.nodes (λ k. s k && joins (th.kind k) && member m (th.leaves k)) n l (and_intro (and_intro h j) (mem_member i))

  module _ (wanted : Set) where
    cone_mono : (s t : Set) → s ⊆ t → cone_step th wanted s ⊆ cone_step th wanted t
    unfolding cone_step
    cone_mono s t h n q = go (or_cases (is_body th wanted n) (is_leaf th s n) q)
      where
        go : Is (is_body th wanted n) ⊎ Is (is_leaf th s n) → Is (is_body th wanted n || is_leaf th t n)
        go (inl b) = or_left (is_body th wanted n) (is_leaf th t n) b
        go (inr b) = let r = leaf_found s n b in or_right (is_body th wanted n) (is_leaf th t n) (leaf_holds t n r.0 r.1 (h r.0 r.2) r.3 r.4)

    pub cone_body : (p n : ℕ) → p < th.producers → n < th.nodes → th.body p ≡ suc n → Is (wanted p) → Is (cone th wanted n)
    unfolding cone cone_step is_body
    cone_body p n l k e w =
        least_closed th.nodes (cone_step th wanted) cone_mono n k
        (or_left _ _ (below_holds th.producers (λ p. eqb (th.body p) (suc n) && wanted p) p l (and_intro (is_eq (th.body p) (suc n) e) w)))

    pub cone_leaf : (m n : ℕ) → n < th.nodes → m < th.nodes → Is (cone th wanted n) → Is (joins (th.kind n)) → Mem m (th.leaves n) → Is (cone th wanted m)
    unfolding cone cone_step
    cone_leaf m n k l h j i =
        least_closed th.nodes (cone_step th wanted) cone_mono m l (or_right (is_body th wanted m) _ (leaf_holds (has (least th.nodes (cone_step th wanted))) m n k h j i))

    pub cone_bound : (n : ℕ) → Is (cone th wanted n) → n < th.nodes
    unfolding cone
    cone_bound n h = least_bound th.nodes (cone_step th wanted) n h

    -- every set that is closed in the same way contains the cone
    pub cone_least : (s : Set)
        → ((p n : ℕ) → p < th.producers → th.body p ≡ suc n → Is (wanted p) → Is (s n))
        → ((m n : ℕ) → n < th.nodes → Is (s n) → Is (joins (th.kind n)) → Mem m (th.leaves n) → Is (s m))
        → cone th wanted ⊆ s
    unfolding cone cone_step is_body
    cone_least s bodies leaves = least_least th.nodes (cone_step th wanted) cone_mono s (λ n l q. go n (or_cases (is_body th wanted n) (is_leaf th s n) q))
      where
        go : (n : ℕ) → Is (is_body th wanted n) ⊎ Is (is_leaf th s n) → Is (s n)
        go n (inl q) =
            let r = below_found th.producers (λ p. eqb (th.body p) (suc n) && wanted p) q in
            bodies r.0 n r.1 (eq_is _ _ (and_left (eqb (th.body r.0) (suc n)) (wanted r.0) r.2)) (and_right (eqb (th.body r.0) (suc n)) (wanted r.0) r.2)
        go n (inr q) = let r = leaf_found s n q in leaves n r.0 r.1 r.2 r.3 r.4

  -- an edge leads to an atom, or to a node of the set
  pub preds_vertex : (c : Set) (v w : ℕ) → Mem w (preds th c v) → (v < th.atoms) ⊎ ((th.atoms ≤ v) × (v - th.atoms < th.nodes) × Is (c (v - th.atoms)))
  unfolding preds preds_by
  preds_vertex c v w m = go (ltb v th.atoms) refl (ltb (v - th.atoms) th.nodes) refl (c (v - th.atoms)) refl m
    where
      go : (a : Bool) → ltb v th.atoms ≡ a → (b : Bool) → ltb (v - th.atoms) th.nodes ≡ b → (d : Bool) → c (v - th.atoms) ≡ d → Mem w (preds_by th a (b && d) v)
          → (v < th.atoms) ⊎ ((th.atoms ≤ v) × (v - th.atoms < th.nodes) × Is (c (v - th.atoms)))
      go true p b q d r m = inl (ltb→lt v th.atoms (is_T _ p))
      go false p true q true r m = inr (nltb→le v th.atoms (is_T _ (not_false _ p)), ltb→lt (v - th.atoms) th.nodes (is_T _ q), r)
      go false p true q false r m = absurd (Memᴰ.not-nil m)
      go false p false q d r m = absurd (Memᴰ.not-nil m)

  pub preds_low : (c : Set) (v w : ℕ) → Mem w (preds th c v) → v < th.atoms + th.nodes
  preds_low c v w m = go (preds_vertex c v w m)
    where
      go : (v < th.atoms) ⊎ ((th.atoms ≤ v) × (v - th.atoms < th.nodes) × Is (c (v - th.atoms))) → v < th.atoms + th.nodes
      go (inl l) = omega arith
      go (inr (l, k, h)) = omega arith
