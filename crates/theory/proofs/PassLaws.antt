-- The pass as a closure over vertices finds exactly the founded atoms, for every cone that holds what can come to matter (`passed_founded`); the
-- cyclic cone is one (`cyclic_cone_enough`). The same with any set of marked atoms: `among_founded`, `among_enough`; and of the nodes it finds the true ones of the cone (`among_true`).
use mathlib.Core.Path.{◌≡◌, refl, sym, ap, ◌∙◌, subst}
use mathlib.Core.Logic.{◌⊎◌, inl, inr, ◌↔◌}
use mathlib.Core.Bool.{Bool, true, false, not, ◌&&◌, ◌||◌, cond}
use mathlib.Core.List.Memᴰ
use mathlib.Core.List.{List, [], ◌∷◌, map}
use Prim.Native.Nat.{ℕ, zero, suc, ◌+◌, ◌-◌, ◌<◌}
use native.Mathlib.Omega.{arith}
use lib.Dec.{eqb, ltb, ltb→lt, lt→ltb}
use Rattle.theory.specs.Sets.{Is, Set, everyone, Mem, any, member}
use Rattle.theory.specs.Theory.{Theory, WellFormed, Kind, False, Atom, And, Or, Opaque, Absorbed, joins}
use Rattle.theory.specs.Edges.{vertices, inputs, preds}
use Rattle.theory.specs.Truth.{holds, truth_in, truth, fires}
use Rattle.theory.specs.Founded.{cyclic, cone_among, cyclic_cone, atom_truth, founded_among, founded}
use Rattle.theory.specs.Closure.{Mode, free, single, fired}
use Rattle.theory.specs.Pass.{live, kind_mode, stated, atom_mode_among, node_mode_among, pass_mode_among, passed_among, EnoughAmong, atom_mode, node_mode, pass_mode, passed, Enough}
use Rattle.theory.proofs.SetLaws.{is_T, T_is, not_false, not_true, clash, any_found, any_holds, all_at, all_holds, mem_member, member_mem, below_found, below_holds, eq_is, is_eq, and_intro, and_left, and_right, or_cases, or_left, or_right}
use Rattle.theory.proofs.EdgeLaws.{preds_node, edge_atom, past, less, cone_body, cone_leaf}
use Rattle.theory.proofs.TruthLaws.{truth_step}
use Rattle.theory.proofs.FoundedLaws.{DerivedAmong, among_closed, among_induct}
use Rattle.theory.proofs.ClosureLaws.{closure_closed, closure_induct}

live_fired : (b : Bool) (m : Mode) (s : Set) (l : List ℕ) → Is (fired (live b m) s l) → Is b × Is (fired m s l)
unfolding live fired
live_fired true m s l p = (refl, p)
live_fired false m s l p = clash refl (sym p)

fired_live : (b : Bool) (m : Mode) (s : Set) (l : List ℕ) → Is b → Is (fired m s l) → Is (fired (live b m) s l)
unfolding live fired
fired_live true m s l q p = p
fired_live false m s l q p = clash refl (sym q)

pub stated_by : (th : Theory) (a : ℕ) → Is (stated th a) ↔ ((p : ℕ) × (p < th.producers) × (th.body p ≡ 0) × Mem a (th.heads p))
unfolding stated
stated_by th a = (
  λ q. let r = below_found th.producers (λ p. eqb (th.body p) 0 && member a (th.heads p)) q in
      (r.0, r.1, eq_is (th.body r.0) 0 (and_left (eqb (th.body r.0) 0) _ r.2), member_mem a (th.heads r.0) (and_right (eqb (th.body r.0) 0) _ r.2)),
  λ r. below_holds th.producers (λ p. eqb (th.body p) 0 && member a (th.heads p)) r.0 r.1 (and_intro (is_eq (th.body r.0) 0 r.2) (mem_member r.3)),
)

-- ---- the cone from the producers with a marked head

pub among_enough : (th : Theory) → WellFormed th → (marked never atom_never : Set) → EnoughAmong th marked (cone_among th marked) never atom_never
among_enough th ok marked never atom_never = record {
  bodies = λ p n a l i m e. cone_body th (λ p. any marked (th.heads p)) p n l (ok.body_low p n l e) e (any_holds marked i m);
  leaves = λ n m l i j e. let h = ok.leaf_low n m l e in cone_leaf th (λ p. any marked (th.heads p)) m n l (omega arith) i j e;
}

pub cyclic_cone_enough : (th : Theory) → WellFormed th → (never atom_never : Set) → Enough th (cyclic_cone th) never atom_never
unfolding cyclic_cone
cyclic_cone_enough th ok never atom_never = among_enough th ok (cyclic th) never atom_never

module _ (th : Theory) (marked cone never atom_never : Set) where
  pub atom_among : (a : ℕ) → a < th.atoms → pass_mode_among th marked cone never atom_never a ≡ atom_mode_among th marked cone never atom_never a
  unfolding pass_mode_among
  atom_among a l = ap (λ (b : Bool). cond b (atom_mode_among th marked cone never atom_never a) (node_mode_among th marked cone never atom_never (a - th.atoms))) (T_is (ltb a th.atoms) (lt→ltb a th.atoms l))

  pub node_among : (n : ℕ) → pass_mode_among th marked cone never atom_never (th.atoms + n) ≡ node_mode_among th marked cone never atom_never n
  unfolding pass_mode_among
  node_among n =
      ap (λ (b : Bool). cond b (atom_mode_among th marked cone never atom_never (th.atoms + n)) (node_mode_among th marked cone never atom_never (th.atoms + n - th.atoms))) (past th n)
      ∙ ap (node_mode_among th marked cone never atom_never) (less th n)

  module _ (ok : WellFormed th) where
    env : Set
    env = atom_truth marked atom_never (founded_among th marked never atom_never)

    -- ---- what is found is founded

    Good : ℕ → Type 0
    Good v = (v < th.atoms → Is (founded_among th marked never atom_never v)) × ((n : ℕ) → v ≡ th.atoms + n → Is (truth th never env n))

    by_atom : (s : Set) → ((v : ℕ) → Is (s v) → Good v) → (a : ℕ) → a < th.atoms → Is (fired (atom_mode_among th marked cone never atom_never a) s (preds th everyone a)) → Is (founded_among th marked never atom_never a)
    unfolding Good env atom_mode_among fires fired
    by_atom s ih a l p = go (stated th a) refl h.1
      where
        h : Is (marked a && not (atom_never a)) × Is (fired (cond (stated th a) free single) s (preds th everyone a))
        h = live_fired (marked a && not (atom_never a)) (cond (stated th a) free single) s (preds th everyone a) p

        closed : (q : ℕ) → q < th.producers → Mem a (th.heads q) → Is (fires th never env (th.body q)) → Is (founded_among th marked never atom_never a)
        closed q k m f = among_closed th marked never atom_never a q l (and_left (marked a) (not (atom_never a)) h.0) (not_true (atom_never a) (and_right (marked a) (not (atom_never a)) h.0)) k m f

        go : (b : Bool) → stated th a ≡ b → Is (fired (cond b free single) s (preds th everyone a)) → Is (founded_among th marked never atom_never a)
        go true e q = let r = (stated_by th a).0 e in closed r.0 r.1 r.3 (rw r.2 refl)
        go false e q =
            let w = any_found s (preds th everyone a) q in
            let k = (edge_atom th everyone a w.0 l).0 w.1 in
            closed k.0 k.2 k.4 (rw k.3 ((ih w.0 w.2).1 k.1 k.5))

    -- an uncut node that fires is true
    by_kind : (s : Set) → ((v : ℕ) → Is (s v) → Good v) → (n : ℕ) → n < th.nodes → (k : Kind) → th.kind n ≡ k
        → Is (fired (kind_mode k (marked (th.operand n)) (atom_never (th.operand n))) s (inputs th k n)) → Is (holds k (env (th.operand n)) (truth th never env) (th.leaves n))
    unfolding Good env kind_mode fired inputs holds atom_truth
    by_kind s ih n l False e p = p
    by_kind s ih n l Atom e p = go (marked (th.operand n)) refl (atom_never (th.operand n)) refl p
      where
        a : ℕ
        a = th.operand n

        go : (m : Bool) → marked a ≡ m → (d : Bool) → atom_never a ≡ d → Is (fired (kind_mode Atom m d) s (a ∷ [])) → Is (marked a && founded_among th marked never atom_never a || not (marked a) && not (atom_never a))
        go true q d r h =
            let w = any_found s (a ∷ []) h in
            let same = Memᴰ.eq_of_singleton w.1 in
            let i = (ih w.0 w.2).0 (subst (λ (z : ℕ). z < th.atoms) (sym same) (ok.operand_low n l e)) in
            or_left _ _ (and_intro q (subst (λ (z : ℕ). Is (founded_among th marked never atom_never z)) same i))
        go false q true r h = clash refl (sym h)
        go false q false r h = or_right (marked a && founded_among th marked never atom_never a) _ (and_intro (not_false (marked a) q) (not_false (atom_never a) r))
    by_kind s ih n l And e p = all_holds (truth th never env) (th.leaves n) (λ m i. (ih (th.atoms + m) (all_at s p (Memᴰ.map (λ m. th.atoms + m) i))).1 m refl)
    by_kind s ih n l Or e p =
        let w = any_found s (map (λ m. th.atoms + m) (th.leaves n)) p in
        let q = Memᴰ.of_map (λ m. th.atoms + m) (th.leaves n) w.1 in
        any_holds (truth th never env) q.1 ((ih w.0 w.2).1 q.0 (sym q.2))
    by_kind s ih n l Opaque e p = refl
    by_kind s ih n l Absorbed e p = p

    by_node : (s : Set) → ((v : ℕ) → Is (s v) → Good v) → (n : ℕ) → Is (fired (node_mode_among th marked cone never atom_never n) s (preds th everyone (th.atoms + n))) → Is (truth th never env n)
    unfolding node_mode_among
    by_node s ih n p =
        let h = live_fired (ltb n th.nodes && cone n && not (never n)) (kind_mode (th.kind n) (marked (th.operand n)) (atom_never (th.operand n))) s (preds th everyone (th.atoms + n)) p in
        let f = and_left (ltb n th.nodes && cone n) (not (never n)) h.0 in
        let l = ltb→lt n th.nodes (is_T (ltb n th.nodes) (and_left (ltb n th.nodes) (cone n) f)) in
        let k = subst (λ (x : List ℕ). Is (fired (kind_mode (th.kind n) (marked (th.operand n)) (atom_never (th.operand n))) s x)) (preds_node th everyone n l refl) h.1 in
        truth_step th ok never env n l ∙ and_intro (and_right (ltb n th.nodes && cone n) (not (never n)) h.0) (by_kind s ih n l (th.kind n) refl k)

    at_node : (s : Set) (v n : ℕ) → v ≡ th.atoms + n → Is (fired (pass_mode_among th marked cone never atom_never v) s (preds th everyone v)) → Is (fired (node_mode_among th marked cone never atom_never n) s (preds th everyone (th.atoms + n)))
    at_node s v n e q =
        subst (λ (m : Mode). Is (fired m s (preds th everyone (th.atoms + n)))) (node_among n) (subst (λ (z : ℕ). Is (fired (pass_mode_among th marked cone never atom_never z) s (preds th everyone z))) e q)

    found_good : (v : ℕ) → Is (passed_among th marked cone never atom_never v) → Good v
    unfolding Good
    found_good = closure_induct (vertices th) (pass_mode_among th marked cone never atom_never) (preds th everyone) Good (λ s ih v b q. (
      λ h. by_atom s ih v h (subst (λ (m : Mode). Is (fired m s (preds th everyone v))) (atom_among v h) q),
      λ n e. by_node s ih n (at_node s v n e q),
    ))

    -- a node that is found is in the cone
    found_cone : (n : ℕ) → Is (passed_among th marked cone never atom_never (th.atoms + n)) → Is (cone n)
    unfolding node_mode_among
    found_cone n p = closure_induct (vertices th) (pass_mode_among th marked cone never atom_never) (preds th everyone) (λ v. (m : ℕ) → v ≡ th.atoms + m → Is (cone m)) (λ s ih v b q m e.
        let h = live_fired (ltb m th.nodes && cone m && not (never m)) (kind_mode (th.kind m) (marked (th.operand m)) (atom_never (th.operand m))) s (preds th everyone (th.atoms + m)) (at_node s v m e q) in
        and_right (ltb m th.nodes) (cone m) (and_left (ltb m th.nodes && cone m) (not (never m)) h.0))
        (th.atoms + n) p n refl

    -- ---- what is founded is found

    module _ (enough : EnoughAmong th marked cone never atom_never) where
      abbrev found : Set
      found = passed_among th marked cone never atom_never

      node_found : (n : ℕ) → n < th.nodes → Is (cone n) → Is (not (never n)) → Is (fired (kind_mode (th.kind n) (marked (th.operand n)) (atom_never (th.operand n))) found (inputs th (th.kind n) n)) → Is (found (th.atoms + n))
      unfolding node_mode_among vertices
      node_found n l i d p =
          closure_closed (vertices th) (pass_mode_among th marked cone never atom_never) (preds th everyone) (th.atoms + n) (omega arith)
          (subst (λ (m : Mode). Is (fired m found (preds th everyone (th.atoms + n)))) (sym (node_among n))
          (fired_live (ltb n th.nodes && cone n && not (never n)) _ found (preds th everyone (th.atoms + n)) (and_intro (and_intro (T_is (ltb n th.nodes) (lt→ltb n th.nodes l)) i) d)
          (subst (λ (x : List ℕ). Is (fired (kind_mode (th.kind n) (marked (th.operand n)) (atom_never (th.operand n))) found x)) (sym (preds_node th everyone n l refl)) p)))

      module _ (s : Set) (ih : (a : ℕ) → Is (s a) → Is (found a)) where
        kind_fires : (n : ℕ) (t : Set) → (k : Kind) → ((m : ℕ) → Is (joins k) → Mem m (th.leaves n) → Is (t m) → Is (found (th.atoms + m)))
            → Is (holds k (atom_truth marked atom_never s (th.operand n)) t (th.leaves n)) → Is (fired (kind_mode k (marked (th.operand n)) (atom_never (th.operand n))) found (inputs th k n))
        unfolding kind_mode fired inputs holds atom_truth joins
        kind_fires n t False h p = p
        kind_fires n t Atom h p = go (marked a) refl (atom_never a) refl (or_cases (marked a && s a) _ p)
          where
            a : ℕ
            a = th.operand n

            go : (m : Bool) → marked a ≡ m → (d : Bool) → atom_never a ≡ d → Is (marked a && s a) ⊎ Is (not (marked a) && not (atom_never a)) → Is (fired (kind_mode Atom m d) found (a ∷ []))
            go true q d r (inl x) = any_holds found (Memᴰ.head refl) (ih a (and_right (marked a) (s a) x))
            go true q d r (inr x) = clash q (not_true (marked a) (and_left (not (marked a)) (not (atom_never a)) x))
            go false q d r (inl x) = clash (and_left (marked a) (s a) x) q
            go false q true r (inr x) = clash r (not_true (atom_never a) (and_right (not (marked a)) (not (atom_never a)) x))
            go false q false r (inr x) = refl
        kind_fires n t And h p =
            all_holds found (map (λ m. th.atoms + m) (th.leaves n))
            (λ x i. let q = Memᴰ.of_map (λ m. th.atoms + m) (th.leaves n) i in subst (λ (z : ℕ). Is (found z)) q.2 (h q.0 refl q.1 (all_at t p q.1)))
        kind_fires n t Or h p = let w = any_found t (th.leaves n) p in any_holds found (Memᴰ.map (λ m. th.atoms + m) w.1) (h w.0 refl w.1 w.2)
        kind_fires n t Opaque h p = refl
        kind_fires n t Absorbed h p = p

        true_found : (k n : ℕ) → n < th.nodes → Is (cone n) → Is (truth_in th never (atom_truth marked atom_never s) k n) → Is (found (th.atoms + n))
        unfolding truth_in
        true_found zero n l i p = clash refl (sym p)
        true_found (suc k) n l i p =
            node_found n l i (and_left (not (never n)) _ p)
            (kind_fires n (λ m. truth_in th never (atom_truth marked atom_never s) k m) (th.kind n)
            (λ m j e q. let h = ok.leaf_low n m l e in true_found k m (omega arith) (enough.leaves n m l i j e) q)
            (and_right (not (never n)) _ p))

      founded_found : (a : ℕ) → Is (founded_among th marked never atom_never a) → Is (found a)
      unfolding atom_mode_among truth fires fired vertices
      founded_found = among_induct th marked never atom_never (λ b. Is (found b)) step
        where
          step : (s : Set) → ((b : ℕ) → Is (s b) → Is (found b)) → (b : ℕ) → b < th.atoms → DerivedAmong th marked never atom_never s b → Is (found b)
          step s ih b low d =
              closure_closed (vertices th) (pass_mode_among th marked cone never atom_never) (preds th everyone) b (omega arith)
              (subst (λ (m : Mode). Is (fired m found (preds th everyone b))) (sym (atom_among b low))
              (fired_live (marked b && not (atom_never b)) (cond (stated th b) free single) found (preds th everyone b) (and_intro d.is_marked (not_false (atom_never b) d.uncut)) (by (stated th b) refl (th.body d.by) refl d.fired)))
            where
              by : (f : Bool) → stated th b ≡ f → (k : ℕ) → th.body d.by ≡ k → Is (fires th never (atom_truth marked atom_never s) k) → Is (fired (cond f free single) found (preds th everyone b))
              by true e k h x = refl
              by false e zero h x = clash ((stated_by th b).1 (d.by, d.by_low, h, d.head)) e
              by false e (suc n) h x =
                  any_holds found ((edge_atom th everyone b (th.atoms + n) low).1 (d.by, n, d.by_low, h, d.head, refl))
                  (true_found s ih (suc n) n (ok.body_low d.by n d.by_low h) (enough.bodies d.by n b d.by_low d.head d.is_marked h) x)

    pub among_founded : (a : ℕ) → a < th.atoms → EnoughAmong th marked cone never atom_never → Is (passed_among th marked cone never atom_never a) ↔ Is (founded_among th marked never atom_never a)
    unfolding Good
    among_founded a l enough = (λ p. (found_good a p).0 l, founded_found enough a)

    -- and of the nodes the true ones of the cone
    pub among_true : (n : ℕ) → n < th.nodes → EnoughAmong th marked cone never atom_never
        → Is (passed_among th marked cone never atom_never (th.atoms + n)) ↔ (Is (cone n) × Is (truth th never (atom_truth marked atom_never (founded_among th marked never atom_never)) n))
    unfolding Good env truth
    among_true n l enough = (
      λ p. (found_cone n p, (found_good (th.atoms + n) p).1 n refl),
      λ q. true_found enough (founded_among th marked never atom_never) (founded_found enough) (suc n) n l q.0 q.1,
    )

module _ (th : Theory) (cone never atom_never : Set) where
  pub mode_atom : (a : ℕ) → a < th.atoms → pass_mode th cone never atom_never a ≡ atom_mode th cone never atom_never a
  mode_atom = atom_among th (cyclic th) cone never atom_never

  pub mode_node : (n : ℕ) → pass_mode th cone never atom_never (th.atoms + n) ≡ node_mode th cone never atom_never n
  mode_node = node_among th (cyclic th) cone never atom_never

  module _ (ok : WellFormed th) where
    pub passed_founded : (a : ℕ) → a < th.atoms → Enough th cone never atom_never → Is (passed th cone never atom_never a) ↔ Is (founded th never atom_never a)
    unfolding founded
    passed_founded = among_founded th (cyclic th) cone never atom_never ok
