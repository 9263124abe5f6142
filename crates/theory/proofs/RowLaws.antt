-- The rows of a stream hold each item as often as its keys name the row (`row_count`), so an edge stands in the row of its source as often as
-- in the predecessor list of its target (`succs_preds`). How many entries there are: `stream_length`, `rows_length`, `preds_few`.
use mathlib.Core.Path.{◌≡◌, refl, sym, ap, ap₂, ◌∙◌, subst}
use mathlib.Core.Logic.{◌⊎◌, inl, inr, ◌≢◌}
use mathlib.Core.Bool.{Bool, true, false, cond}
use mathlib.Core.List.Memᴰ
use mathlib.Core.List.{List, [], ◌∷◌, ◌++◌, map, append_assoc, append-nil}
use Prim.Native.Nat.{ℕ, zero, suc, ◌+◌, ◌-◌, ◌≤◌, ◌<◌}
use native.Mathlib.Nat.{not-suc-le-zero, add-zero}
use native.Mathlib.Omega.{arith}
use native.Mathlib.Decide.{ℕ_discrete, dec_lt}
use borrow.Author.Tests.{lt-ltb, le-ltb}
use lib.Dec.{eqb, ltb}
use lib.ListN.{length, length-append, length-map}
use Rattle.theory.specs.Sets.{Mem, everyone, sum_below}
use Rattle.theory.specs.Counts.{count_in, occ}
use Rattle.theory.specs.Theory.{Theory, Kind, False, Atom, And, Or, Opaque, Absorbed, WellFormed, joins}
use Rattle.theory.specs.Edges.{occurrences, body_entries, bodies_below, inputs, preds}
use Rattle.theory.specs.Accepted.{leaf_entries, head_entries}
use Rattle.theory.specs.Rows.{Edge, edge, entries, tagged, stream, flat_map, body_keys, atom_keys, leaf_keys, atom_nodes, parents, by_head, by_body, shifted, node_succs, succs}
use Rattle.theory.proofs.SetLaws.{clash, is_false, eq_is, is_eq}
use Rattle.theory.proofs.EdgeLaws.{preds_atom, preds_node, edge_atom, bodies_of, preds_low}
use Rattle.theory.proofs.CountLaws.{occ_same, occ_other, occ_mem, occ_none, count_append, sum_occ, sum_le, sum_same, sum_one}

-- ---- one row

pub entries_same : (r x : ℕ) (l : List Edge) → entries r (edge r x ∷ l) ≡ x ∷ entries r l
unfolding entries
entries_same r x l = ap (λ (t : Bool). cond t (x ∷ entries r l) (entries r l)) (is_eq r r refl)

pub entries_other : (r k x : ℕ) (l : List Edge) → r ≢ k → entries r (edge k x ∷ l) ≡ entries r l
unfolding entries
entries_other r k x l n = ap (λ (t : Bool). cond t (x ∷ entries r l) (entries r l)) (is_false (eqb r k) (λ p. n (eq_is r k p)))

pub entries_append : (r : ℕ) (s t : List Edge) → entries r (s ++ t) ≡ entries r s ++ entries r t
unfolding entries
entries_append r [] t = refl
entries_append r (e ∷ s) t = go (eqb r e.row) (entries_append r s t)
  where
    go : (b : Bool) → entries r (s ++ t) ≡ entries r s ++ entries r t → cond b (e.entry ∷ entries r (s ++ t)) (entries r (s ++ t)) ≡ cond b (e.entry ∷ entries r s) (entries r s) ++ entries r t
    go true h = ap (λ (l : List ℕ). e.entry ∷ l) h
    go false h = h

-- the rows' lengths are how often each row is named
entries_length : (r : ℕ) (l : List Edge) → length (entries r l) ≡ occ r (map (λ e. e.row) l)
unfolding entries count_in
entries_length r [] = refl
entries_length r (e ∷ l) = go (eqb r e.row) (entries_length r l)
  where
    go : (b : Bool) → length (entries r l) ≡ occ r (map (λ e. e.row) l) → length (cond b (e.entry ∷ entries r l) (entries r l)) ≡ cond b (suc (occ r (map (λ e. e.row) l))) (occ r (map (λ e. e.row) l))
    go true h = ap suc h
    go false h = h

pub rows_length : (rows : ℕ) (l : List Edge) → sum_below rows (λ r. length (entries r l)) ≤ length l
rows_length rows l =
    let a = sum_same rows (λ r. length (entries r l)) (λ r. occ r (map (λ e. e.row) l)) (λ r h. entries_length r l) in
    let c = sum_occ rows (map (λ e. e.row) l) in
    let d = length-map l (λ e. e.row) in
    omega arith

-- ---- the rows of a stream

entries_tagged : (r i : ℕ) (ks : List ℕ) → entries r (tagged i ks) ≡ occurrences i r ks
unfolding entries occurrences
entries_tagged r i [] = refl
entries_tagged r i (k ∷ ks) = ap (λ (l : List ℕ). cond (eqb r k) (i ∷ l) l) (entries_tagged r i ks)

occurrences_same : (x a : ℕ) (hs : List ℕ) → occ x (occurrences x a hs) ≡ occ a hs
unfolding occurrences count_in
occurrences_same x a [] = refl
occurrences_same x a (h ∷ hs) = go (eqb a h) (occurrences_same x a hs)
  where
    go : (b : Bool) → occ x (occurrences x a hs) ≡ occ a hs → occ x (cond b (x ∷ occurrences x a hs) (occurrences x a hs)) ≡ cond b (suc (occ a hs)) (occ a hs)
    go true r = occ_same x (occurrences x a hs) ∙ ap suc r
    go false r = r

occurrences_other : (y x a : ℕ) (hs : List ℕ) → y ≢ x → occ y (occurrences x a hs) ≡ 0
unfolding occurrences count_in
occurrences_other y x a [] n = refl
occurrences_other y x a (h ∷ hs) n = go (eqb a h) (occurrences_other y x a hs n)
  where
    go : (b : Bool) → occ y (occurrences x a hs) ≡ 0 → occ y (cond b (x ∷ occurrences x a hs) (occurrences x a hs)) ≡ 0
    go true r = occ_other y x (occurrences x a hs) n ∙ r
    go false r = r

pub stream_last : (keys : ℕ → List ℕ) (i n : ℕ) → stream keys i (suc n) ≡ stream keys i n ++ tagged (i + n) (keys (i + n))
unfolding stream
stream_last keys i zero = append-nil (tagged i (keys i)) ∙ ap (λ (k : ℕ). tagged k (keys k)) (sym (add-zero i))
stream_last keys i (suc n) =
    let e : suc i + n ≡ i + suc n = omega arith in
    ap (λ (l : List Edge). tagged i (keys i) ++ l) (stream_last keys (suc i) n ∙ ap (λ (k : ℕ). stream keys (suc i) n ++ tagged k (keys k)) e)
    ∙ sym (append_assoc (tagged i (keys i)) (stream keys (suc i) n) (tagged (i + suc n) (keys (i + suc n))))

pub stream_length : (keys : ℕ → List ℕ) (n : ℕ) → length (stream keys 0 n) ≡ sum_below n (λ i. length (keys i))
unfolding sum_below stream
stream_length keys zero = refl
stream_length keys (suc n) =
    let e : 0 + n ≡ n = omega arith in
    ap length (stream_last keys 0 n) ∙ length-append (stream keys 0 n) (tagged (0 + n) (keys (0 + n)))
    ∙ ap₂ (λ (a b : ℕ). a + b) (stream_length keys n) (length-map (keys (0 + n)) (λ k. edge k (0 + n)) ∙ ap (λ (j : ℕ). length (keys j)) e)
    ∙ omega arith

-- row k up to item n, and then item n
pub row_last : (keys : ℕ → List ℕ) (n k : ℕ) → entries k (stream keys 0 (suc n)) ≡ entries k (stream keys 0 n) ++ occurrences n k (keys n)
row_last keys n k =
    let e : 0 + n ≡ n = omega arith in
    ap (entries k) (stream_last keys 0 n) ∙ entries_append k (stream keys 0 n) (tagged (0 + n) (keys (0 + n)))
    ∙ ap (λ (l : List ℕ). entries k (stream keys 0 n) ++ l) (entries_tagged k (0 + n) (keys (0 + n)) ∙ ap (λ (j : ℕ). occurrences j k (keys j)) e)

row_past : (keys : ℕ → List ℕ) (n k i : ℕ) → n ≤ i → occ i (entries k (stream keys 0 n)) ≡ 0
unfolding stream entries count_in
row_past keys zero k i h = refl
row_past keys (suc n) k i h =
    let e = ap (occ i) (row_last keys n k) ∙ count_append (λ x. eqb i x) (entries k (stream keys 0 n)) (occurrences n k (keys n)) in
    let p = row_past keys n k i (omega arith) in
    let q = occurrences_other i n k (keys n) (λ e. omega arith) in
    omega arith

-- an item stands in a row as often as the row stands among its keys
pub row_count : (keys : ℕ → List ℕ) (n k i : ℕ) → i < n → occ i (entries k (stream keys 0 n)) ≡ occ k (keys i)
row_count keys zero k i h = absurd (not-suc-le-zero h)
row_count keys (suc n) k i h =
    ap (occ i) (row_last keys n k) ∙ count_append (λ x. eqb i x) (entries k (stream keys 0 n)) (occurrences n k (keys n)) ∙ go (ℕ_discrete i n) (row_count keys n k i)
  where
    go : Dec (i ≡ n) → (i < n → occ i (entries k (stream keys 0 n)) ≡ occ k (keys i)) → occ i (entries k (stream keys 0 n)) + occ i (occurrences n k (keys n)) ≡ occ k (keys i)
    go (yes e) rest =
        let p = row_past keys n k i (omega arith) in
        let q : occ i (occurrences n k (keys n)) ≡ occ k (keys i) = subst (λ (z : ℕ). occ i (occurrences z k (keys z)) ≡ occ k (keys i)) e (occurrences_same i k (keys i)) in
        omega arith
    go (no m) rest = let p = rest (omega arith) in let q = occurrences_other i n k (keys n) m in omega arith

pub row_item : (keys : ℕ → List ℕ) (n k i : ℕ) → Mem i (entries k (stream keys 0 n)) → i < n
row_item keys n k i m = go (dec_lt i n)
  where
    go : Dec (i < n) → i < n
    go (yes l) = l
    go (no l) = let p = row_past keys n k i (omega arith) in let q = occ_mem m in absurd (omega arith)

-- ---- maps

occ_shift : (a v : ℕ) (l : List ℕ) → occ (a + v) (map (λ m. a + m) l) ≡ occ v l
unfolding count_in
occ_shift a v [] = refl
occ_shift a v (x ∷ l) = go (ℕ_discrete v x) (occ_shift a v l)
  where
    go : Dec (v ≡ x) → occ (a + v) (map (λ m. a + m) l) ≡ occ v l → occ (a + v) ((a + x) ∷ map (λ m. a + m) l) ≡ occ v (x ∷ l)
    go (yes e) h = subst (λ (z : ℕ). occ (a + v) ((a + z) ∷ map (λ m. a + m) l) ≡ occ v (z ∷ l)) e (occ_same (a + v) (map (λ m. a + m) l) ∙ ap suc h ∙ sym (occ_same v l))
    go (no n) h = occ_other (a + v) (a + x) (map (λ m. a + m) l) (λ q. n (omega arith)) ∙ h ∙ sym (occ_other v x l n)

-- below the shift nothing is met
occ_under : (a v : ℕ) (l : List ℕ) → v < a → occ v (map (λ m. a + m) l) ≡ 0
occ_under a v l h = occ_none v (map (λ m. a + m) l) (λ i. let r = Memᴰ.of_map (λ m. a + m) l i in let e = r.2 in omega arith)

occ_flat : (f : ℕ → List ℕ) (v : ℕ) (s t : List ℕ) → occ v (flat_map f (s ++ t)) ≡ occ v (flat_map f s) + occ v (flat_map f t)
unfolding flat_map count_in
occ_flat f v [] t = omega arith
occ_flat f v (x ∷ s) t =
    let h = occ_flat f v s t in
    let p = count_append (λ x. eqb v x) (f x) (flat_map f (s ++ t)) in
    let q = count_append (λ x. eqb v x) (f x) (flat_map f s) in
    omega arith

pub flat_item : (f : ℕ → List ℕ) (v : ℕ) (l : List ℕ) → Mem v (flat_map f l) → (x : ℕ) × Mem x l × Mem v (f x)
unfolding flat_map
flat_item f v [] m = absurd (Memᴰ.not-nil m)
flat_item f v (x ∷ l) m = go (Memᴰ.append_cases (f x) m) (flat_item f v l)
  where
    go : Mem v (f x) ⊎ Mem v (flat_map f l) → (Mem v (flat_map f l) → (y : ℕ) × Mem y l × Mem v (f y)) → (y : ℕ) × Mem y (x ∷ l) × Mem v (f y)
    go (inl i) rest = (x, Memᴰ.head refl, i)
    go (inr i) rest = let r = rest i in (r.0, Memᴰ.tail r.1, r.2)

pub flat_mem : (f : ℕ → List ℕ) {v x : ℕ} {l : List ℕ} → Mem x l → Mem v (f x) → Mem v (flat_map f l)
unfolding flat_map
flat_mem f {v} (Memᴰ.head {x = y} {xs = l} e) i = Memᴰ.append_left (flat_map f l) (subst (λ (z : ℕ). Mem v (f z)) e i)
flat_mem f (Memᴰ.tail {x = y} {xs = l} m) i = Memᴰ.append_right (f y) (flat_mem f m i)

-- ---- the edges, from the rows

module _ (th : Theory) where
  pub succs_atom : (a : ℕ) → a < th.atoms → succs th a ≡ shifted th (entries a (atom_nodes th))
  unfolding succs
  succs_atom a l = ap (λ (b : Bool). cond b (shifted th (entries a (atom_nodes th))) (node_succs th (a - th.atoms))) (lt-ltb a th.atoms l)

  pub succs_node : (v : ℕ) → th.atoms ≤ v → succs th v ≡ node_succs th (v - th.atoms)
  unfolding succs
  succs_node v l = ap (λ (b : Bool). cond b (shifted th (entries v (atom_nodes th))) (node_succs th (v - th.atoms))) (le-ltb v th.atoms l)

  -- the heads of the producers with body m, against the bodies of the producers with head a
  heads_bodies : (a m r : ℕ) → occ a (flat_map th.heads (entries m (stream (λ p. body_keys (th.body p)) 0 r))) ≡ occ (th.atoms + m) (bodies_below th a r)
  unfolding stream entries flat_map bodies_below count_in body_entries occurrences body_keys
  heads_bodies a m zero = refl
  heads_bodies a m (suc r) =
      let h = heads_bodies a m r in
      let e = ap (λ (l : List ℕ). occ a (flat_map th.heads l)) (row_last (λ p. body_keys (th.body p)) r m) in
      let p = occ_flat th.heads a (entries m (stream (λ p. body_keys (th.body p)) 0 r)) (occurrences r m (body_keys (th.body r))) in
      let q = count_append (λ x. eqb (th.atoms + m) x) (bodies_below th a r) (body_entries th a (th.body r) (th.heads r)) in
      let l = last (th.body r) in
      omega arith
    where
      last : (k : ℕ) → occ a (flat_map th.heads (occurrences r m (body_keys k))) ≡ occ (th.atoms + m) (body_entries th a k (th.heads r))
      last zero = refl
      last (suc n) = go (eqb m n) refl
        where
          go : (b : Bool) → eqb m n ≡ b → occ a (flat_map th.heads (cond b (r ∷ []) [])) ≡ occ (th.atoms + m) (occurrences (th.atoms + n) a (th.heads r))
          go true e =
              ap (occ a) (append-nil (th.heads r))
              ∙ sym (subst (λ (z : ℕ). occ (th.atoms + m) (occurrences (th.atoms + z) a (th.heads r)) ≡ occ a (th.heads r)) (eq_is m n e) (occurrences_same (th.atoms + m) a (th.heads r)))
          go false e = sym (occurrences_other (th.atoms + m) (th.atoms + n) a (th.heads r) (λ k. clash (is_eq m n (omega arith)) e))

  module _ (ok : WellFormed th) where
    atom_atom : (a u : ℕ) → a < th.atoms → u < th.atoms → occ a (succs th u) ≡ occ u (preds th everyone a)
    atom_atom a u l k =
        ap (occ a) (succs_atom u k) ∙ occ_under th.atoms a (entries u (atom_nodes th)) l
        ∙ sym (ap (occ u) (preds_atom th everyone a l) ∙ occ_none u (bodies_below th a th.producers) (λ i. let q = bodies_of th a u th.producers i in let e = q.5 in omega arith))

    atom_node : (n u : ℕ) → n < th.nodes → u < th.atoms → occ (th.atoms + n) (succs th u) ≡ occ u (preds th everyone (th.atoms + n))
    unfolding atom_nodes atom_keys inputs count_in
    atom_node n u l k =
        ap (occ (th.atoms + n)) (succs_atom u k) ∙ occ_shift th.atoms n (entries u (atom_nodes th)) ∙ row_count (λ n. atom_keys th (th.kind n) n) th.nodes u n l
        ∙ by (th.kind n) ∙ sym (ap (occ u) (preds_node th everyone n l refl))
      where
        by : (d : Kind) → occ u (atom_keys th d n) ≡ occ u (inputs th d n)
        by False = refl
        by Atom = refl
        by And = sym (occ_under th.atoms u (th.leaves n) k)
        by Or = sym (occ_under th.atoms u (th.leaves n) k)
        by Opaque = refl
        by Absorbed = refl

    node_is : (m : ℕ) → succs th (th.atoms + m) ≡ node_succs th m
    node_is m = let e : th.atoms + m - th.atoms ≡ m = omega arith in succs_node (th.atoms + m) (omega arith) ∙ ap (node_succs th) e

    node_atom : (a m : ℕ) → a < th.atoms → occ a (succs th (th.atoms + m)) ≡ occ (th.atoms + m) (preds th everyone a)
    unfolding node_succs by_body
    node_atom a m l =
        let p = ap (occ a) (node_is m) ∙ count_append (λ x. eqb a x) (shifted th (entries m (parents th))) (flat_map th.heads (entries m (by_body th))) in
        let q = occ_under th.atoms a (entries m (parents th)) l in
        let h = heads_bodies a m th.producers in
        let e = ap (occ (th.atoms + m)) (preds_atom th everyone a l) in
        omega arith

    node_node : (n m : ℕ) → n < th.nodes → occ (th.atoms + n) (succs th (th.atoms + m)) ≡ occ (th.atoms + m) (preds th everyone (th.atoms + n))
    unfolding node_succs by_body parents leaf_keys inputs count_in joins
    node_node n m l =
        let p = ap (occ (th.atoms + n)) (node_is m) ∙ count_append (λ x. eqb (th.atoms + n) x) (shifted th (entries m (parents th))) (flat_map th.heads (entries m (by_body th))) in
        let h = heads_bodies (th.atoms + n) m th.producers ∙ occ_none (th.atoms + m) (bodies_below th (th.atoms + n) th.producers) high in
        let q = occ_shift th.atoms n (entries m (parents th)) ∙ row_count (λ n. leaf_keys th (th.kind n) n) th.nodes m n l ∙ by (th.kind n) refl in
        let e = ap (occ (th.atoms + m)) (preds_node th everyone n l refl) in
        omega arith
      where
        high : Mem (th.atoms + m) (bodies_below th (th.atoms + n) th.producers) → ⊥
        high i = let q = bodies_of th (th.atoms + n) (th.atoms + m) th.producers i in let h = ok.head_low q.0 (th.atoms + n) q.2 q.4 in omega arith

        by : (d : Kind) → th.kind n ≡ d → occ m (leaf_keys th d n) ≡ occ (th.atoms + m) (inputs th d n)
        by False e = refl
        by Atom e = let h = ok.operand_low n l e in sym (occ_none (th.atoms + m) (th.operand n ∷ []) (λ i. let q = Memᴰ.eq_of_singleton i in omega arith))
        by And e = sym (occ_shift th.atoms m (th.leaves n))
        by Or e = sym (occ_shift th.atoms m (th.leaves n))
        by Opaque e = refl
        by Absorbed e = refl

    -- an edge stands in the row of its source as often as in the list of its target
    pub succs_preds : (u v : ℕ) → v < th.atoms + th.nodes → occ v (succs th u) ≡ occ u (preds th everyone v)
    succs_preds u v l = go (dec_lt u th.atoms) (dec_lt v th.atoms)
      where
        as_node : (w : ℕ) → (w < th.atoms → ⊥) → th.atoms + (w - th.atoms) ≡ w
        as_node w n = omega arith

        go : Dec (u < th.atoms) → Dec (v < th.atoms) → occ v (succs th u) ≡ occ u (preds th everyone v)
        go (yes p) (yes q) = atom_atom v u q p
        go (yes p) (no q) = subst (λ (z : ℕ). occ z (succs th u) ≡ occ u (preds th everyone z)) (as_node v q) (atom_node (v - th.atoms) u (omega arith) p)
        go (no p) (yes q) = subst (λ (z : ℕ). occ v (succs th z) ≡ occ z (preds th everyone v)) (as_node u p) (node_atom v (u - th.atoms) q)
        go (no p) (no q) =
            subst (λ (z : ℕ). occ v (succs th z) ≡ occ z (preds th everyone v)) (as_node u p)
            (subst (λ (z : ℕ). occ z (succs th (th.atoms + (u - th.atoms))) ≡ occ (th.atoms + (u - th.atoms)) (preds th everyone z)) (as_node v q)
            (node_node (v - th.atoms) (u - th.atoms) (omega arith)))

    -- a row holds vertices
    pub succs_low : (u v : ℕ) → Mem v (succs th u) → v < th.atoms + th.nodes
    unfolding succs node_succs atom_nodes parents by_body
    succs_low u v m = go (ltb u th.atoms) m
      where
        node : (keys : ℕ → List ℕ) (k : ℕ) → Mem v (shifted th (entries k (stream keys 0 th.nodes))) → v < th.atoms + th.nodes
        node keys k i =
            let r = Memᴰ.of_map (λ n. th.atoms + n) (entries k (stream keys 0 th.nodes)) i in
            let l = row_item keys th.nodes k r.0 r.1 in
            let e = r.2 in
            omega arith

        last : Mem v (shifted th (entries (u - th.atoms) (parents th))) ⊎ Mem v (flat_map th.heads (entries (u - th.atoms) (by_body th))) → v < th.atoms + th.nodes
        last (inl i) = node _ _ i
        last (inr i) =
            let r = flat_item th.heads v (entries (u - th.atoms) (by_body th)) i in
            let l = row_item (λ p. body_keys (th.body p)) th.producers (u - th.atoms) r.0 r.1 in
            let h = ok.head_low r.0 v l r.2 in
            omega arith

        go : (b : Bool) → Mem v (cond b (shifted th (entries u (atom_nodes th))) (node_succs th (u - th.atoms))) → v < th.atoms + th.nodes
        go true i = node _ _ i
        go false i = last (Memᴰ.append_cases (shifted th (entries (u - th.atoms) (parents th))) i)

    -- and an edge comes from a vertex
    pub preds_from : (u v : ℕ) → Mem u (preds th everyone v) → u < th.atoms + th.nodes
    unfolding inputs
    preds_from u v m = go (dec_lt v th.atoms)
      where
        inputs_from : (n : ℕ) → n < th.nodes → (k : Kind) → th.kind n ≡ k → Mem u (inputs th k n) → u < th.atoms + th.nodes
        inputs_from n l False e m = absurd (Memᴰ.not-nil m)
        inputs_from n l Atom e m = let h = ok.operand_low n l e in let q = Memᴰ.eq_of_singleton m in omega arith
        inputs_from n l And e m = let r = Memᴰ.of_map (λ m. th.atoms + m) (th.leaves n) m in let h = ok.leaf_low n r.0 l r.1 in let q = r.2 in omega arith
        inputs_from n l Or e m = let r = Memᴰ.of_map (λ m. th.atoms + m) (th.leaves n) m in let h = ok.leaf_low n r.0 l r.1 in let q = r.2 in omega arith
        inputs_from n l Opaque e m = absurd (Memᴰ.not-nil m)
        inputs_from n l Absorbed e m = absurd (Memᴰ.not-nil m)

        go : Dec (v < th.atoms) → u < th.atoms + th.nodes
        go (yes l) = let q = (edge_atom th everyone v u l).0 m in let h = ok.body_low q.0 q.1 q.2 q.3 in let e = q.5 in omega arith
        go (no l) =
            let h = preds_low th everyone v u m in
            let e : v ≡ th.atoms + (v - th.atoms) = omega arith in
            let k : v - th.atoms < th.nodes = omega arith in
            inputs_from (v - th.atoms) k (th.kind (v - th.atoms)) refl
            (subst (λ (l : List ℕ). Mem u l) (preds_node th everyone (v - th.atoms) k refl) (subst (λ (z : ℕ). Mem u (preds th everyone z)) e m))

  -- ---- how many edges lead to a vertex

  bodies_few : (a r : ℕ) → length (bodies_below th a r) ≤ sum_below r (λ p. length (th.heads p))
  unfolding bodies_below sum_below body_entries occurrences
  bodies_few a zero = omega arith
  bodies_few a (suc r) = let h = bodies_few a r in let k = last (th.body r) in omega (arith, length-append (bodies_below th a r) (body_entries th a (th.body r) (th.heads r)))
    where
      few : (x : ℕ) (hs : List ℕ) → length (occurrences x a hs) ≤ length hs
      few x [] = omega arith
      few x (h ∷ hs) = go (eqb a h) (few x hs)
        where
          go : (b : Bool) → length (occurrences x a hs) ≤ length hs → length (cond b (x ∷ occurrences x a hs) (occurrences x a hs)) ≤ suc (length hs)
          go true r = omega arith
          go false r = omega arith

      last : (n : ℕ) → length (body_entries th a n (th.heads r)) ≤ length (th.heads r)
      last zero = omega arith
      last (suc n) = few (th.atoms + n) (th.heads r)

  pub preds_few : (v : ℕ) → v < th.atoms + th.nodes → length (preds th everyone v) ≤ 1 + leaf_entries th + head_entries th
  unfolding inputs
  preds_few v l = go (dec_lt v th.atoms)
    where
      inputs_few : (k : Kind) (n : ℕ) → length (inputs th k n) ≤ 1 + length (th.leaves n)
      inputs_few False n = omega arith
      inputs_few Atom n = omega arith
      inputs_few And n = omega (arith, length-map (th.leaves n) (λ m. th.atoms + m))
      inputs_few Or n = omega (arith, length-map (th.leaves n) (λ m. th.atoms + m))
      inputs_few Opaque n = omega arith
      inputs_few Absorbed n = omega arith

      go : Dec (v < th.atoms) → length (preds th everyone v) ≤ 1 + leaf_entries th + head_entries th
      go (yes k) = omega (arith, ap length (preds_atom th everyone v k), bodies_few v th.producers)
      go (no k) =
          let n : v - th.atoms < th.nodes = omega arith in
          let e : v ≡ th.atoms + (v - th.atoms) = omega arith in
          omega (
            arith,
            ap (λ (z : ℕ). length (preds th everyone z)) e ∙ ap length (preds_node th everyone (v - th.atoms) n refl),
            inputs_few (th.kind (v - th.atoms)) (v - th.atoms),
            sum_one th.nodes (λ n. length (th.leaves n)) (v - th.atoms) n,
          )

  -- ---- how many entries the tables have

  ones : (n : ℕ) → sum_below n (λ i. 1) ≡ n
  unfolding sum_below
  ones zero = refl
  ones (suc n) = let h = ones n in omega arith

  pub atom_nodes_few : length (atom_nodes th) ≤ th.nodes
  unfolding atom_nodes atom_keys
  atom_nodes_few =
      omega (arith, stream_length (λ n. atom_keys th (th.kind n) n) th.nodes, sum_le th.nodes (λ n. length (atom_keys th (th.kind n) n)) (λ n. 1) (λ n l. one (th.kind n) n), ones th.nodes)
    where
      one : (k : Kind) (n : ℕ) → length (atom_keys th k n) ≤ 1
      one False n = omega arith
      one Atom n = omega arith
      one And n = omega arith
      one Or n = omega arith
      one Opaque n = omega arith
      one Absorbed n = omega arith

  pub parents_few : length (parents th) ≤ leaf_entries th
  unfolding parents leaf_keys
  parents_few =
      omega (arith, stream_length (λ n. leaf_keys th (th.kind n) n) th.nodes, sum_le th.nodes (λ n. length (leaf_keys th (th.kind n) n)) (λ n. length (th.leaves n)) (λ n l. few (joins (th.kind n)) n))
    where
      few : (b : Bool) (n : ℕ) → length (cond b (th.leaves n) []) ≤ length (th.leaves n)
      few true n = omega arith
      few false n = omega arith

  pub by_head_few : length (by_head th) ≤ head_entries th
  unfolding by_head
  by_head_few = omega (arith, stream_length th.heads th.producers)

  pub by_body_few : length (by_body th) ≤ th.producers
  unfolding by_body body_keys
  by_body_few =
      omega (arith, stream_length (λ p. body_keys (th.body p)) th.producers, sum_le th.producers (λ p. length (body_keys (th.body p))) (λ p. 1) (λ p l. one (th.body p)), ones th.producers)
    where
      one : (k : ℕ) → length (body_keys k) ≤ 1
      one zero = omega arith
      one (suc k) = omega arith
