-- The loops of the test, a turn each: counting a node (`node_counted`) and a producer (`fact_counted`, `heads_start`, `head_counted`, `count_more`), and looking at a
-- vertex (`look_start`, `looked`, `added`). Stores past the tables leave the shape (`shape_set`).
use mathlib.Core.Path.{◌≡◌, refl, sym, ap, ◌∙◌}
use mathlib.Core.Logic.{◌⊎◌, inl, inr, ◌≢◌}
use mathlib.Core.List.Memᴰ
use mathlib.Core.List.{List, [], ◌∷◌}
use Prim.Native.Nat.{ℕ, suc, ◌+◌, ◌-◌, ◌≤◌, ◌<◌, zero-le}
use native.Mathlib.Omega.{arith}
use native.Mathlib.Numerals.{add-one}
use native.Mathlib.Decide.{ℕ_discrete, dec_lt}
use lib.ListN.{length, get_or, set, drop, length-set, length-drop}
use lib.Seq.{get_or-set_same, get_or-set_other, take-set-le, drop-set-add}
use Rattle.theory.specs.Sets.{Mem, everyone}
use Rattle.theory.specs.Counts.{count_in, occ}
use Rattle.theory.specs.Theory.{Theory}
use Rattle.theory.specs.Edges.{bodies_below, preds}
use Rattle.theory.specs.Prefix.{upto}
use Rattle.theory.proofs.CountLaws.{occ_none, occ_same, occ_other, pigeonhole}
use Rattle.theory.proofs.PrefixLaws.{upto_length, upto_push}
use Rattle.area.specs.declared.Bases.{Bases}
use Rattle.area.specs.Layout.{Laid}
use Rattle.area.proofs.PartLaws.{frame_at}
use Rattle.area.specs.Views.{count_at, queued}
use Rattle.rows.proofs.VertexLaws.{tables_same}
use Rattle.theory.specs.Drive.{Follows, Drives}
use Rattle.cycles.specs.Held.{Shape, Started, degree_by, Counting, Heads, Looked}
use Rattle.cycles.proofs.DegreeLaws.{below_fact, below_heads, degree_atom, degree_node, degree_few}

shape_set : {lim : ℕ} {th : Theory} {b : Bases} {w : List ℕ} (i x : ℕ) → b.states ≤ i → Shape lim th b w → Shape lim th b (set w i x)
shape_set {b = b} {w = w} i x h s = record {
  ok = s.ok;
  laid = s.laid;
  atoms = s.atoms;
  nodes = s.nodes;
  long = rw length-set s.long;
  small = s.small;
  few = s.few;
  tables = tables_same (take-set-le b.states w i x h) (length-set w i x) s.tables;
}

-- ---- counting

-- a node's count is stored
module _ {lim : ℕ} {th : Theory} {b : Bases} {w : List ℕ} {n : ℕ} (s : Started lim th b w n) (l : n < b.nodes) where
  pub node_place : b.dependencies + (b.atoms + n) < length w
  node_place = let k = s.shape.laid in let g = s.shape.long in omega arith

  module _ {x : ℕ} (e : x ≡ length (preds th everyone (th.atoms + n))) where
    degree_here : x ≡ length (preds th everyone (b.atoms + n))
    degree_here = e ∙ ap (λ (a : ℕ). length (preds th everyone (a + n))) (sym s.shape.atoms)

    pub node_counted : Started lim th b (set w (b.dependencies + (b.atoms + n)) x) (n + 1)
    node_counted = record {
      shape = shape_set (b.dependencies + (b.atoms + n)) x (let k = s.shape.laid in omega arith) s.shape;
      atoms = λ a k. get_or-set_other w (b.dependencies + (b.atoms + n)) (b.dependencies + a) x 0 (λ q. omega arith) ∙ s.atoms a k;
      nodes = λ m k. go m k (ℕ_discrete m n);
    }
      where
        go : (m : ℕ) → m < n + 1 → Dec (m ≡ n) → get_or (set w (b.dependencies + (b.atoms + n)) x) (b.dependencies + (b.atoms + m)) 0 ≡ length (preds th everyone (b.atoms + m))
        go m k (yes q) = rw q (get_or-set_same w (b.dependencies + (b.atoms + n)) x 0 node_place ∙ degree_here)
        go m k (no q) = get_or-set_other w (b.dependencies + (b.atoms + n)) (b.dependencies + (b.atoms + m)) x 0 (λ e. q (omega arith)) ∙ s.nodes m (omega arith)

-- the nodes are counted: no producer is begun
pub count_start : {lim : ℕ} {th : Theory} {b : Bases} {w : List ℕ} → Started lim th b w b.nodes → Counting lim th b w 0 []
unfolding count_in bodies_below
count_start {th = th} {b = b} {w = w} s = record {
  shape = s.shape;
  low = λ v m. absurd (Memᴰ.not-nil m);
  begun = zero-le;
  tally = λ v l. go v l (dec_lt v th.atoms);
}
  where
    go : (v : ℕ) → v < b.atoms + b.nodes → Dec (v < th.atoms) → count_at b w v + 0 ≡ degree_by th 0 v
    go v l (yes h) = let e = s.shape.atoms in omega (arith, s.atoms v (omega arith), degree_atom th 0 v h)
    go v l (no h) =
        let e = s.shape.atoms in
        let q : b.atoms + (v - b.atoms) ≡ v = omega arith in
        omega (arith, rw q at (s.nodes (v - b.atoms) (omega arith)), degree_node th 0 v (omega arith))

module _ {lim : ℕ} {th : Theory} {b : Bases} {w : List ℕ} {p : ℕ} (t : Counting lim th b w p []) (l : p < th.producers) where
  pub fact_counted : th.body p ≡ 0 → Counting lim th b w (p + 1) []
  unfolding count_in
  fact_counted z = record { shape = t.shape; low = t.low; begun = omega arith; tally = λ v i. go v (t.tally v i) (dec_lt v th.atoms) }
    where
      go : (v : ℕ) → count_at b w v + 0 ≡ degree_by th p v → Dec (v < th.atoms) → count_at b w v + 0 ≡ degree_by th (p + 1) v
      go v e (yes h) = omega (arith, degree_atom th p v h, degree_atom th (p + 1) v h, rw (sym (add-one p)) at (below_fact th v p z))
      go v e (no h) = omega (arith, degree_node th p v (omega arith), degree_node th (p + 1) v (omega arith))

  -- its heads are to be counted
  pub heads_start : th.body p ≢ 0 → Counting lim th b w (p + 1) (th.heads p)
  unfolding count_in
  heads_start some = record {
    shape = t.shape;
    low = λ v m. let h = t.shape.ok.head_low p v l m in let a = t.shape.atoms in omega arith;
    begun = omega arith;
    tally = λ v i. go v (t.tally v i) (dec_lt v th.atoms);
  }
    where
      go : (v : ℕ) → count_at b w v + 0 ≡ degree_by th p v → Dec (v < th.atoms) → count_at b w v + occ v (th.heads p) ≡ degree_by th (p + 1) v
      go v e (yes h) = omega (arith, degree_atom th p v h, degree_atom th (p + 1) v h, rw (sym (add-one p)) at (below_heads th v p some))
      go v e (no h) =
          omega (arith, degree_node th p v (omega arith), degree_node th (p + 1) v (omega arith), occ_none v (th.heads p) (λ m. h (t.shape.ok.head_low p v l m)))

-- the next of them is v: one more for it
module _ {lim : ℕ} {th : Theory} {b : Bases} {w : List ℕ} {p v : ℕ} {heads todo : List ℕ} (h : Counting lim th b w p heads) (e : heads ≡ v ∷ todo) where
  t : Counting lim th b w p (v ∷ todo)
  t = rw e at h

  head_low : v < b.atoms + b.nodes
  head_low = t.low v (Memᴰ.head refl)

  pub head_place : b.dependencies + v < length w
  head_place = let k = t.shape.laid in let g = t.shape.long in let l = head_low in omega arith

  pub head_fits : count_at b w v + 1 < lim
  head_fits = omega (arith, t.shape.few v head_low, t.tally v head_low, occ_same v todo, degree_few th p v t.begun)

  pub head_counted : Counting lim th b (set w (b.dependencies + v) (count_at b w v + 1)) p todo
  head_counted = record {
    shape = shape_set (b.dependencies + v) _ (let k = t.shape.laid in omega arith) t.shape;
    low = λ x m. t.low x (Memᴰ.tail m);
    begun = t.begun;
    tally = λ x l. tally x l (ℕ_discrete x v);
  }
    where
      tally : (x : ℕ) → x < b.atoms + b.nodes → Dec (x ≡ v) → count_at b (set w (b.dependencies + v) (count_at b w v + 1)) x + occ x todo ≡ degree_by th p x
      tally x l (yes q) =
          let k = t.tally v head_low in
          rw (q, get_or-set_same w (b.dependencies + v) (count_at b w v + 1) 0 head_place) (omega (arith, occ_same v todo))
      tally x l (no n) =
          let k = t.tally x l in
          rw (get_or-set_other w (b.dependencies + v) (b.dependencies + x) (count_at b w v + 1) 0 (λ e. n (omega arith))) (omega (arith, occ_other x v todo n))

-- the same as a step
module _ {lim : ℕ} {b : Bases} {w : List ℕ} {t v : ℕ} where
  pub count_place : Follows (Heads lim b) w t (v ∷ []) → b.dependencies + v < length w
  count_place f = head_place f.held refl

  pub count_fits : Follows (Heads lim b) w t (v ∷ []) → count_at b w v + 1 < lim
  count_fits f = head_fits f.held refl

  pub count_more : Drives (Heads lim b) 0 w t (v ∷ []) (set w (b.dependencies + v) (count_at b w v + 1)) t []
  count_more = record { frame = refl; size = length-set w (b.dependencies + v) (count_at b w v + 1); keeps = λ c more h. head_counted h refl }

-- ---- looking for the first vertices

pub look_start : {b : Bases} {w : List ℕ} → Looked b w w 0 0
unfolding upto
look_start = record { size = refl; before = refl; distinct = tt; first = λ v. ((λ m. absurd (Memᴰ.not-nil m)), λ h. let l = h.0 in absurd (omega arith)) }

module _ {b : Bases} {w₀ w : List ℕ} {v tail : ℕ} (k : Looked b w₀ w v tail) where
  pub look_room : tail ≤ v
  look_room = let p = pigeonhole v (queued b w tail) k.distinct (λ x m. ((k.first x).0 m).0) in let e = upto_length tail (drop b.queue w) in omega arith

  module _ (laid : Laid b) (long : b.end ≤ length w₀) (l : v < b.atoms + b.nodes) {n : ℕ} (en : n ≡ count_at b w v) where
    count_same : count_at b w₀ v ≡ n
    count_same = sym (en ∙ frame_at b.queue w₀ w k.before (b.dependencies + v) (omega arith))

    pub looked : n ≢ 0 → Looked b w₀ w (v + 1) tail
    looked z = record { size = k.size; before = k.before; distinct = k.distinct; first = λ x. (λ m. let r = (k.first x).0 m in let h = r.0 in (omega arith, r.1), λ h. (k.first x).1 (other x h.0 h.1 (ℕ_discrete x v), h.1)) }
      where
        other : (x : ℕ) → x < v + 1 → count_at b w₀ x ≡ 0 → Dec (x ≡ v) → x < v
        other x h e (yes q) = absurd (z (sym count_same ∙ ap (count_at b w₀) (sym q) ∙ e))
        other x h e (no q) = omega arith

    pub added : n ≡ 0 → Looked b w₀ (set w (b.queue + tail) v) (v + 1) (tail + 1)
    added z = record {
      size = length-set w (b.queue + tail) v ∙ k.size;
      before = take-set-le b.queue w (b.queue + tail) v (omega arith) ∙ k.before;
      distinct = rw push ((λ m. let h = ((k.first v).0 m).0 in omega arith), k.distinct);
      first = λ x. rw push ((λ m. go x (Memᴰ.cases_cons m)), λ h. back x h.0 h.1 (ℕ_discrete x v));
    }
      where
        push : queued b (set w (b.queue + tail) v) (tail + 1) ≡ v ∷ queued b w tail
        push =
            let r = look_room in let s = k.size in
            ap (λ (i : ℕ). upto i (drop b.queue (set w (b.queue + tail) v))) (add-one tail) ∙ ap (upto (suc tail)) (drop-set-add b.queue w tail v)
            ∙ upto_push tail v (drop b.queue w) (omega (arith, length-drop b.queue w))

        go : (x : ℕ) → (x ≡ v) ⊎ Mem x (queued b w tail) → (x < v + 1) × (count_at b w₀ x ≡ 0)
        go x (inl e) = (omega arith, ap (count_at b w₀) e ∙ count_same ∙ z)
        go x (inr m) = let r = (k.first x).0 m in let h = r.0 in (omega arith, r.1)

        back : (x : ℕ) → x < v + 1 → count_at b w₀ x ≡ 0 → Dec (x ≡ v) → Mem x (v ∷ queued b w tail)
        back x h e (yes q) = Memᴰ.head q
        back x h e (no q) = Memᴰ.tail ((k.first x).1 (omega arith, e))
