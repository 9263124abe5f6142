-- The work of a lone pass is at most A + 2N + leaf entries + head entries (`work_few`). It is the heads of the facts and, for each vertex found, the vertex and the entries
-- of its row (`charge_atom`, `charge_node`, `work_vertices`). So a pass that has found any vertices, each once, has done no more so far (of a queue `queue_work`), and at its
-- end that much (`worklist_done`). The heads of the facts are those that the pass starts with (`facts_members`).
use mathlib.Core.Path.{◌≡◌, refl, sym, ap, ◌∙◌, subst}
use mathlib.Core.Bool.{Bool, true, false, ◌&&◌, cond}
use mathlib.Core.List.Memᴰ
use mathlib.Core.List.{List, [], ◌∷◌, ◌++◌}
use Prim.Native.Nat.{ℕ, zero, suc, ◌+◌, ◌*◌, ◌-◌, ◌≤◌, ◌<◌}
use native.Mathlib.Nat.{not-suc-le-zero}
use native.Mathlib.Omega.{arith}
use native.Mathlib.Decide.{ℕ_discrete}
use borrow.Author.Tests.{eq-eqb, ne_eqb}
use lib.Dec.{eqb}
use lib.ListN.{length, get_or, length-append, length-map}
use Rattle.theory.specs.Sets.{Is, Set, everyone, Mem, any, members, sum_below}
use Rattle.theory.specs.Counts.{count_in, occ, Distinct}
use Rattle.theory.specs.Theory.{Theory, WellFormed, Kind, False, Atom, And, Or, Opaque, Absorbed}
use Rattle.theory.specs.Edges.{occurrences, vertices, preds}
use Rattle.theory.specs.Accepted.{leaf_entries, head_entries}
use Rattle.theory.specs.Rows.{entries, stream, flat_map, body_keys, atom_keys, leaf_keys, atom_nodes, parents, by_body, shifted, node_succs}
use Rattle.theory.specs.Founded.{cyclic, cyclic_cone, founded}
use Rattle.theory.specs.Worklist.{Worklist}
use Rattle.theory.specs.Prefix.{upto}
use Rattle.theory.specs.Pass.{pass_mode, passed}
use Rattle.theory.proofs.SetLaws.{same_test, and_intro, and_left, and_right}
use Rattle.theory.proofs.CountLaws.{sum_le, sum_same}
use Rattle.theory.proofs.RowLaws.{rows_length, row_last, succs_atom, succs_node, atom_nodes_few, parents_few}
use Rattle.theory.proofs.ClosureLaws.{closure_induct}
use Rattle.theory.proofs.WorklistLaws.{worklist_end}
use Rattle.theory.proofs.PassLaws.{cyclic_cone_enough, passed_founded, among_true}
use Rattle.theory.specs.Work.{sum_in, names, fact_heads, naming, parent_entries, body_heads, true_in_cone, work}
use Rattle.theory.specs.Charge.{sum_over, charge}
use Rattle.theory.proofs.SumLaws.{sum_none, sum_constant, sum_add, sum_swap, sum_split, in_le, in_same, over_some, over_all, over_members}

-- ---- how much there can be

occurrences_length : (x k : ℕ) (l : List ℕ) → length (occurrences x k l) ≡ occ k l
unfolding occurrences count_in
occurrences_length x k [] = refl
occurrences_length x k (y ∷ l) = go (eqb k y) (occurrences_length x k l)
  where
    go : (b : Bool) → length (occurrences x k l) ≡ occ k l → length (cond b (x ∷ occurrences x k l) (occurrences x k l)) ≡ cond b (suc (occ k l)) (occ k l)
    go true h = ap suc h
    go false h = h

-- a row is as long as its number is met among the keys
row_length : (keys : ℕ → List ℕ) (n k : ℕ) → length (entries k (stream keys 0 n)) ≡ sum_below n (λ i. occ k (keys i))
unfolding stream entries sum_below
row_length keys zero k = refl
row_length keys (suc n) k =
    let a = ap length (row_last keys n k) ∙ length-append (entries k (stream keys 0 n)) (occurrences n k (keys n)) in
    let b = occurrences_length n k (keys n) in
    let c = row_length keys n k in
    omega arith

keys_few : (keys : ℕ → List ℕ) (rows items : ℕ) → sum_below rows (λ r. sum_below items (λ i. occ r (keys i))) ≤ length (stream keys 0 items)
keys_few keys rows items =
    let a = sum_same rows (λ r. length (entries r (stream keys 0 items))) (λ r. sum_below items (λ i. occ r (keys i))) (λ r l. row_length keys items r) in
    let b = rows_length rows (stream keys 0 items) in
    omega arith

-- one term of the sum at most is not 0
sum_at : (n k c : ℕ) → sum_below n (λ m. cond (eqb k m) c 0) ≤ c
unfolding sum_below
sum_at zero k c = omega arith
sum_at (suc n) k c = go (ℕ_discrete k n) (sum_at n k c)
  where
    go : Dec (k ≡ n) → sum_below n (λ m. cond (eqb k m) c 0) ≤ c → cond (eqb k n) c 0 + sum_below n (λ m. cond (eqb k m) c 0) ≤ c
    go (yes e) rest =
        let a : cond (eqb k n) c 0 ≡ c = ap (λ (b : Bool). cond b c 0) (eq-eqb k n e) in
        let d = sum_none n (λ m. cond (eqb k m) c 0) (λ m l. ap (λ (b : Bool). cond b c 0) (ne_eqb k m (λ q. omega arith))) in
        omega arith
    go (no e) rest = let a : cond (eqb k n) c 0 ≡ 0 = ap (λ (b : Bool). cond b c 0) (ne_eqb k n e) in omega arith

module _ (th : Theory) where
  naming_keys : (a : ℕ) → naming th a ≡ sum_below th.nodes (λ n. occ a (atom_keys th (th.kind n) n))
  unfolding naming sum_in names atom_keys count_in
  naming_keys a = sum_same th.nodes (λ n. cond (names (th.kind n) (th.operand n) a) 1 0) (λ n. occ a (atom_keys th (th.kind n) n)) (λ n l. one n (th.kind n))
    where
      one : (n : ℕ) (k : Kind) → cond (names k (th.operand n) a) 1 0 ≡ occ a (atom_keys th k n)
      one n False = refl
      one n Atom = refl
      one n And = refl
      one n Or = refl
      one n Opaque = refl
      one n Absorbed = refl

  naming_few : sum_below th.atoms (naming th) ≤ th.nodes
  unfolding atom_nodes
  naming_few =
      let e = sum_same th.atoms (naming th) (λ r. sum_below th.nodes (λ n. occ r (atom_keys th (th.kind n) n))) (λ r l. naming_keys r) in
      let a = keys_few (λ n. atom_keys th (th.kind n) n) th.atoms th.nodes in
      let b = atom_nodes_few th in
      omega arith

  parents_sum : sum_below th.nodes (parent_entries th) ≤ leaf_entries th
  unfolding parent_entries leaf_keys parents
  parents_sum = let a = keys_few (λ n. leaf_keys th (th.kind n) n) th.nodes th.nodes in let b = parents_few th in omega arith

  -- a producer is a fact or has one body
  heads_few : fact_heads th + sum_below th.nodes (body_heads th) ≤ head_entries th
  unfolding fact_heads body_heads sum_in
  heads_few =
      let a = sum_swap th.nodes th.producers (λ m p. cond (eqb (th.body p) (suc m)) (length (th.heads p)) 0) in
      let b = sum_add th.producers fact (λ p. sum_below th.nodes (λ m. cond (eqb (th.body p) (suc m)) (length (th.heads p)) 0)) in
      let c = sum_le th.producers (λ p. fact p + sum_below th.nodes (λ m. cond (eqb (th.body p) (suc m)) (length (th.heads p)) 0)) (λ p. length (th.heads p))
      (λ p l. once (any (cyclic th) (th.heads p)) (length (th.heads p)) (th.body p)) in
      omega arith
    where
      fact : ℕ → ℕ
      fact p = cond (eqb (th.body p) 0 && any (cyclic th) (th.heads p)) (length (th.heads p)) 0

      once : (w : Bool) (c k : ℕ) → cond (eqb k 0 && w) c 0 + sum_below th.nodes (λ m. cond (eqb k (suc m)) c 0) ≤ c
      once w c zero =
          let a = sum_none th.nodes (λ m. cond (eqb 0 (suc m)) c 0) (λ m l. ap (λ (b : Bool). cond b c 0) (ne_eqb 0 (suc m) (λ q. omega arith))) in
          let b = less (eqb 0 0 && w) in
          omega arith
        where
          less : (b : Bool) → cond b c 0 ≤ c
          less true = omega arith
          less false = omega arith
      once w c (suc k) =
          let a : cond (eqb (suc k) 0 && w) c 0 ≡ 0 = ap (λ (b : Bool). cond (b && w) c 0) (ne_eqb (suc k) 0 (λ q. omega arith)) in
          let b = sum_same th.nodes (λ m. cond (eqb (suc k) (suc m)) c 0) (λ m. cond (eqb k m) c 0) (λ m l. ap (λ (x : Bool). cond x c 0) (lib.Dec.eqb-suc-suc k m)) in
          let d = sum_at th.nodes k c in
          omega arith

  pub work_few : (never atom_never : Set) → work th never atom_never ≤ th.atoms + 2 * th.nodes + leaf_entries th + head_entries th
  unfolding work
  work_few never atom_never =
      let a = in_le th.atoms (founded th never atom_never) (λ a. 1 + naming th a) in
      let b = sum_add th.atoms (λ a. 1) (naming th) in
      let c = sum_constant th.atoms 1 in
      let d = naming_few in
      let e = in_le th.nodes (true_in_cone th never atom_never) (λ n. 1 + parent_entries th n + body_heads th n) in
      let f = sum_add th.nodes (λ n. 1 + parent_entries th n) (body_heads th) in
      let g = sum_add th.nodes (λ n. 1) (parent_entries th) in
      let h = sum_constant th.nodes 1 in
      let i = parents_sum in
      let j = heads_few in
      omega arith

-- ---- the first entries of an array

pub over_upto : (f : ℕ → ℕ) (i : ℕ) (q : List ℕ) → sum_over f (upto (suc i) q) ≡ f (get_or q i 0) + sum_over f (upto i q)
unfolding upto sum_over
over_upto f i q = refl

upto_part : (i t : ℕ) (q : List ℕ) → i ≤ t → Distinct (upto t q) → Distinct (upto i q) × ((x : ℕ) → Mem x (upto i q) → Mem x (upto t q))
unfolding upto
upto_part zero t q h d = (tt, λ x m. absurd (Memᴰ.not-nil m))
upto_part (suc i) zero q h d = absurd (not-suc-le-zero h)
upto_part (suc i) (suc t) q h d = go (ℕ_discrete i t) (upto_part (suc i) t q)
  where
    go : Dec (i ≡ t) → (suc i ≤ t → Distinct (upto t q) → Distinct (upto (suc i) q) × ((x : ℕ) → Mem x (upto (suc i) q) → Mem x (upto t q)))
        → Distinct (upto (suc i) q) × ((x : ℕ) → Mem x (upto (suc i) q) → Mem x (upto (suc t) q))
    go (yes e) rest = subst (λ (k : ℕ). Distinct (upto (suc k) q) × ((x : ℕ) → Mem x (upto (suc k) q) → Mem x (upto (suc t) q))) (sym e) (d, λ x m. m)
    go (no n) rest = let r = rest (omega arith) d.1 in (r.0, λ x m. Memᴰ.tail (r.1 x m))

-- ---- what is counted at a vertex is one and the length of its row

flat_length : (f : ℕ → List ℕ) (s t : List ℕ) → length (flat_map f (s ++ t)) ≡ length (flat_map f s) + length (flat_map f t)
unfolding flat_map
flat_length f [] t = omega arith
flat_length f (x ∷ s) t =
    let a = length-append (f x) (flat_map f (s ++ t)) in
    let b = length-append (f x) (flat_map f s) in
    let c = flat_length f s t in
    omega arith

module _ (th : Theory) where
  bodies_length : (m n : ℕ) → length (flat_map th.heads (entries m (stream (λ p. body_keys (th.body p)) 0 n))) ≡ sum_in n (λ p. eqb (th.body p) (suc m)) (λ p. length (th.heads p))
  unfolding stream entries flat_map sum_in sum_below body_keys occurrences
  bodies_length m zero = refl
  bodies_length m (suc n) =
      let a = ap (λ (l : List ℕ). length (flat_map th.heads l)) (row_last (λ p. body_keys (th.body p)) n m) in
      let b = flat_length th.heads (entries m (stream (λ p. body_keys (th.body p)) 0 n)) (occurrences n m (body_keys (th.body n))) in
      let c = bodies_length m n in
      let d = last (th.body n) in
      omega arith
    where
      last : (k : ℕ) → length (flat_map th.heads (occurrences n m (body_keys k))) ≡ cond (eqb k (suc m)) (length (th.heads n)) 0
      last zero = sym (ap (λ (b : Bool). cond b (length (th.heads n)) 0) (ne_eqb 0 (suc m) (λ q. omega arith)))
      last (suc k) = go (ℕ_discrete m k)
        where
          go : Dec (m ≡ k) → length (flat_map th.heads (cond (eqb m k) (n ∷ []) [])) ≡ cond (eqb (suc k) (suc m)) (length (th.heads n)) 0
          go (yes e) =
              ap (λ (b : Bool). length (flat_map th.heads (cond b (n ∷ []) []))) (eq-eqb m k e) ∙ length-append (th.heads n) [] ∙ omega arith
              ∙ sym (ap (λ (b : Bool). cond b (length (th.heads n)) 0) (eq-eqb (suc k) (suc m) (omega arith)))
          go (no e) =
              ap (λ (b : Bool). length (flat_map th.heads (cond b (n ∷ []) []))) (ne_eqb m k e)
              ∙ sym (ap (λ (b : Bool). cond b (length (th.heads n)) 0) (ne_eqb (suc k) (suc m) (λ q. e (omega arith))))

  charge_atom : (a : ℕ) → a < th.atoms → charge th a ≡ 1 + naming th a
  unfolding charge atom_nodes
  charge_atom a l =
      let p = ap length (succs_atom th a l) ∙ length-map (entries a (atom_nodes th)) (λ n. th.atoms + n) in
      let q = row_length (λ n. atom_keys th (th.kind n) n) th.nodes a in
      let r = naming_keys th a in
      omega arith

  charge_node : (n : ℕ) → charge th (th.atoms + n) ≡ 1 + parent_entries th n + body_heads th n
  unfolding charge parent_entries leaf_keys body_heads node_succs parents by_body
  charge_node n =
      let e : th.atoms + n - th.atoms ≡ n = omega arith in
      let p = ap length (succs_node th (th.atoms + n) (omega arith)) ∙ ap (λ (k : ℕ). length (node_succs th k)) e in
      let q = length-append (shifted th (entries n (parents th))) (flat_map th.heads (entries n (by_body th))) in
      let r = length-map (entries n (parents th)) (λ n. th.atoms + n) in
      let s = row_length (λ n. leaf_keys th (th.kind n) n) th.nodes n in
      let t = bodies_length n th.producers in
      omega arith

  -- ---- the heads of the facts

  flat_over : (l : List ℕ) → length (flat_map th.heads l) ≡ sum_over (λ p. length (th.heads p)) l
  unfolding flat_map sum_over
  flat_over [] = refl
  flat_over (p ∷ l) = let a = length-append (th.heads p) (flat_map th.heads l) in let b = flat_over l in omega arith

  pub facts_members : length (flat_map th.heads (members th.producers (λ p. eqb (th.body p) 0 && any (cyclic th) (th.heads p)))) ≡ fact_heads th
  unfolding fact_heads
  facts_members =
      flat_over (members th.producers (λ p. eqb (th.body p) 0 && any (cyclic th) (th.heads p)))
      ∙ over_members th.producers (λ p. eqb (th.body p) 0 && any (cyclic th) (th.heads p)) (λ p. length (th.heads p))

  -- ---- the count so far

  module _ (ok : WellFormed th) (never atom_never : Set) where
    -- what the pass finds
    abbrev found : Set
    found = passed th (cyclic_cone th) never atom_never

    found_low : (v : ℕ) → Is (found v) → v < vertices th
    found_low = closure_induct (vertices th) (pass_mode th (cyclic_cone th) never atom_never) (preds th everyone) (λ v. v < vertices th) (λ s ih v l p. l)

    found_atom : (a : ℕ) → a < th.atoms → found a ≡ founded th never atom_never a
    found_atom a l =
        let p = passed_founded th (cyclic_cone th) never atom_never ok a l (cyclic_cone_enough th ok never atom_never) in
        same_test (found a) (founded th never atom_never a) p.0 p.1

    found_node : (n : ℕ) → n < th.nodes → found (th.atoms + n) ≡ true_in_cone th never atom_never n
    unfolding true_in_cone founded
    found_node n l =
        let p = among_true th (cyclic th) (cyclic_cone th) never atom_never ok n l (cyclic_cone_enough th ok never atom_never) in
        same_test (found (th.atoms + n)) (true_in_cone th never atom_never n) (λ q. and_intro (p.0 q).0 (p.0 q).1) (λ q. p.1 (and_left (cyclic_cone th n) _ q, and_right (cyclic_cone th n) _ q))

    work_vertices : work th never atom_never ≡ fact_heads th + sum_in (vertices th) (passed th (cyclic_cone th) never atom_never) (charge th)
    unfolding work vertices sum_in
    work_vertices =
        let a = sum_split th.atoms th.nodes (λ v. cond (found v) (charge th v) 0) in
        let b = in_same th.atoms found (founded th never atom_never) (charge th) (λ a. 1 + naming th a) found_atom charge_atom in
        let c = in_same th.nodes (λ n. found (th.atoms + n)) (true_in_cone th never atom_never) (λ n. charge th (th.atoms + n)) (λ n. 1 + parent_entries th n + body_heads th n) found_node (λ n l. charge_node n) in
        omega arith

    work_so_far : (order : List ℕ) → Distinct order → ((v : ℕ) → Mem v order → Is (passed th (cyclic_cone th) never atom_never v)) → fact_heads th + sum_over (charge th) order ≤ work th never atom_never
    work_so_far order once in' =
        let a = over_some (vertices th) found (charge th) order once (λ v m. (found_low v (in' v m), in' v m)) in
        let b = work_vertices in
        omega arith

    work_done : (order : List ℕ) → Distinct order → ((v : ℕ) → Mem v order → Is (passed th (cyclic_cone th) never atom_never v)) → ((v : ℕ) → Is (passed th (cyclic_cone th) never atom_never v) → Mem v order)
        → fact_heads th + sum_over (charge th) order ≡ work th never atom_never
    work_done order once in' all =
        let a = over_all (vertices th) found (charge th) order once (λ v m. (found_low v (in' v m), in' v m)) (λ v l p. all v p) in
        let b = work_vertices in
        omega arith

    -- a worklist at its end
    pub worklist_done : {order : List ℕ} {count : ℕ → ℕ} → Worklist (vertices th) (pass_mode th (cyclic_cone th) never atom_never) (preds th everyone) order order [] count
        → fact_heads th + sum_over (charge th) order ≡ work th never atom_never
    worklist_done {order} s = work_done order s.distinct s.sound (worklist_end (vertices th) (pass_mode th (cyclic_cone th) never atom_never) (preds th everyone) s)

    -- of the first i vertices of a queue that holds what it has found: what a loop has spent that charges each vertex as it takes it
    pub queue_work : (q : List ℕ) (i t : ℕ) → i ≤ t → {done todo : List ℕ} {count : ℕ → ℕ} → Worklist (vertices th) (pass_mode th (cyclic_cone th) never atom_never) (preds th everyone) (upto t q) done todo count
        → fact_heads th + sum_over (charge th) (upto i q) ≤ work th never atom_never
    queue_work q i t h s = let r = upto_part i t q h s.distinct in work_so_far (upto i q) r.0 (λ v m. s.sound v (r.1 v m))
