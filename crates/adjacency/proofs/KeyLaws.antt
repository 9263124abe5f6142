-- The rows that an item is in, as the graph's words give them, and that the tables of an accepted graph fit a word and their parts.
use mathlib.Core.Path.{◌≡◌, refl, sym, ap, ◌∙◌}
use mathlib.Core.Logic.{◌⊎◌, inl, inr}
use mathlib.Core.Bool.{Bool, true, false, cond}
use mathlib.Core.List.Memᴰ
use mathlib.Core.List.{List, [], ◌∷◌, ◌++◌}
use Prim.Native.Nat.{ℕ, zero, suc, ◌+◌, ◌-◌, ◌≤◌, ◌<◌}
use native.Mathlib.Omega.{arith}
use native.Mathlib.Numerals.{add-one}
use lib.ListN.{length, get_or}
use Rattle.theory.specs.Sets.{Mem}
use Rattle.theory.specs.Theory.{Theory, WellFormed, Kind, False, Atom, And, Or, Opaque, Absorbed, joins}
use Rattle.theory.specs.Words.{node_at, chain, theory_of}
use Rattle.theory.specs.Accepted.{Edition, Accepted}
use Rattle.theory.specs.Rows.{Edge, edge, tagged, stream, body_keys, atom_keys, leaf_keys, atom_nodes, parents, by_head, by_body}
use Rattle.theory.proofs.SetLaws.{bool_cases, clash}
use Rattle.theory.proofs.RowLaws.{rows_length, atom_nodes_few, parents_few, by_head_few, by_body_few}
use Rattle.graph.specs.Kinds.{takes_operand}
use Rattle.graph.proofs.DecodeLaws.{the_leaves, the_operand}
use Rattle.area.specs.declared.Bases.{Bases}
use Rattle.area.specs.Layout.{Based}
use Rattle.adjacency.specs.declared.Table.{Table}
use Rattle.adjacency.specs.declared.Table.TheVariants.{AtomNodes, Parents, ByHead, ByBody}
use Rattle.adjacency.specs.Tables.{rows_of, items_of, keys_of, edges_of, base_of, next_of}
use Rattle.adjacency.specs.Building.{Keyed, start_of}

-- ---- the row of a body's word

pub body_keys_lem : (k : ℕ) → 0 < k → body_keys k ≡ (k - 1) ∷ []
unfolding body_keys
body_keys_lem zero h = elim h [ ]
body_keys_lem (suc k) h = let e : k ≡ suc k - 1 = omega arith in ap (λ (x : ℕ). x ∷ []) e

-- ---- the edges of item i of table t, by what was read of it: r is whether its kind takes an operand, and x is the row that it names

module _ (ws : List ℕ) {t : Table} (i : ℕ) where
  module _ (e : t ≡ AtomNodes) {k : Kind} {r : Bool} (ek : k ≡ (theory_of ws).kind i) (er : r ≡ takes_operand k) where
    pub atom_edges : {x : ℕ} → r ≡ true → x ≡ get_or ws (node_at i + 1) 0 → tagged i (keys_of (theory_of ws) t i) ≡ edge x i ∷ []
    unfolding atom_keys takes_operand
    atom_edges q ex = rw (e, sym ek, ex) (ap (tagged i) (go k (sym er ∙ q) ∙ ap (λ (x : ℕ). x ∷ []) (the_operand ws i)))
      where
        go : (k : Kind) → takes_operand k ≡ true → atom_keys (theory_of ws) k i ≡ (theory_of ws).operand i ∷ []
        go False q = clash refl (sym q)
        go Atom q = refl
        go And q = clash refl (sym q)
        go Or q = clash refl (sym q)
        go Opaque q = clash refl (sym q)
        go Absorbed q = clash refl (sym q)

    pub atom_no_edges : r ≡ false → tagged i (keys_of (theory_of ws) t i) ≡ []
    unfolding atom_keys takes_operand
    atom_no_edges q = rw (e, sym ek) (ap (tagged i) (go k (sym er ∙ q)))
      where
        go : (k : Kind) → takes_operand k ≡ false → atom_keys (theory_of ws) k i ≡ []
        go False q = refl
        go Atom q = clash refl q
        go And q = refl
        go Or q = refl
        go Opaque q = refl
        go Absorbed q = refl

  -- a node that takes no links has none
  pub leaf_edges : {ed : Edition} {l : ℕ} → t ≡ Parents → Accepted ed ws → i < items_of (theory_of ws) t → l ≡ get_or ws (node_at i + 2) 0 → tagged i (keys_of (theory_of ws) t i) ≡ tagged i (chain ws l)
  unfolding leaf_keys theory_of
  leaf_edges e acc h el = rw (e, el) (ap (tagged i) (go (bool_cases (joins ((theory_of ws).kind i)))))
    where
      go : (joins ((theory_of ws).kind i) ≡ true) ⊎ (joins ((theory_of ws).kind i) ≡ false) → cond (joins ((theory_of ws).kind i)) ((theory_of ws).leaves i) [] ≡ chain ws (get_or ws (node_at i + 2) 0)
      go (inl q) = ap (λ (b : Bool). cond b ((theory_of ws).leaves i) []) q ∙ the_leaves ws i
      go (inr q) = ap (λ (b : Bool). cond b ((theory_of ws).leaves i) []) q ∙ sym (acc.leafless i (rw e at h) q) ∙ the_leaves ws i

  pub head_edges : t ≡ ByHead → tagged i (keys_of (theory_of ws) t i) ≡ tagged i ((theory_of ws).heads i)
  head_edges e = rw e refl

  module _ (e : t ≡ ByBody) where
    pub body_edges : {x : ℕ} → (0 < (theory_of ws).body i) × (x ≡ (theory_of ws).body i - 1) → tagged i (keys_of (theory_of ws) t i) ≡ edge x i ∷ []
    body_edges {x} some = rw (e, some.1) (ap (tagged i) (body_keys_lem ((theory_of ws).body i) some.0))

    pub body_no_edges : (0 < (theory_of ws).body i → ⊥) → tagged i (keys_of (theory_of ws) t i) ≡ []
    unfolding body_keys
    body_no_edges none = rw e (let z : (theory_of ws).body i ≡ 0 = omega arith in ap (λ (k : ℕ). tagged i (body_keys k)) z)

-- ---- the stream, at item i of n

pub stream_turn : (keys : ℕ → List ℕ) (i n : ℕ) → i < n → stream keys i (n - i) ≡ tagged i (keys i) ++ stream keys (i + 1) (n - (i + 1))
unfolding stream
stream_turn keys i n h =
    let e : n - i ≡ suc (n - (i + 1)) = omega arith in
    ap (stream keys i) e ∙ ap (λ (k : ℕ). tagged i (keys i) ++ stream keys k (n - (i + 1))) (sym (add-one i))

pub stream_end : (keys : ℕ → List ℕ) (i n : ℕ) → n ≤ i → stream keys i (n - i) ≡ []
unfolding stream
stream_end keys i n h = let e : n - i ≡ 0 = omega arith in ap (stream keys i) e

-- ---- edges lie in the rows

keyed_stream : (lim rows : ℕ) (keys : ℕ → List ℕ) (i n : ℕ) → i + n ≤ lim → ((j r : ℕ) → j < i + n → Mem r (keys j) → r < rows) → Keyed lim rows (stream keys i n)
unfolding stream
keyed_stream lim rows keys i zero h low = tt
keyed_stream lim rows keys i (suc n) h low =
    append (tagged i (keys i)) (stream keys (suc i) n) (tag (keys i) (λ r m. low i r (omega arith) m))
    (keyed_stream lim rows keys (suc i) n (omega arith) (λ j r b m. low j r (omega arith) m))
  where
    append : (s t : List Edge) → Keyed lim rows s → Keyed lim rows t → Keyed lim rows (s ++ t)
    append [] t a b = b
    append (e ∷ s) t a b = (a.0, a.1, append s t a.2 b)

    tag : (ks : List ℕ) → ((r : ℕ) → Mem r ks → r < rows) → Keyed lim rows (tagged i ks)
    tag [] low = tt
    tag (k ∷ ks) low = (low k (Memᴰ.head refl), omega arith, tag ks (λ r m. low r (Memᴰ.tail m)))

module _ (th : Theory) (ok : WellFormed th) where
  rows_low : (t : Table) (i r : ℕ) → i < items_of th t → Mem r (keys_of th t i) → r < rows_of th t
  unfolding atom_keys leaf_keys body_keys
  rows_low AtomNodes n r l m = go (th.kind n) refl m
    where
      go : (k : Kind) → th.kind n ≡ k → Mem r (atom_keys th k n) → r < th.atoms
      go False e i = absurd (Memᴰ.not-nil i)
      go Atom e i = let q = Memᴰ.eq_of_singleton i in let h = ok.operand_low n l e in omega arith
      go And e i = absurd (Memᴰ.not-nil i)
      go Or e i = absurd (Memᴰ.not-nil i)
      go Opaque e i = absurd (Memᴰ.not-nil i)
      go Absorbed e i = absurd (Memᴰ.not-nil i)
  rows_low Parents n r l m = go (joins (th.kind n)) m
    where
      go : (b : Bool) → Mem r (cond b (th.leaves n) []) → r < th.nodes
      go true i = let h = ok.leaf_low n r l i in omega arith
      go false i = absurd (Memᴰ.not-nil i)
  rows_low ByHead p r l m = ok.head_low p r l m
  rows_low ByBody p r l m = go (th.body p) refl m
    where
      go : (k : ℕ) → th.body p ≡ k → Mem r (body_keys k) → r < th.nodes
      go zero e i = absurd (Memᴰ.not-nil i)
      go (suc k) e i = let q = Memᴰ.eq_of_singleton i in let h = ok.body_low p k l e in omega arith

  pub edges_keyed : (lim : ℕ) (t : Table) → items_of th t ≤ lim → Keyed lim (rows_of th t) (edges_of th t)
  edges_keyed lim t h = keyed_stream lim (rows_of th t) (keys_of th t) 0 (items_of th t) (omega arith) (λ j r b m. rows_low t j r (omega arith) m)

pub starts_few : (edges : List Edge) (rows n : ℕ) → length edges ≤ n → start_of edges rows ≤ n
starts_few edges rows n h = let e = rows_length rows edges in omega arith

-- ---- the table fits its part

pub part_fits : {ws : List ℕ} {words from to : ℕ} {b : Bases} → Based ws words b → (t : Table) → (from ≡ base_of b t) × (to ≡ next_of b t)
    → (from + (rows_of (theory_of ws) t + 1 + length (edges_of (theory_of ws) t)) ≤ to) × (to ≤ words)
unfolding theory_of atom_nodes parents by_head by_body
part_fits {ws} {words} {from} {to} {b} x t e = rw (e.0, e.1) (go t)
  where
    go : (t : Table) → (base_of b t + (rows_of (theory_of ws) t + 1 + length (edges_of (theory_of ws) t)) ≤ next_of b t) × (next_of b t ≤ words)
    go AtomNodes = let a = x.atoms in let n = x.nodes in let k = atom_nodes_few (theory_of ws) in let l = x.laid in let e = x.ends in (omega arith, omega arith)
    go Parents = let n = x.nodes in let u = x.leaves in let k = parents_few (theory_of ws) in let l = x.laid in let e = x.ends in (omega arith, omega arith)
    go ByHead = let a = x.atoms in let u = x.heads in let k = by_head_few (theory_of ws) in let l = x.laid in let e = x.ends in (omega arith, omega arith)
    go ByBody = let n = x.nodes in let p = x.producers in let k = by_body_few (theory_of ws) in let l = x.laid in let e = x.ends in (omega arith, omega arith)
