-- With the counters and the cyclic atoms reset a later pass begins (`restarted`).
use mathlib.Core.Path.{◌≡◌, refl, sym, ap, ◌∙◌, subst}
use mathlib.Core.Logic.{◌⊎◌, inl, inr, ◌↔◌}
use mathlib.Core.Bool.{Bool, true, false, not, ◌&&◌, cond}
use mathlib.Core.List.Memᴰ
use mathlib.Core.List.{List, [], ◌∷◌, map}
use Prim.Native.Nat.{ℕ, zero, suc, ◌+◌, ◌-◌, ◌≤◌, ◌<◌}
use native.Mathlib.Omega.{arith}
use native.Mathlib.Decide.{dec_lt}
use borrow.Author.Tests.{le-ltb}
use lib.Dec.{eqb, ltb}
use lib.ListN.{length, get_or}
use lib.Seq.{slice}
use Rattle.std.specs.Prelude.{filter}
use Rattle.theory.specs.Sets.{Set, Is, Mem, any, everyone, members}
use Rattle.theory.specs.Counts.{Distinct}
use Rattle.theory.specs.Words.{theory_of}
use Rattle.theory.specs.Accepted.{Accepted, edition1}
use Rattle.theory.specs.Edges.{vertices, preds}
use Rattle.theory.specs.Rows.{flat_map}
use Rattle.theory.specs.Founded.{cyclic, cyclic_cone}
use Rattle.theory.specs.Pass.{stated, pass_mode}
use Rattle.theory.specs.Prefix.{upto}
use Rattle.theory.specs.Starting.{first_count}
use Rattle.theory.specs.Roles.{seed, role, live_role, live_seed, Resting}
use Rattle.theory.specs.Worklist.{Worklist}
use Rattle.theory.proofs.SetLaws.{bool_cases, clash, not_true, not_false, and_intro, and_left, and_right, eq_is, is_eq, any_holds}
use Rattle.theory.proofs.PrefixLaws.{upto_mem}
use Rattle.theory.proofs.PassLaws.{stated_by}
use Rattle.theory.proofs.RowLaws.{flat_item, flat_mem}
use Rattle.theory.proofs.ServeLaws.{kept_mem, kept_there, kept_once}
use Rattle.theory.proofs.RoleLaws.{again_begin}
use Rattle.area.specs.declared.Bases.{Bases}
use Rattle.area.specs.Views.{count_at, as_vertices, Outside}
use Rattle.area.proofs.PartLaws.{outside_then, behind_more}
use Rattle.rows.proofs.VertexLaws.{slice_mem}
use Rattle.cones.specs.Cones.{fact_by}
use Rattle.cones.proofs.FactLaws.{members_mem}
use Rattle.preparation.proofs.PassLaws.{counts, bound, cone_low}
use Rattle.projection.specs.Narrowed.{in_pass, fact_heads, head_row, heads_of}
use Rattle.projection.proofs.SourceLaws.{in_atom}
use Rattle.later.specs.Later.{Projected, Again, Reset, live_of, Restarted}

-- ---- entries and places

mem_place : {x : ℕ} (l : List ℕ) → Mem x l → (i : ℕ) × (i < length l) × (get_or l i 0 ≡ x)
mem_place [] m = absurd (Memᴰ.not-nil m)
mem_place {x} (y ∷ l) m = go (Memᴰ.cases_cons m) (mem_place l)
  where
    go : (x ≡ y) ⊎ Mem x l → (Mem x l → (i : ℕ) × (i < length l) × (get_or l i 0 ≡ x)) → (i : ℕ) × (i < suc (length l)) × (get_or (y ∷ l) i 0 ≡ x)
    go (inl e) rest = (0, omega arith, sym e)
    go (inr k) rest = let r = rest k in let h : r.0 < length l = r.1 in (suc r.0, omega arith, r.2)

place_mem : (l : List ℕ) (i : ℕ) → i < length l → Mem (get_or l i 0) l
place_mem [] i h = absurd (omega arith)
place_mem (y ∷ l) zero h = Memᴰ.head refl
place_mem (y ∷ l) (suc i) h = Memᴰ.tail (place_mem l i (omega arith))

upto_place : {x : ℕ} (n : ℕ) (l : List ℕ) → Mem x (upto n l) → (i : ℕ) × (i < n) × (get_or l i 0 ≡ x)
unfolding upto
upto_place zero l m = absurd (Memᴰ.not-nil m)
upto_place {x} (suc n) l m = go (Memᴰ.cases_cons m) (upto_place n l)
  where
    go : (x ≡ get_or l n 0) ⊎ Mem x (upto n l) → (Mem x (upto n l) → (i : ℕ) × (i < n) × (get_or l i 0 ≡ x)) → (i : ℕ) × (i < suc n) × (get_or l i 0 ≡ x)
    go (inl e) rest = (n, omega arith, sym e)
    go (inr k) rest = let r = rest k in let h : r.0 < n = r.1 in (r.0, omega arith, r.2)

distinct_shift : (a : ℕ) (l : List ℕ) → Distinct l → Distinct (map (λ n. a + n) l)
distinct_shift a [] d = tt
distinct_shift a (x ∷ l) d = ((λ m. let r = Memᴰ.of_map (λ n. a + n) l m in let e : a + r.0 ≡ a + x = r.2 in let q : r.0 ≡ x = omega arith in d.0 (subst (λ (z : ℕ). Mem z l) q r.1)), distinct_shift a l d.1)

-- ---- what a projection lists

module _ {ws : List ℕ} {b : Bases} {parents heads nodes roles : List ℕ} {seeds : ℕ} {atoms : List ℕ} (p : Projected ws b parents heads nodes roles seeds atoms) where
  -- a counter: a node of the cone that is no seed
  pub counter_is : (i : ℕ) → i < seeds → Is (cyclic_cone (theory_of ws) (get_or nodes i 0)) × (seed (theory_of ws) (cyclic (theory_of ws)) (get_or nodes i 0) ≡ false)
  counter_is i h =
      let m = rw p.parted.front at (upto_mem seeds i nodes h) in
      let r = kept_mem (λ n. not (seed (theory_of ws) (cyclic (theory_of ws)) n)) (get_or nodes i 0) (upto (length nodes) p.whole) m in
      ((p.cone.are (get_or nodes i 0)).0 r.0, not_true (seed (theory_of ws) (cyclic (theory_of ws)) (get_or nodes i 0)) r.1)

  pub counter_place : (n : ℕ) → Is (cyclic_cone (theory_of ws) n) → seed (theory_of ws) (cyclic (theory_of ws)) n ≡ false → (i : ℕ) × (i < seeds) × (get_or nodes i 0 ≡ n)
  counter_place n c s =
      upto_place seeds nodes
      (rw (sym p.parted.front) at (kept_there (λ m. not (seed (theory_of ws) (cyclic (theory_of ws)) m)) ((p.cone.are n).1 c) (not_false (seed (theory_of ws) (cyclic (theory_of ws)) n) s)))

  -- the seeds, each of them once
  pub seeds_once : Distinct (slice seeds (length nodes) nodes)
  seeds_once = rw p.parted.back (kept_once (seed (theory_of ws) (cyclic (theory_of ws))) (upto (length nodes) p.whole) p.cone.once)

  pub seed_is : (n : ℕ) → Mem n (slice seeds (length nodes) nodes) ↔ (Is (cyclic_cone (theory_of ws) n) × Is (seed (theory_of ws) (cyclic (theory_of ws)) n))
  seed_is n = (
    λ m. let r = kept_mem (seed (theory_of ws) (cyclic (theory_of ws))) n (upto (length nodes) p.whole) (rw p.parted.back at m) in ((p.cone.are n).0 r.0, r.1),
    λ r. rw (sym p.parted.back) at (kept_there (seed (theory_of ws) (cyclic (theory_of ws))) ((p.cone.are n).1 r.0) r.1),
  )

  -- the cyclic atoms
  pub atom_is : (i : ℕ) → i < length atoms → (get_or atoms i 0 < b.atoms) × Is (cyclic (theory_of ws) (get_or atoms i 0))
  atom_is i h = (members_mem b.atoms (cyclic (theory_of ws)) (get_or atoms i 0)).0 (subst (λ (x : List ℕ). Mem (get_or atoms i 0) x) p.atoms_are (place_mem atoms i h))

  atom_place : (a : ℕ) → a < b.atoms → Is (cyclic (theory_of ws) a) → (i : ℕ) × (i < length atoms) × (get_or atoms i 0 ≡ a)
  atom_place a l c = mem_place atoms (rw (sym p.atoms_are) at ((members_mem b.atoms (cyclic (theory_of ws)) a).1 (l, c)))

-- every node listed is one of the graph's
pub node_is : {ws : List ℕ} {b : Bases} {parents heads nodes roles : List ℕ} {seeds : ℕ} {atoms : List ℕ} (p : Projected ws b parents heads nodes roles seeds atoms) {w : List ℕ} → Again ws b w → (i : ℕ) → i < length nodes → get_or nodes i 0 < b.nodes
node_is {ws} {b} {nodes = nodes} {seeds = seeds} p g i h =
    let q = counts g.standing.based in let l = cone_low ws (get_or nodes i 0) (go (dec_lt i seeds)) in omega arith
  where
    go : Dec (i < seeds) → Is (cyclic_cone (theory_of ws) (get_or nodes i 0))
    go (yes l) = (counter_is p i l).0
    go (no l) = ((seed_is p (get_or nodes i 0)).0 (slice_mem seeds (length nodes) nodes i (omega arith) h (omega arith))).0

-- ---- the beginning

-- of a vertex that is a node
pub counted : (never : Set) (f : ℕ → ℕ) (a n : ℕ) → cond (never (a + n - a)) 0 (f (a + n - a)) ≡ cond (never n) 0 (f n)
counted never f a n = let e : a + n - a ≡ n = omega arith in ap (λ (x : ℕ). cond (never x) 0 (f x)) e

module _ {ws : List ℕ} {b : Bases} {parents heads nodes roles : List ℕ} {seeds : ℕ} {atoms : List ℕ} (p : Projected ws b parents heads nodes roles seeds atoms) (never atom_never : Set) {w₀ w₁ w₂ : List ℕ} (g : Again ws b w₀)
    (r : Reset b (λ v. cond (atom_never v) 0 1) (λ i. get_or atoms i 0) w₀ w₁ (length atoms))
    (s : Reset b (λ v. cond (never (v - b.atoms)) 0 (role (theory_of ws) (cyclic (theory_of ws)) (v - b.atoms))) (λ i. b.atoms + get_or nodes i 0) w₁ w₂ seeds) where
  q : (b.atoms ≡ (theory_of ws).atoms) × (b.nodes ≡ (theory_of ws).nodes) × (b.producers ≡ (theory_of ws).producers)
  q = counts g.standing.based

  aside : List ℕ
  aside = live_of ws b never atom_never (slice seeds (length nodes) nodes)

  -- heads of facts
  facts_are : heads_of ws b.nodes ≡ filter (in_pass (theory_of ws) (cyclic (theory_of ws)) (cyclic_cone (theory_of ws)))
      (flat_map (theory_of ws).heads (members (theory_of ws).producers (fact_by (theory_of ws) (λ x. any (cyclic (theory_of ws)) ((theory_of ws).heads x)))))
  unfolding head_row fact_heads
  facts_are = let e = q in rw (le-ltb b.nodes (theory_of ws).nodes (omega arith)) refl

  head_stated : (a : ℕ) → Mem a (heads_of ws b.nodes) → (a < (theory_of ws).atoms) × Is (stated (theory_of ws) a)
  head_stated a m =
      let k = kept_mem (in_pass (theory_of ws) (cyclic (theory_of ws)) (cyclic_cone (theory_of ws))) a _ (rw facts_are at m) in
      let f = flat_item (theory_of ws).heads a _ k.0 in
      let h = (members_mem (theory_of ws).producers _ f.0).0 f.1 in
      (g.accepted.well_formed.head_low f.0 a h.0 f.2, (stated_by (theory_of ws) a).1 (f.0, h.0, eq_is ((theory_of ws).body f.0) 0 (and_left (eqb ((theory_of ws).body f.0) 0) _ h.1), f.2))

  stated_head : (a : ℕ) → Is (cyclic (theory_of ws) a) → Is (stated (theory_of ws) a) → Mem a (heads_of ws b.nodes)
  stated_head a c h =
      let f = (stated_by (theory_of ws) a).0 h in
      let l = g.accepted.well_formed.head_low f.0 a f.1 f.3 in
      rw (sym facts_are) at
      (kept_there (in_pass (theory_of ws) (cyclic (theory_of ws)) (cyclic_cone (theory_of ws)))
      (flat_mem (theory_of ws).heads ((members_mem (theory_of ws).producers (fact_by (theory_of ws) (λ x. any (cyclic (theory_of ws)) ((theory_of ws).heads x))) f.0).1 (f.1, and_intro (is_eq ((theory_of ws).body f.0) 0 f.2) (any_holds (cyclic (theory_of ws)) f.3 c))) f.3)
      (in_atom (theory_of ws) (cyclic (theory_of ws)) (cyclic_cone (theory_of ws)) a l ∙ c))

  seeds_are : (v : ℕ) → Mem v aside ↔ ((n : ℕ) × (v ≡ (theory_of ws).atoms + n) × Is (cyclic_cone (theory_of ws) n) × Is (seed (theory_of ws) (cyclic (theory_of ws)) n) × Is (live_role never atom_never n (role (theory_of ws) (cyclic (theory_of ws)) n)))
  unfolding aside
  seeds_are v = (
    λ m. let f = Memᴰ.of_map (λ n. b.atoms + n) _ m in
        let k = kept_mem (live_seed (theory_of ws) (cyclic (theory_of ws)) never atom_never) f.0 (slice seeds (length nodes) nodes) f.1 in
        let i = (seed_is p f.0).0 k.0 in
        (f.0, sym f.2 ∙ ap (λ (z : ℕ). z + f.0) q.0, i.0, i.1, k.1),
    λ f. subst (λ (z : ℕ). Mem z aside) (ap (λ (z : ℕ). z + f.0) q.0 ∙ sym f.1)
        (Memᴰ.map (λ n. b.atoms + n) (kept_there (live_seed (theory_of ws) (cyclic (theory_of ws)) never atom_never) ((seed_is p f.0).1 (f.2, f.3)) f.4)),
  )

  node_low : (n : ℕ) → Is (cyclic_cone (theory_of ws) n) → n < b.nodes
  node_low n c = let e = q in let l = cone_low ws n c in omega arith

  -- the counts of atoms, of counters, and of all others
  atom_count : (a : ℕ) → a < (theory_of ws).atoms → count_at b w₂ a ≡ first_count (cyclic (theory_of ws)) atom_never a
  unfolding first_count
  atom_count a l = s.others a (let e = q in omega arith) (λ i h y. let e = q in omega arith) ∙ go (bool_cases (cyclic (theory_of ws) a))
    where
      tell : (x : Bool) → ◌≡◌ {A = ℕ} (cond x 0 1) (cond (true && not x) 1 0)
      tell true = refl
      tell false = refl

      go : (cyclic (theory_of ws) a ≡ true) ⊎ (cyclic (theory_of ws) a ≡ false) → count_at b w₁ a ≡ cond (cyclic (theory_of ws) a && not (atom_never a)) 1 0
      go (inl c) = let i = atom_place p a (let e = q in omega arith) c in rw c (rw i.2 at (r.those i.0 i.1) ∙ tell (atom_never a))
      go (inr c) = rw c (r.others a (let e = q in omega arith) (λ i h y. clash (rw y at (atom_is p i h).1) c) ∙ g.resting.atoms a l c)

  counter_count : (n : ℕ) → Is (cyclic_cone (theory_of ws) n) → seed (theory_of ws) (cyclic (theory_of ws)) n ≡ false → count_at b w₂ ((theory_of ws).atoms + n) ≡ cond (never n) 0 (role (theory_of ws) (cyclic (theory_of ws)) n)
  counter_count n c d =
      let i = counter_place p n c d in
      ap (λ (z : ℕ). count_at b w₂ (z + n)) (sym q.0) ∙ rw i.2 at (s.those i.0 i.1) ∙ counted never (role (theory_of ws) (cyclic (theory_of ws))) b.atoms n

  rest_count : (n : ℕ) → n < (theory_of ws).nodes → (cyclic_cone (theory_of ws) n ≡ false) ⊎ Is (seed (theory_of ws) (cyclic (theory_of ws)) n) → count_at b w₂ ((theory_of ws).atoms + n) ≡ 0
  rest_count n l e =
      ap (λ (z : ℕ). count_at b w₂ (z + n)) (sym q.0)
      ∙ s.others (b.atoms + n) low (λ i h y. let k = counter_is p i h in let z : get_or nodes i 0 ≡ n = omega arith in out z k.0 k.1 e)
      ∙ r.others (b.atoms + n) low (λ i h y. let k = (atom_is p i h).0 in omega arith)
      ∙ ap (λ (z : ℕ). count_at b w₀ (z + n)) q.0 ∙ g.resting.nodes n l e
    where
      low : b.atoms + n < b.atoms + b.nodes
      low = let z = q in omega arith

      out : {m : ℕ} → m ≡ n → Is (cyclic_cone (theory_of ws) m) → seed (theory_of ws) (cyclic (theory_of ws)) m ≡ false → (cyclic_cone (theory_of ws) n ≡ false) ⊎ Is (seed (theory_of ws) (cyclic (theory_of ws)) n) → ⊥
      out z c d (inl k) = clash (rw z at c) k
      out z c d (inr k) = clash k (rw z at d)

  pub restarted : Restarted ws b never atom_never (slice seeds (length nodes) nodes) w₀ w₂
  unfolding aside
  restarted = record {
    outside = let l = g.standing.based.laid in let o = outside_then r.outside s.outside in record { size = o.size; before = o.before; after = behind_more b.queue w₀ w₂ o.after b.body_nodes (omega arith) };
    list = rw (bound g.standing.based) at
        (again_begin (theory_of ws) g.accepted.well_formed (cyclic (theory_of ws)) (cyclic_cone (theory_of ws)) never atom_never (cone_low ws) (heads_of ws b.nodes) head_stated stated_head aside
        (distinct_shift b.atoms _ (kept_once (live_seed (theory_of ws) (cyclic (theory_of ws)) never atom_never) (slice seeds (length nodes) nodes) (seeds_once p))) seeds_are (count_at b w₂) atom_count counter_count rest_count);
  }
