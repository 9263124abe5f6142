-- From a cleared part to a table: the stages of `build`, of any theory and width. A table that is built in a part stands in the whole
-- (`placed`), and stays while the words up to its end do (`kept`).
use mathlib.Core.Path.{◌≡◌, sym, ap, ap₂, ◌∙◌}
use mathlib.Core.Bool.{true, false}
use mathlib.Core.List.{List, [], ◌++◌, map}
use Prim.Native.Nat.{ℕ, ◌+◌, ◌-◌, ◌≤◌, ◌<◌}
use native.Mathlib.Omega.{arith}
use native.Mathlib.Nat.{zero-add}
use lib.ListN.{length, get_or, take, drop, replicate, length-append, length-take, length-drop, length-replicate, get_or-replicate, get_or-append}
use lib.Seq.{slice}
use Rattle.theory.specs.Theory.{Theory}
use Rattle.theory.specs.Words.{theory_of}
use Rattle.theory.specs.Accepted.{Edition, Accepted}
use Rattle.words.specs.Words.{Holds}
use Rattle.words.proofs.NumberLaws.{numbers_front, numbers_all}
use Rattle.theory.specs.Rows.{Edge, entries}
use Rattle.theory.specs.Drive.{Follows, Drives}
use Rattle.theory.proofs.RowLaws.{atom_nodes_few, parents_few, by_head_few, by_body_few}
use Rattle.theory.proofs.DriveLaws.{follows_all, drives_all}
use Rattle.area.specs.declared.Bases.{Bases}
use Rattle.area.proofs.PartLaws.{part_length, part_before, part_at, part_slice, frame_at, frame_slice}
use Rattle.adjacency.specs.declared.Table.{Table}
use Rattle.adjacency.specs.declared.Table.TheVariants.{AtomNodes, Parents, ByHead, ByBody}
use Rattle.adjacency.specs.Tables.{rows_of, items_of, edges_of, base_of, next_of, start_at, Tabled, Built}
use Rattle.adjacency.specs.Building.{Keyed, start_of, Building, sum_of, Summed}
use Rattle.adjacency.proofs.BuildLaws.{count_start, counted, fill_start, built}
use Rattle.adjacency.proofs.KeyLaws.{edges_keyed, starts_few}

-- q is the part with its first rows + 1 words cleared
pub record Start (lim : ℕ) (th : Theory) (t : Table) (rows : ℕ) (part q : List ℕ) : Type 0 where
  pub rows_are : rows ≡ rows_of th t
  pub keyed : Keyed lim (rows_of th t) (edges_of th t)
  pub few : length (edges_of th t) < lim
  pub size : length q ≡ length part
  pub zeros : (i : ℕ) → i < rows + 1 → get_or q i 0 ≡ 0
  pub room : rows_of th t + 1 + length (edges_of th t) ≤ length part

module _ {A : Type 0} {number : A → ℕ} {numbers : List A → List ℕ} (each : (xs : List A) → numbers xs ≡ map number xs) where
  pub start : {ed : Edition} {ws : List ℕ} {lim rows : ℕ} {part front : List A} → Holds ed lim → Accepted ed ws → (t : Table) → rows ≡ rows_of (theory_of ws) t
      → numbers front ≡ replicate (length (numbers (take (rows + 1) part))) 0 → rows_of (theory_of ws) t + 1 + length (edges_of (theory_of ws) t) ≤ length (numbers part)
      → Start lim (theory_of ws) t rows (numbers part) (numbers (front ++ drop (rows + 1) part))
  unfolding theory_of Rattle.theory.specs.Rows.atom_nodes Rattle.theory.specs.Rows.parents Rattle.theory.specs.Rows.by_head Rattle.theory.specs.Rows.by_body
  start {ed} {ws} {lim} {rows} {part} {front} holds acc t er cleared room = record {
    rows_are = er;
    keyed = edges_keyed (theory_of ws) acc.well_formed lim t (items t);
    few = few t;
    size = rw (numbers_front each (rows + 1) part front, front_is) (simp (length-append, length-replicate, length-take, length-drop) (omega arith));
    zeros = λ i l. rw (numbers_front each (rows + 1) part front, front_is) (get_or-append _ (drop (rows + 1) (numbers part)) 0 i (rw (length-replicate, long) l) ∙ get_or-replicate _ i 0 0 (rw long l));
    room = room;
  }
    where
      long : length (take (rows + 1) (numbers part)) ≡ rows + 1
      long = simp length-take (omega arith)

      front_is : numbers front ≡ replicate (length (take (rows + 1) (numbers part))) 0
      front_is = numbers_all each (rows + 1) 0 part cleared

      items : (t : Table) → items_of (theory_of ws) t ≤ lim
      items AtomNodes = let k = acc.nodes_few in omega arith
      items Parents = let k = acc.nodes_few in omega arith
      items ByHead = let k = acc.producers_few in omega arith
      items ByBody = let k = acc.producers_few in omega arith

      few : (t : Table) → length (edges_of (theory_of ws) t) < lim
      few AtomNodes = let k = acc.nodes_few in let e = atom_nodes_few (theory_of ws) in omega arith
      few Parents = let k = acc.leaf_total in let e = parents_few (theory_of ws) in omega arith
      few ByHead = let k = acc.head_total in let e = by_head_few (theory_of ws) in omega arith
      few ByBody = let k = acc.producers_few in let e = by_body_few (theory_of ws) in omega arith

module _ {lim : ℕ} {th : Theory} {t : Table} {rows : ℕ} {part q₀ : List ℕ} (x : Start lim th t rows part q₀) where
  keyed : Keyed lim rows (edges_of th t)
  keyed = rw x.rows_are x.keyed

  small : start_of (edges_of th t) rows < lim
  small = let a = starts_few (edges_of th t) rows (length (edges_of th t)) (omega arith) in let b = x.few in omega arith

  counting : Building lim false rows (edges_of th t) q₀ 0 (edges_of th t)
  counting = count_start keyed small q₀ room x.zeros
    where
      room : rows + 1 + start_of (edges_of th t) rows ≤ length q₀
      room = let a = starts_few (edges_of th t) rows (length (edges_of th t)) (omega arith) in let b = x.room in let e = x.rows_are in let s = x.size in omega arith

  pub to_count : Follows (Building lim false rows) q₀ 0 (edges_of th t)
  to_count = follows_all (Building lim false rows) counting

  module _ {q : List ℕ} (d : Drives (Building lim false rows) 0 q₀ 0 (edges_of th t) q 0 []) where
    after : Building lim false rows (edges_of th t) q 0 []
    after = drives_all (Building lim false rows) counting d

    pub to_sum : (rows + 1 ≤ length q) × (sum_of q rows < lim)
    to_sum = let r = after.room in let s = small in (omega arith, omega (arith, counted keyed small after rows (omega arith)))

    module _ {q' : List ℕ} {total : ℕ} (s : Summed q q' rows total) where
      filling : Building lim true rows (edges_of th t) q' 0 (edges_of th t)
      filling = fill_start keyed small after s

      pub to_fill : Follows (Building lim true rows) q' 0 (edges_of th t)
      to_fill = follows_all (Building lim true rows) filling

      pub filled : {q'' : List ℕ} → Drives (Building lim true rows) 0 q' 0 (edges_of th t) q'' 0 [] → Tabled (length part) q'' 0 (rows_of th t) (edges_of th t)
      filled {q''} f = let e : length q'' ≡ length part = f.size ∙ s.size ∙ d.size ∙ x.size in rw (x.rows_are, e) at (built (drives_all (Building lim true rows) filling f))

-- ---- in the whole

module _ {n : ℕ} {w : List ℕ} {base rows : ℕ} {edges : List Edge} (x : Tabled n w base rows edges) where
  -- while the first n words stay
  pub kept : (w' : List ℕ) → take n w' ≡ take n w → length w' ≡ length w → Tabled n w' base rows edges
  kept w' e size = record {
    long = let k = x.long in omega arith;
    rising = λ r l. let a = same r (omega arith) in let c = same (r + 1) (omega arith) in let k = x.rising r l in omega arith;
    inside = λ r l. let a = same r l in let k = x.inside r l in omega arith;
    row = λ r l. ap₂ (λ (f t : ℕ). slice f t w') (same r (omega arith)) (same (r + 1) (omega arith)) ∙ frame_slice n w w' e (start_at w base rows r) (start_at w base rows (r + 1)) (x.inside (r + 1) (omega arith)) ∙ x.row r l;
  }
    where
      same : (r : ℕ) → r ≤ rows → start_at w' base rows r ≡ start_at w base rows r
      same r l = ap (λ (k : ℕ). base + (rows + 1) + k) (frame_at n w w' e (base + r) (let k = x.inside r l in omega arith))

  pub wider : (m : ℕ) → n ≤ m → m ≤ length w → Tabled m w base rows edges
  wider m h k = record { long = k; rising = x.rising; inside = λ r l. let i = x.inside r l in omega arith; row = x.row }

-- a table in a part from a to e
pub placed : {rows : ℕ} {edges : List Edge} (a e : ℕ) (w p : List ℕ) → a ≤ e → e ≤ length w → length p ≡ e - a → Tabled (length p) p 0 rows edges
    → Tabled e (take a w ++ (p ++ drop (e - a) (drop a w))) a rows edges
placed {rows} {edges} a e w p h k size x = record {
  long = let l = part_length a e w p h k size in omega arith;
  rising = λ r l. let b = moved r (omega arith) in let c = moved (r + 1) (omega arith) in let i = x.rising r l in omega arith;
  inside = λ r l. let b = moved r l in let i = x.inside r l in omega arith;
  row = λ r l. ap₂ (λ (f t : ℕ). slice f t w') (moved r (omega arith)) (moved (r + 1) (omega arith)) ∙ part_slice a e w p h k size (start_at p 0 rows r) (start_at p 0 rows (r + 1)) (x.inside (r + 1) (omega arith)) ∙ x.row r l;
}
  where
    w' : List ℕ
    w' = take a w ++ (p ++ drop (e - a) (drop a w))

    moved : (r : ℕ) → r ≤ rows → start_at w' a rows r ≡ a + start_at p 0 rows r
    moved r l =
        let i = x.inside r l in
        let b = part_at a e w p h k size r (omega arith) in
        let c : get_or p (0 + r) 0 ≡ get_or p r 0 = ap (λ (n : ℕ). get_or p n 0) (zero-add r) in
        omega arith

pub stood : {th : Theory} {b : Bases} {t : Table} {from to : ℕ} (w p : List ℕ) → (from ≡ base_of b t) × (to ≡ next_of b t)
    → (from + (rows_of th t + 1 + length (edges_of th t)) ≤ to) × (to ≤ length w) → length p ≡ to - from
    → Tabled (length (take (to - from) (drop from w))) p 0 (rows_of th t) (edges_of th t) → Built th b t w (take from w ++ (p ++ drop (to - from) (drop from w)))
stood {th} {b} {t} {from} {to} w p e fits size x =
    let h : from ≤ to = omega arith in
    let k : to ≤ length w = fits.1 in
    let m : length (take (to - from) (drop from w)) ≡ length p = simp (length-take, length-drop) (omega arith) in
    record {
      size = part_length from to w p h k size;
      before = rw (sym e.0) (part_before from to w p h k size);
      table = rw (sym e.0, sym e.1) (placed from to w p h k size (rw m at x));
    }
