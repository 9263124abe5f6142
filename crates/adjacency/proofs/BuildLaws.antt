-- The steps of the row builder: an edge is counted (`drives_counted`) or filled in (`drives_filled`), counts become starts (`summed_more`),
-- and at the end the part holds the table of the edges (`built`). No width and no address.
use mathlib.Core.Path.{◌≡◌, refl, sym, ap, ap₂, ◌∙◌, subst}
use mathlib.Core.Logic.{◌≢◌}
use mathlib.Core.Bool.{Bool, true, false, cond}
use mathlib.Core.List.{List, [], ◌∷◌, ◌++◌, append_assoc, append-nil}
use Prim.Native.Nat.{ℕ, zero, suc, ◌+◌, ◌≤◌, ◌<◌}
use native.Mathlib.Omega.{arith}
use native.Mathlib.Nat.{zero-add, add-zero}
use native.Mathlib.Numerals.{add-one}
use native.Mathlib.Decide.{ℕ_discrete, dec_lt}
use lib.ListN.{length, get_or, set, take, length-set, length-append}
use lib.Seq.{slice, get_or-set_same, get_or-set_other, get_or-append_seam, get_or-take, get_or-drop, length-slice, ext_get_or}
use Rattle.theory.specs.Sets.{sum_below}
use Rattle.theory.specs.Rows.{Edge, edge, entries}
use Rattle.theory.specs.Drive.{Follows, Drives}
use Rattle.theory.proofs.SetLaws.{clash}
use Rattle.theory.proofs.CountLaws.{sum_step, sum_mono, sum_same}
use Rattle.theory.proofs.RowLaws.{entries_same, entries_other, entries_append}
use Rattle.adjacency.specs.Tables.{Tabled, start_at, row_at}
use Rattle.adjacency.specs.Building.{Keyed, start_of, Building, sum_of, Summed}

-- ---- an edge

module _ {lim : ℕ} {m : Bool} {rows : ℕ} {all : List Edge} {q : List ℕ} {t k x : ℕ} {todo : List Edge} (h : Building lim m rows all q t (edge k x ∷ todo)) where
  low : k < rows
  low = h.keyed.0

  -- row k: what is passed, x, and what is to come
  split : entries k all ≡ entries k h.done ++ x ∷ entries k todo
  split = ap (entries k) (sym h.whole) ∙ entries_append k h.done (edge k x ∷ todo) ∙ ap (λ (l : List ℕ). entries k h.done ++ l) (entries_same k x todo)

  shorter : length (entries k h.done) < length (entries k all)
  shorter = rw (split, length-append) (omega arith)

  inside : start_of all k + length (entries k all) ≤ start_of all rows
  inside = let a = sum_mono (suc k) rows (λ s. length (entries s all)) low in let e = sum_step k (λ s. length (entries s all)) in omega arith

  cursor_low : get_or q (k + 1) 0 < start_of all rows
  cursor_low = go m (h.cursors k low)
    where
      go : (b : Bool) → get_or q (k + 1) 0 ≡ cond b (start_of all k) 0 + length (entries k h.done) → get_or q (k + 1) 0 < start_of all rows
      go true e = let a = inside in let s = shorter in omega arith
      go false e = let a = inside in let s = shorter in omega arith

  grown : length (entries k (h.done ++ (edge k x ∷ []))) ≡ length (entries k h.done) + 1
  unfolding entries
  grown = ap length (entries_append k h.done (edge k x ∷ []) ∙ ap (λ (l : List ℕ). entries k h.done ++ l) (entries_same k x [])) ∙ length-append (entries k h.done) (x ∷ [])

  same : (r : ℕ) → r ≢ k → entries r (h.done ++ (edge k x ∷ [])) ≡ entries r h.done
  unfolding entries
  same r n = entries_append r h.done (edge k x ∷ []) ∙ ap (λ (l : List ℕ). entries r h.done ++ l) (entries_other r k x [] n) ∙ append-nil (entries r h.done)

  -- the cursor of row k goes on
  module _ (q' : List ℕ) (size : length q' ≡ length q) (there : get_or q' (k + 1) 0 ≡ get_or q (k + 1) 0 + 1) (others : (i : ℕ) → i < rows + 1 → i ≢ k + 1 → get_or q' i 0 ≡ get_or q i 0) where
    cursors' : (r : ℕ) → r < rows → get_or q' (r + 1) 0 ≡ cond m (start_of all r) 0 + length (entries r (h.done ++ (edge k x ∷ [])))
    cursors' r l = go (ℕ_discrete r k)
      where
        go : Dec (r ≡ k) → get_or q' (r + 1) 0 ≡ cond m (start_of all r) 0 + length (entries r (h.done ++ (edge k x ∷ [])))
        go (yes e) = rw e (let c = h.cursors k low in let a = grown in omega arith)
        go (no n) = others (r + 1) (omega arith) (λ e. n (omega arith)) ∙ h.cursors r l ∙ ap (λ (l : List ℕ). cond m (start_of all r) 0 + length l) (sym (same r n))

    build : (m ≡ true → (r i : ℕ) → r < rows → i < length (entries r (h.done ++ (edge k x ∷ []))) → get_or q' (rows + 1 + (start_of all r + i)) 0 ≡ get_or (entries r all) i 0) → Building lim m rows all q' t todo
    build filled = record {
      done = h.done ++ (edge k x ∷ []);
      whole = append_assoc h.done (edge k x ∷ []) todo ∙ h.whole;
      keyed = h.keyed.2;
      room = rw size h.room;
      small = h.small;
      first = others 0 (omega arith) (λ e. omega arith) ∙ h.first;
      cursors = cursors';
      filled = filled;
    }

  build_count : m ≡ false → Building lim m rows all (set q (k + 1) (get_or q (k + 1) 0 + 1)) t todo
  build_count e =
      build (set q (k + 1) (get_or q (k + 1) 0 + 1)) (length-set q (k + 1) (get_or q (k + 1) 0 + 1))
      (get_or-set_same q (k + 1) (get_or q (k + 1) 0 + 1) 0 (let l = low in let a = h.room in omega arith))
      (λ i l n. get_or-set_other q (k + 1) i (get_or q (k + 1) 0 + 1) 0 n)
      (λ y. clash y e)

  build_fill : m ≡ true → Building lim m rows all (set (set q (k + 1) (get_or q (k + 1) 0 + 1)) (rows + 1 + get_or q (k + 1) 0) x) t todo
  build_fill e =
      build q₂ (length-set q₁ (rows + 1 + p) x ∙ length-set q (k + 1) (p + 1))
      (get_or-set_other q₁ (rows + 1 + p) (k + 1) x 0 (λ y. let l = low in omega arith) ∙ get_or-set_same q (k + 1) (p + 1) 0 (let l = low in let a = h.room in omega arith))
      (λ i l n. get_or-set_other q₁ (rows + 1 + p) i x 0 (λ y. omega arith) ∙ get_or-set_other q (k + 1) i (p + 1) 0 n)
      (λ y r i l j. entry r i l j (ℕ_discrete r k))
    where
      p : ℕ
      p = get_or q (k + 1) 0

      q₁ : List ℕ
      q₁ = set q (k + 1) (p + 1)

      q₂ : List ℕ
      q₂ = set q₁ (rows + 1 + p) x

      cursor : p ≡ start_of all k + length (entries k h.done)
      cursor = h.cursors k low ∙ ap (λ (b : Bool). cond b (start_of all k) 0 + length (entries k h.done)) e

      -- an entry elsewhere stays
      stays : (i : ℕ) → i ≢ p → get_or q₂ (rows + 1 + i) 0 ≡ get_or q (rows + 1 + i) 0
      stays i n =
          get_or-set_other q₁ (rows + 1 + p) (rows + 1 + i) x 0 (λ y. n (omega arith))
          ∙ get_or-set_other q (k + 1) (rows + 1 + i) (p + 1) 0 (λ y. let l = low in omega arith)

      entry : (r i : ℕ) → r < rows → i < length (entries r (h.done ++ (edge k x ∷ []))) → Dec (r ≡ k) → get_or q₂ (rows + 1 + (start_of all r + i)) 0 ≡ get_or (entries r all) i 0
      entry r i l j (no n) =
          let j' : i < length (entries r h.done) = subst (λ (l : List ℕ). i < length l) (same r n) j in
          stays (start_of all r + i) (apart (dec_lt r k)) ∙ h.filled e r i l j'
        where
          fits : i < length (entries r all)
          fits =
              let j' : i < length (entries r h.done) = subst (λ (l : List ℕ). i < length l) (same r n) j in
              omega (arith, ap length (ap (entries r) (sym h.whole) ∙ entries_append r h.done (edge k x ∷ todo)), length-append (entries r h.done) (entries r (edge k x ∷ todo)))

          apart : Dec (r < k) → start_of all r + i ≢ p
          apart (yes b) = λ y. let c = cursor in let f = fits in omega (arith, sum_mono (suc r) k (λ s. length (entries s all)) b, sum_step r (λ s. length (entries s all)))
          apart (no b) = λ y. let c = cursor in let s = shorter in omega (arith, sum_mono (suc k) r (λ s. length (entries s all)) (omega arith), sum_step k (λ s. length (entries s all)))
      entry r i l j (yes z) = rw z (here (ℕ_discrete i (length (entries k h.done))))
        where
          j' : i < length (entries k h.done) + 1
          j' = subst (λ (n : ℕ). i < n) grown (subst (λ (s : ℕ). i < length (entries s (h.done ++ (edge k x ∷ [])))) z j)

          here : Dec (i ≡ length (entries k h.done)) → get_or q₂ (rows + 1 + (start_of all k + i)) 0 ≡ get_or (entries k all) i 0
          here (yes y) =
              let c = cursor in
              let d : start_of all k + i ≡ p = omega arith in
              ap (λ (a : ℕ). get_or q₂ (rows + 1 + a) 0) d
              ∙ get_or-set_same q₁ (rows + 1 + p) x 0 (rw length-set (let a = h.room in let b = cursor_low in omega arith))
              ∙ sym (ap₂ (λ (l : List ℕ) (n : ℕ). get_or l n 0) split y ∙ get_or-append_seam (entries k h.done) x (entries k todo) 0)
          here (no y) = let c = cursor in let jj = j' in stays (start_of all k + i) (λ d. y (omega arith)) ∙ h.filled e k i low (omega arith)

-- what placing an edge asks
pub record Placeable (lim rows : ℕ) (q : List ℕ) (k x : ℕ) : Type 0 where
  pub counted : (k + 1 < length q) × (get_or q (k + 1) 0 + 1 < lim)
  pub slot : rows + 1 + get_or q (k + 1) 0 < length q
  pub entry : x < lim

pub placeable : {lim : ℕ} {m : Bool} {rows : ℕ} {q : List ℕ} {t k x : ℕ} → Follows (Building lim m rows) q t (edge k x ∷ []) → Placeable lim rows q k x
placeable f =
    let h = f.held in let l = cursor_low h in let r = low h in let a = h.small in let b = h.room in
    record { counted = (omega arith, omega arith); slot = omega arith; entry = h.keyed.1 }

module _ {lim rows : ℕ} {q : List ℕ} {t k x : ℕ} where
  pub drives_counted : Drives (Building lim false rows) 0 q t (edge k x ∷ []) (set q (k + 1) (get_or q (k + 1) 0 + 1)) t []
  drives_counted = record { frame = refl; size = length-set q (k + 1) _; keeps = λ c more h. build_count h refl }

  pub drives_filled : Drives (Building lim true rows) 0 q t (edge k x ∷ []) (set (set q (k + 1) (get_or q (k + 1) 0 + 1)) (rows + 1 + get_or q (k + 1) 0) x) t []
  drives_filled = record { frame = refl; size = length-set (set q (k + 1) _) _ x ∙ length-set q (k + 1) _; keeps = λ c more h. build_fill h refl }

-- ---- counts become starts

pub summed_none : (q : List ℕ) → Summed q q 0 0
unfolding sum_below
summed_none q = record { size = refl; sofar = refl; made = λ s h. absurd (omega arith); first = refl; rest = λ i h. refl }

module _ {q₀ q : List ℕ} {r total n : ℕ} (s : Summed q₀ q r total) (en : n ≡ get_or q (r + 1) 0) where
  summed_next : total + n ≡ sum_of q₀ (r + 1)
  summed_next = rw add-one (let a = s.sofar in let b = s.rest (r + 1) (omega arith) in let c = sum_step r (λ s. get_or q₀ (s + 1) 0) in omega arith)

  pub summed_low : {rows : ℕ} → r < rows → total + n ≤ sum_of q₀ rows
  summed_low {rows} h = let e = summed_next in let m = sum_mono (r + 1) rows (λ s. get_or q₀ (s + 1) 0) (omega arith) in omega arith

  pub summed_more : r + 1 < length q → Summed q₀ (set q (r + 1) total) (r + 1) (total + n)
  summed_more h = record {
    size = length-set q (r + 1) total ∙ s.size;
    sofar = summed_next;
    made = λ k l. made k l (ℕ_discrete k r);
    first = get_or-set_other q (r + 1) 0 total 0 (λ e. omega arith) ∙ s.first;
    rest = λ i l. get_or-set_other q (r + 1) i total 0 (λ e. omega arith) ∙ s.rest i (omega arith);
  }
    where
      made : (k : ℕ) → k < r + 1 → Dec (k ≡ r) → get_or (set q (r + 1) total) (k + 1) 0 ≡ sum_of q₀ k
      made k l (yes e) = rw e (get_or-set_same q (r + 1) total 0 h ∙ s.sofar)
      made k l (no n) = get_or-set_other q (r + 1) (k + 1) total 0 (λ e. n (omega arith)) ∙ s.made k (omega arith)

-- ---- from a cleared part to a table

module _ {lim rows : ℕ} {all : List Edge} (keyed : Keyed lim rows all) (small : start_of all rows < lim) where
  pub count_start : (q : List ℕ) → rows + 1 + start_of all rows ≤ length q → ((i : ℕ) → i < rows + 1 → get_or q i 0 ≡ 0) → Building lim false rows all q 0 all
  unfolding entries
  count_start q room zeros = record {
    done = [];
    whole = refl;
    keyed = keyed;
    room = room;
    small = small;
    first = zeros 0 (omega arith);
    cursors = λ r l. zeros (r + 1) (omega arith);
    filled = λ e. clash refl (sym e);
  }

  module _ {q : List ℕ} (b : Building lim false rows all q 0 []) where
    all_done : b.done ≡ all
    all_done = sym (append-nil b.done) ∙ b.whole

    -- a row's count is its length
    pub counted : (r : ℕ) → r ≤ rows → sum_of q r ≡ start_of all r
    counted r l = sum_same r (λ s. get_or q (s + 1) 0) (λ s. length (entries s all)) (λ s h. b.cursors s (omega arith) ∙ zero-add _ ∙ ap (λ (d : List Edge). length (entries s d)) all_done)

    pub fill_start : {q' : List ℕ} {total : ℕ} → Summed q q' rows total → Building lim true rows all q' 0 all
    unfolding entries
    fill_start s = record {
      done = [];
      whole = refl;
      keyed = keyed;
      room = rw s.size b.room;
      small = small;
      first = s.first ∙ b.first;
      cursors = λ r l. s.made r l ∙ counted r (omega arith) ∙ sym (add-zero (start_of all r));
      filled = λ e r i l h. absurd (omega arith);
    }

module _ {lim rows : ℕ} {all : List Edge} {q : List ℕ} (b : Building lim true rows all q 0 []) where
  done_all : b.done ≡ all
  done_all = sym (append-nil b.done) ∙ b.whole

  offset : (r : ℕ) → r ≤ rows → get_or q (0 + r) 0 ≡ start_of all r
  unfolding sum_below
  offset zero l = b.first
  offset (suc r) l =
      ap (λ (k : ℕ). get_or q k 0) (zero-add (suc r) ∙ sym (add-one r)) ∙ b.cursors r l
      ∙ ap (λ (d : List Edge). start_of all r + length (entries r d)) done_all ∙ omega (arith, sum_step r (λ s. length (entries s all)))

  starts : (r : ℕ) → r ≤ rows → start_at q 0 rows r ≡ rows + 1 + start_of all r
  starts r l = let e = offset r l in omega arith

  pub built : Tabled (length q) q 0 rows all
  built = record {
    long = omega arith;
    rising = λ r l. let a = starts r (omega arith) in let c = starts (r + 1) (omega arith) in let d = sum_mono r (r + 1) (λ s. length (entries s all)) (omega arith) in omega arith;
    inside = λ r l. let a = starts r l in let d = sum_mono r rows (λ s. length (entries s all)) l in let e = b.room in omega arith;
    row = row;
  }
    where
      row : (r : ℕ) → r < rows → row_at q 0 rows r ≡ entries r all
      row r l = ap₂ (λ (f t : ℕ). slice f t q) (starts r (omega arith)) (starts (r + 1) (omega arith)) ∙ ext_get_or 0 (slice (rows + 1 + start_of all r) (rows + 1 + start_of all (r + 1)) q) (entries r all) size at
        where
          next : start_of all (r + 1) ≡ start_of all r + length (entries r all)
          next = ap (start_of all) (add-one r) ∙ omega (arith, sum_step r (λ s. length (entries s all)))

          ends : rows + 1 + start_of all (r + 1) ≤ length q
          ends = let a = b.room in let c = sum_mono (r + 1) rows (λ s. length (entries s all)) (omega arith) in omega arith

          size : length (slice (rows + 1 + start_of all r) (rows + 1 + start_of all (r + 1)) q) ≡ length (entries r all)
          size = length-slice (rows + 1 + start_of all r) (rows + 1 + start_of all (r + 1)) q ends ∙ (let n = next in omega arith)

          at : (i : ℕ) → i < length (slice (rows + 1 + start_of all r) (rows + 1 + start_of all (r + 1)) q) → get_or (slice (rows + 1 + start_of all r) (rows + 1 + start_of all (r + 1)) q) i 0 ≡ get_or (entries r all) i 0
          at i h =
              let s = size in let n = next in
              let e : rows + 1 + start_of all r + i ≡ rows + 1 + (start_of all r + i) = omega arith in
              get_or-drop (rows + 1 + start_of all r) (take (rows + 1 + start_of all (r + 1)) q) i 0
              ∙ get_or-take (rows + 1 + start_of all (r + 1)) q (rows + 1 + start_of all r + i) 0 (omega arith)
              ∙ ap (λ (k : ℕ). get_or q k 0) e
              ∙ b.filled refl r i l (subst (λ (d : List Edge). i < length (entries r d)) (sym done_all) (omega arith))
