-- A table row by row: the first offset (`rowing_start`), one more row (`rowing_next`), and the table (`rowing_end`).
use mathlib.Core.Path.{◌≡◌, refl, sym, ap, ap₂, ◌∙◌, subst}
use mathlib.Core.List.{List, []}
use Prim.Native.Nat.{ℕ, zero, suc, ◌+◌, ◌-◌, ◌≤◌, ◌<◌}
use native.Mathlib.Omega.{arith}
use native.Mathlib.Numerals.{add-one}
use native.Mathlib.Nat.{not-suc-le-zero, zero-add}
use native.Mathlib.Decide.{ℕ_discrete}
use lib.ListN.{length, get_or, set, take, length-set}
use lib.Seq.{slice, ext_get_or, length-slice, get_or-drop, get_or-take, get_or-set_same, get_or-set_other}
use Rattle.theory.specs.Sets.{sum_below}
use Rattle.theory.proofs.CountLaws.{sum_mono, sum_step}
use Rattle.area.proofs.PartLaws.{frame_at, frame_slice}
use Rattle.adjacency.specs.Tables.{start_at}
use Rattle.projection.specs.Narrowed.{start_in, RowTable}
use Rattle.projection.specs.Narrowing.{Written, Rowing}

-- a store before a slice
pub slice_past : (f t : ℕ) (w : List ℕ) (i x : ℕ) → i < f → f ≤ t → t ≤ length w → slice f t (set w i x) ≡ slice f t w
slice_past f t w i x h k l = ext_get_or 0 (slice f t (set w i x)) (slice f t w) same at
  where
    same : length (slice f t (set w i x)) ≡ length (slice f t w)
    same = length-slice f t (set w i x) (rw length-set l) ∙ sym (length-slice f t w l)

    at : (j : ℕ) → j < length (slice f t (set w i x)) → get_or (slice f t (set w i x)) j 0 ≡ get_or (slice f t w) j 0
    at j b =
        let n = length-slice f t (set w i x) (rw length-set l) in
        get_or-drop f (take t (set w i x)) j 0 ∙ get_or-take t (set w i x) (f + j) 0 (omega arith)
        ∙ get_or-set_other w i (f + j) x 0 (λ e. omega arith)
        ∙ sym (get_or-drop f (take t w) j 0 ∙ get_or-take t w (f + j) 0 (omega arith))

module _ (rows : ℕ) (row : ℕ → List ℕ) (p₀ : List ℕ) (room : rows + 1 + start_in row rows < length p₀) where
  pub rowing_start : Rowing rows row p₀ (set p₀ 0 0) 0 (rows + 1)
  unfolding sum_below
  rowing_start = record {
    size = length-set p₀ 0 0;
    place_is = omega arith;
    starts = λ s h. first s h;
    made = λ s h. absurd (not-suc-le-zero h);
  }
    where
      first : (s : ℕ) → s ≤ 0 → get_or (set p₀ 0 0) s 0 ≡ start_in row s
      first zero h = get_or-set_same p₀ 0 0 0 (omega arith)
      first (suc s) h = absurd (omega arith)

  module _ {p : List ℕ} {r place : ℕ} (k : Rowing rows row p₀ p r place) (l : r < rows) where
    upto_row : start_in row r + length (row r) ≤ start_in row rows
    upto_row = let m = sum_mono (suc r) rows (λ s. length (row s)) (omega arith) in let e = sum_step r (λ s. length (row s)) in omega arith

    pub next_room : place + length (row r) < length p
    next_room = let e = k.place_is in let u = upto_row in let z = k.size in omega arith

    module _ {p' : List ℕ} {place' : ℕ} (d : Written p p' place place' (row r)) where
      pub next_small : place' - (rows + 1) ≡ start_in row (suc r)
      next_small = let e = k.place_is in let n = d.ends in let q = sum_step r (λ s. length (row s)) in omega arith

      pub next_fits : (rows + 1 ≤ place') × (r + 1 < length p') × (place' - (rows + 1) ≤ start_in row rows)
      next_fits = let e = k.place_is in let n = d.ends in let u = upto_row in let z = k.size in let y = d.size in (omega arith, omega arith, omega arith)

      pub rowing_next : Rowing rows row p₀ (set p' (r + 1) (place' - (rows + 1))) (r + 1) place'
      rowing_next = record {
        size = length-set p' (r + 1) (place' - (rows + 1)) ∙ d.size ∙ k.size;
        place_is = let e = next_small in let n = next_fits.0 in rw (add-one r) (omega arith);
        starts = λ s h. offset s h (ℕ_discrete s (r + 1));
        made = λ s h. made s h (ℕ_discrete s r);
      }
        where
          offset : (s : ℕ) → s ≤ r + 1 → Dec (s ≡ r + 1) → get_or (set p' (r + 1) (place' - (rows + 1))) s 0 ≡ start_in row s
          offset s h (yes e) = rw (e, add-one r) (get_or-set_same p' (suc r) (place' - (rows + 1)) 0 (let f = next_fits.1 in omega arith) ∙ next_small)
          offset s h (no n) =
              let e = k.place_is in
              get_or-set_other p' (r + 1) s (place' - (rows + 1)) 0 n ∙ frame_at place p p' d.fore s (omega arith) ∙ k.starts s (omega arith)

          made : (s : ℕ) → s < r + 1 → Dec (s ≡ r) → slice (rows + 1 + start_in row s) (rows + 1 + start_in row (suc s)) (set p' (r + 1) (place' - (rows + 1))) ≡ row s
          made s h (yes e) =
              let q = next_small in let n = next_fits.0 in let z = k.place_is in let y = d.size in let u = upto_row in let g = k.size in let j = d.ends in
              let f : rows + 1 + start_in row r ≡ place = omega arith in
              let t : rows + 1 + start_in row (suc r) ≡ place' = omega arith in
              rw (e, f, t) (slice_past place place' p' (r + 1) (place' - (rows + 1)) (omega arith) (omega arith) (omega arith) ∙ d.made)
          made s h (no n) =
              let m = sum_mono (suc s) r (λ x. length (row x)) (omega arith) in
              let st = sum_step s (λ x. length (row x)) in
              let z = k.place_is in let y = d.size in let g = k.size in let u = upto_row in
              slice_past (rows + 1 + start_in row s) (rows + 1 + start_in row (suc s)) p' (r + 1) (place' - (rows + 1)) (omega arith) (omega arith) (omega arith)
              ∙ frame_slice place p p' d.fore (rows + 1 + start_in row s) (rows + 1 + start_in row (suc s)) (omega arith)
              ∙ k.made s (omega arith)

  pub rowing_end : {p : List ℕ} {place : ℕ} → Rowing rows row p₀ p rows place → RowTable rows row p × (length p ≡ length p₀)
  rowing_end {p} {place} k = (
    record {
      rising = λ r h. let a = start r (omega arith) in let b = start (r + 1) (omega arith) in let m = sum_mono r (r + 1) (λ s. length (row s)) (omega arith) in omega arith;
      inside = λ r h. let a = start r h in let m = sum_mono r rows (λ s. length (row s)) h in let z = k.size in omega arith;
      has = λ r h. ap₂ (λ (f t : ℕ). slice f t p) (start r (omega arith)) (start (r + 1) (omega arith) ∙ ap (λ (x : ℕ). rows + 1 + start_in row x) (add-one r)) ∙ k.made r h;
    },
    k.size,
  )
    where
      start : (r : ℕ) → r ≤ rows → start_at p 0 rows r ≡ rows + 1 + start_in row r
      start r h = let e = ap (λ (x : ℕ). get_or p x 0) (zero-add r) in let q = k.starts r h in omega arith
