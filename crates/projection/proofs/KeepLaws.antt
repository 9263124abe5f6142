-- An entry that is looked at, on the part: it is kept, or stored and written over by the next one. A row that is begun (`row_begun`) and done (`row_written`).
use mathlib.Core.Path.{◌≡◌, refl, sym, ap, ◌∙◌}
use mathlib.Core.Logic.{◌⊎◌, inl, inr}
use mathlib.Core.Bool.{Bool, true, false, cond}
use mathlib.Core.List.Memᴰ
use mathlib.Core.List.{List, [], ◌∷◌, ◌++◌, append_assoc, append-nil}
use Prim.Native.Nat.{ℕ, suc, ◌+◌, ◌≤◌, ◌<◌}
use native.Mathlib.Omega.{arith}
use native.Mathlib.Numerals.{add-one}
use lib.ListN.{length, get_or, set, take, drop, length-set, length-append}
use lib.Seq.{slice, take-suc-set, take-set-le, drop-append-le, length-take-le, length-slice, slice_empty}
use Rattle.std.specs.Prelude.{filter}
use Rattle.theory.specs.Sets.{Set, Mem}
use Rattle.theory.specs.Drive.{Follows, Drives}
use Rattle.theory.proofs.SetLaws.{bool_cases}
use Rattle.theory.proofs.ServeLaws.{kept_in, kept_out}
use Rattle.theory.proofs.DriveLaws.{follows_all, drives_all}
use Rattle.area.proofs.PartLaws.{frame_slice}
use Rattle.projection.specs.Narrowing.{RowBegun, Narrowing, Written}

-- one more word at the end of a slice
pub slice_more : (f t : ℕ) (w : List ℕ) (x : ℕ) → f ≤ t → t < length w → slice f (t + 1) (set w t x) ≡ slice f t w ++ (x ∷ [])
slice_more f t w x h k =
    rw (add-one t) (ap (drop f) (take-suc-set w t x k) ∙ drop-append-le f (take t w) (x ∷ []) (let l = length-take-le t w (omega arith) in omega arith))

module _ {w : List ℕ} {marks : ℕ} {p : List ℕ} {place v : ℕ} where
  module _ {c : RowBegun} {todo : List ℕ} (k : Narrowing w marks c p place (v ∷ todo)) where
    here : (marks + v < length w) × (v < 65536) × (get_or w (marks + v) 0 ≡ cond (c.set v) 1 0)
    here = k.told v (Memᴰ.head refl)

    -- there is room for one word more than is kept
    pub keep_room : place < length p
    keep_room = let f = k.fits in omega arith

    stored : {n : ℕ} → n ≡ get_or w (marks + v) 0 → Narrowing w marks c (set p place v) (place + n) todo
    stored {n} en = go (bool_cases (c.set v))
      where
        go : (c.set v ≡ true) ⊎ (c.set v ≡ false) → Narrowing w marks c (set p place v) (place + n) todo
        go (inl e) =
            let q : n ≡ 1 = en ∙ here.2 ∙ ap (λ (x : Bool). cond x 1 0) e in
            let l = ap length (kept_in c.set v todo e) in
            let b = k.begun in let f = k.fits in
            record {
              begun = omega arith;
              fits = rw length-set (omega arith);
              told = λ x m. k.told x (Memᴰ.tail m);
              fore = take-set-le c.from p place v k.begun ∙ k.fore;
              size = length-set p place v ∙ k.size;
              made = rw (q, slice_more c.from place p v k.begun keep_room, append_assoc) (rw (kept_in c.set v todo e) at k.made);
            }
        go (inr e) =
            let q : n ≡ 0 = en ∙ here.2 ∙ ap (λ (x : Bool). cond x 1 0) e in
            let z : place + n ≡ place = omega arith in
            let l = ap length (kept_out c.set v todo e) in
            let b = k.begun in let f = k.fits in
            record {
              begun = omega arith;
              fits = rw length-set (omega arith);
              told = λ x m. k.told x (Memᴰ.tail m);
              fore = take-set-le c.from p place v k.begun ∙ k.fore;
              size = length-set p place v ∙ k.size;
              made = rw (z, frame_slice place p (set p place v) (take-set-le place p place v (omega arith)) c.from place (omega arith)) (rw (kept_out c.set v todo e) at k.made);
            }

  -- ---- as the step sees it

  module _ (f : Follows (Narrowing w marks) p place (v ∷ [])) where
    pub step_room : place < length p
    step_room = keep_room f.held

    pub step_mark : (marks + v < length w) × (v < 65536)
    step_mark = let h = here f.held in (h.0, h.1)

    pub step_keeps : {n : ℕ} → n ≡ get_or w (marks + v) 0 → Drives (Narrowing w marks) 0 p place (v ∷ []) (set p place v) (place + n) []
    step_keeps en = record { frame = refl; size = length-set p place v; keeps = λ c more k. stored k en }

-- ---- a row

module _ (w : List ℕ) (marks : ℕ) (s : Set) (p : List ℕ) (place : ℕ) (l : List ℕ) (room : place + length (filter s l) < length p)
    (told : (v : ℕ) → Mem v l → (marks + v < length w) × (v < 65536) × (get_or w (marks + v) 0 ≡ cond (s v) 1 0)) where
  begin : Narrowing w marks (record { set = s; from = place; base = p; row = filter s l }) p place l
  begin = record { begun = omega arith; fits = room; told = told; fore = refl; size = refl; made = ap (λ (x : List ℕ). x ++ filter s l) (slice_empty place p) }

  pub row_begun : Follows (Narrowing w marks) p place l
  row_begun = follows_all (Narrowing w marks) begin

  pub row_written : {p' : List ℕ} {place' : ℕ} → Drives (Narrowing w marks) 0 p place l p' place' [] → Written p p' place place' (filter s l)
  row_written {p'} {place'} d = record {
    size = k.size;
    fore = k.fore;
    ends = let b = k.begun in let z = length-slice place place' p' (let f = k.fits in omega arith) in let m = ap length is in omega arith;
    made = is;
  }
    where
      k : Narrowing w marks (record { set = s; from = place; base = p; row = filter s l }) p' place' []
      k = drives_all (Narrowing w marks) begin d

      is : slice place place' p' ≡ filter s l
      is = rw append-nil at k.made

-- a node outside the cone
pub none_written : (p : List ℕ) (place : ℕ) → Written p p place place []
none_written p place = record { size = refl; fore = refl; ends = omega arith; made = slice_empty place p }
