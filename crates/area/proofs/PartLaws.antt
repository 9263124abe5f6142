-- A part of the work area, from a to e, that was lent and came back as p: what stands in the whole then. Words that stay outside a region: after no store, two changes and a store
-- (`outside_none`, `outside_then`, `outside_set`).
use mathlib.Core.Path.{◌≡◌, refl, sym, ap, ◌∙◌}
use mathlib.Core.List.{List, ◌++◌, append_assoc}
use Prim.Native.Nat.{ℕ, ◌+◌, ◌-◌, ◌≤◌, ◌<◌}
use native.Mathlib.Omega.{arith}
use lib.ListN.{length, get_or, set, take, drop, length-append, length-take, length-drop, length-set, get_or-append}
use lib.Seq.{slice, get_or-take, take-take, length-take-le, take_at, take-append-le, take-append-add, drop-append-add, drop-drop, get_or-drop, get_or-append-add, take-set-le, drop-set-lt}
use Rattle.area.specs.Views.{Outside}

module _ (a e : ℕ) (w p : List ℕ) (h : a ≤ e) (k : e ≤ length w) (size : length p ≡ e - a) where
  front : length (take a w) ≡ a
  front = length-take-le a w (omega arith)

  pub part_length : length (take a w ++ (p ++ drop (e - a) (drop a w))) ≡ length w
  part_length = simp (length-append, length-take, length-drop) (omega arith)

  pub part_before : take a (take a w ++ (p ++ drop (e - a) (drop a w))) ≡ take a w
  part_before = take_at (take a w) (p ++ drop (e - a) (drop a w)) a front

  pub part_after : (n : ℕ) → e ≤ n → drop n (take a w ++ (p ++ drop (e - a) (drop a w))) ≡ drop n w
  part_after n l =
      let f = front in
      let i : length (take a w ++ p) ≡ e = simp length-append (omega arith) in
      let j : e + (n - e) ≡ n = omega arith in
      ap (drop n) (sym (append_assoc (take a w) p (drop (e - a) (drop a w))))
      ∙ ap (λ (k : ℕ). drop k ((take a w ++ p) ++ drop (e - a) (drop a w))) (sym (ap (λ (k : ℕ). k + (n - e)) i ∙ j))
      ∙ drop-append-add (take a w ++ p) (drop (e - a) (drop a w)) (n - e)
      ∙ drop-drop (n - e) (e - a) (drop a w)
      ∙ drop-drop (e - a + (n - e)) a w
      ∙ (let k : a + (e - a + (n - e)) ≡ n = omega arith in ap (λ (k : ℕ). drop k w) k)

  pub part_at : (i : ℕ) → i < length p → get_or (take a w ++ (p ++ drop (e - a) (drop a w))) (a + i) 0 ≡ get_or p i 0
  part_at i l =
      ap (λ (n : ℕ). get_or (take a w ++ (p ++ drop (e - a) (drop a w))) (n + i) 0) (sym front)
      ∙ get_or-append-add (take a w) (p ++ drop (e - a) (drop a w)) i 0
      ∙ get_or-append p (drop (e - a) (drop a w)) 0 i l

  pub part_slice : (f t : ℕ) → t ≤ length p → slice (a + f) (a + t) (take a w ++ (p ++ drop (e - a) (drop a w))) ≡ slice f t p
  part_slice f t l =
      ap (λ (n : ℕ). slice (n + f) (n + t) (take a w ++ (p ++ drop (e - a) (drop a w)))) (sym front)
      ∙ ap (drop (length (take a w) + f)) (take-append-add (take a w) (p ++ drop (e - a) (drop a w)) t)
      ∙ drop-append-add (take a w) (take t (p ++ drop (e - a) (drop a w))) f
      ∙ ap (drop f) (take-append-le t p (drop (e - a) (drop a w)) l)

-- the words before n are the same
module _ (n : ℕ) (w w' : List ℕ) (e : take n w' ≡ take n w) where
  pub frame_at : (i : ℕ) → i < n → get_or w' i 0 ≡ get_or w i 0
  frame_at i h = sym (get_or-take n w' i 0 h) ∙ ap (λ (l : List ℕ). get_or l i 0) e ∙ get_or-take n w i 0 h

  pub frame_less : (m : ℕ) → m ≤ n → take m w' ≡ take m w
  frame_less m h = sym (take-take m n w' h) ∙ ap (take m) e ∙ take-take m n w h

  pub frame_slice : (f t : ℕ) → t ≤ n → slice f t w' ≡ slice f t w
  frame_slice f t h = ap (drop f) (frame_less t h)

-- the words from m on are the same
module _ (m : ℕ) (w w' : List ℕ) (e : drop m w' ≡ drop m w) where
  pub behind_more : (k : ℕ) → m ≤ k → drop k w' ≡ drop k w
  behind_more k h = let q : m + (k - m) ≡ k = omega arith in rw (sym q, ← drop-drop (k - m) m w', ← drop-drop (k - m) m w, e) refl

  pub behind_at : (i : ℕ) → m ≤ i → get_or w' i 0 ≡ get_or w i 0
  behind_at i h = let q : m + (i - m) ≡ i = omega arith in rw (sym q, ← get_or-drop m w' (i - m) 0, ← get_or-drop m w (i - m) 0, e) refl

-- ---- words outside

pub outside_none : {from to : ℕ} {w : List ℕ} → Outside from to w w
outside_none = record { size = refl; before = refl; after = refl }

pub outside_then : {from to : ℕ} {w₀ w₁ w₂ : List ℕ} → Outside from to w₀ w₁ → Outside from to w₁ w₂ → Outside from to w₀ w₂
outside_then p q = record { size = q.size ∙ p.size; before = q.before ∙ p.before; after = q.after ∙ p.after }

pub outside_set : (from to : ℕ) (w : List ℕ) (i x : ℕ) → from ≤ i → i < to → Outside from to w (set w i x)
outside_set from to w i x h k = record { size = length-set w i x; before = take-set-le from w i x h; after = drop-set-lt to w i x k }
