-- A list that stands in the words from a base on, `take k (drop base w)`: one more entry (`list_more`), a store before or after it (`list_before`,
-- `list_after`), an entry of it (`list_entry`) and a longer part of it (`list_step`). Words from a base on stay from a later one on (`drop_later`).
use mathlib.Core.Path.{◌≡◌, refl, sym, ap, ◌∙◌, subst}
use mathlib.Core.List.Memᴰ
use mathlib.Core.List.{List, [], ◌∷◌, ◌++◌}
use Prim.Native.Nat.{ℕ, zero, suc, ◌+◌, ◌-◌, ◌≤◌, ◌<◌}
use native.Mathlib.Nat.{not-suc-le-zero}
use native.Mathlib.Numerals.{add-one}
use native.Mathlib.Omega.{arith}
use lib.ListN.{length, get_or, take, drop, set, length-drop, length-take}
use lib.Seq.{take-suc, take-suc-set, take-set-le, drop-set-lt, drop-set-add, drop-drop, get_or-take, get_or-drop}
use Rattle.theory.specs.Sets.{Mem}

pub get_d_mem : (l : List ℕ) (i : ℕ) → i < length l → Mem (get_or l i 0) l
get_d_mem [] i h = absurd (not-suc-le-zero h)
get_d_mem (x ∷ l) zero h = Memᴰ.head refl
get_d_mem (x ∷ l) (suc i) h = Memᴰ.tail (get_d_mem l i (omega arith))

pub drop_later : (a e : ℕ) (w w' : List ℕ) → a ≤ e → drop a w' ≡ drop a w → drop e w' ≡ drop e w
drop_later a e w w' h same =
    let j : a + (e - a) ≡ e = omega arith in
    subst (λ (k : ℕ). drop k w' ≡ drop k w) j (sym (drop-drop (e - a) a w') ∙ ap (drop (e - a)) same ∙ drop-drop (e - a) a w)

module _ (base k : ℕ) (w : List ℕ) where
  pub list_more : (x : ℕ) → base + k < length w → take (k + 1) (drop base (set w (base + k) x)) ≡ take k (drop base w) ++ (x ∷ [])
  list_more x h = rw (add-one k, drop-set-add base w k x) (take-suc-set (drop base w) k x (rw length-drop (omega arith)))

  pub list_before : (i x : ℕ) → i < base → take k (drop base (set w i x)) ≡ take k (drop base w)
  list_before i x h = ap (take k) (drop-set-lt base w i x h)

  pub list_after : (i x : ℕ) → base + k ≤ i → take k (drop base (set w i x)) ≡ take k (drop base w)
  list_after i x h =
      let j : base + (i - base) ≡ i = omega arith in
      subst (λ (z : ℕ). take k (drop base (set w z x)) ≡ take k (drop base w)) j
      (ap (take k) (drop-set-add base w (i - base) x) ∙ take-set-le k (drop base w) (i - base) x (omega arith))

  pub list_entry : (i : ℕ) → i < k → base + k ≤ length w → Mem (get_or w (base + i) 0) (take k (drop base w))
  list_entry i l h =
      subst (λ (z : ℕ). Mem z (take k (drop base w))) (get_or-take k (drop base w) i 0 l ∙ get_or-drop base w i 0)
      (get_d_mem (take k (drop base w)) i (rw (length-take, length-drop) (omega arith)))

  pub list_step : base + k < length w → take (k + 1) (drop base w) ≡ take k (drop base w) ++ (get_or w (base + k) 0 ∷ [])
  list_step h = rw (add-one k, take-suc (drop base w) k 0 (rw length-drop (omega arith)), get_or-drop base w k 0)
