-- Lists that grow at their end: a store at the end (`latest_push`), one elsewhere (`latest_aside`).
use mathlib.Core.Path.{◌≡◌, sym, ap, ap₂, ◌∙◌}
use mathlib.Core.Logic.{◌≢◌}
use mathlib.Core.List.{List, ◌∷◌}
use Prim.Native.Nat.{ℕ, zero, suc, ◌+◌, ◌-◌, ◌<◌}
use native.Mathlib.Omega.{arith}
use native.Mathlib.Numerals.{add-one}
use lib.ListN.{length, get_or, set, drop, length-drop}
use lib.Seq.{get_or-set_other, get_or-drop, drop-set-add}
use Rattle.theory.specs.Prefix.{upto}
use Rattle.theory.proofs.PrefixLaws.{upto_length, upto_same, upto_push}
use Rattle.finishing.specs.Latest.{latest}

pub latest_length : (w : List ℕ) (base n : ℕ) → length (latest w base n) ≡ n
latest_length w base n = upto_length n (drop base w)

pub latest_top : (w : List ℕ) (base n : ℕ) → 0 < n → latest w base n ≡ get_or w (base + (n - 1)) 0 ∷ latest w base (n - 1)
unfolding upto
latest_top w base zero h = elim h [ ]
latest_top w base (suc n) h =
    let e : n ≡ suc n - 1 = omega arith in
    ap (λ (k : ℕ). get_or (drop base w) k 0 ∷ latest w base k) e ∙ ap (λ (x : ℕ). x ∷ latest w base (suc n - 1)) (get_or-drop base w (suc n - 1) 0)

pub latest_same : (w w' : List ℕ) (base n : ℕ) → ((j : ℕ) → j < n → get_or w' (base + j) 0 ≡ get_or w (base + j) 0) → latest w' base n ≡ latest w base n
latest_same w w' base n h = upto_same n (drop base w') (drop base w) (λ j k. get_or-drop base w' j 0 ∙ h j k ∙ sym (get_or-drop base w j 0))

-- a store elsewhere
pub latest_aside : (w : List ℕ) (base n i x : ℕ) → ((j : ℕ) → j < n → base + j ≢ i) → latest (set w i x) base n ≡ latest w base n
latest_aside w base n i x h = latest_same w (set w i x) base n (λ j k. get_or-set_other w i (base + j) x 0 (h j k))

-- a store at the end
pub latest_push : (w : List ℕ) (base n x : ℕ) → base + n < length w → latest (set w (base + n) x) base (n + 1) ≡ x ∷ latest w base n
latest_push w base n x h =
    ap₂ upto (add-one n) (drop-set-add base w n x) ∙ upto_push n x (drop base w) (let l = length-drop base w in omega arith)
