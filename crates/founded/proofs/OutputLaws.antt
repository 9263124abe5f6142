-- What success writes: the set that the flags of a part of the words stand for (`part_pack`, `flags_pack`); and the bits of the packed
-- cyclic and missing sets (`cyclic_list`, `missing_list`), and of any packed set of atoms (`set_list`).
use mathlib.Core.Path.{◌≡◌, refl, sym, ap, ◌∙◌, fun_ext}
use mathlib.Core.Logic.{◌⊎◌, inl, inr}
use mathlib.Core.Bool.{Bool, true, false, ◌&&◌, cond}
use mathlib.Core.List.{List}
use Prim.Native.Nat.{ℕ, ◌+◌, ◌≤◌, ◌<◌}
use native.Mathlib.Omega.{arith}
use borrow.Author.Tests.{lt-ltb}
use lib.Dec.{eqb, ltb}
use lib.ListN.{length, get_or, take, drop, length-take, length-drop}
use lib.Seq.{get_or-take, get_or-drop}
use Rattle.theory.specs.Sets.{Set, Is}
use Rattle.theory.specs.Words.{theory_of, bit_at}
use Rattle.theory.specs.Founded.{cyclic, missing}
use Rattle.theory.proofs.SetLaws.{bool_cases, is_false, clash, and_right}
use Rattle.theory.proofs.CycleLaws.{cyclic_walk}
use Rattle.theory.proofs.UnfoundedLaws.{missing_unfounded}
use Rattle.mask.specs.Mask.{pack, flagged}
use Rattle.mask.proofs.MaskLaws.{pack_bit, pack_ext}

pub part_pack : (from n k : ℕ) (w : List ℕ) → from + n ≤ length w → k ≡ n
    → pack (length (take k (drop from w))) (flagged (take k (drop from w))) ≡ pack n (λ a. eqb (get_or w (from + a) 0) 1)
part_pack from n k w h q =
    let e : length (take n (drop from w)) ≡ n = simp (length-take, length-drop) (omega arith) in
    rw (q, e) (pack_ext n (flagged (take n (drop from w))) (λ a. eqb (get_or w (from + a) 0) 1) (λ i l. ap (λ (x : ℕ). eqb x 1) (get_or-take n (drop from w) i 0 l ∙ get_or-drop from w i 0)))

pub flags_pack : (from : ℕ) {n m : ℕ} (w : List ℕ) (s : Set) → n ≡ m → ((a : ℕ) → a < n → get_or w (from + a) 0 ≡ cond (s a) 1 0)
    → pack n (λ a. eqb (get_or w (from + a) 0) 1) ≡ pack m s
flags_pack from {n} {m} w s e h = rw (← e) (pack_ext n (λ a. eqb (get_or w (from + a) 0) 1) s (λ a l. ap (λ (x : ℕ). eqb x 1) (h a l) ∙ test (s a)))
  where
    test : (b : Bool) → eqb (cond b 1 0) 1 ≡ b
    test true = refl
    test false = refl

-- the bits of a packed set of atoms, past the last atom too
pub set_list : (ws : List ℕ) (s : Set) → ((a : ℕ) → Is (s a) → a < (theory_of ws).atoms) → bit_at (pack (get_or ws 1 0) s) ≡ s
unfolding theory_of
set_list ws s low = fun_ext (λ a. pack_bit (get_or ws 1 0) s a ∙ go a (bool_cases (s a)))
  where
    go : (a : ℕ) → Is (s a) ⊎ (s a ≡ false) → (ltb a (get_or ws 1 0) && s a) ≡ s a
    go a (inl m) = rw (lt-ltb a (get_or ws 1 0) (low a m))
    go a (inr m) = is_false _ (λ t. clash (and_right (ltb a (get_or ws 1 0)) _ t) m) ∙ sym m

pub cyclic_list : (ws : List ℕ) → bit_at (pack (get_or ws 1 0) (cyclic (theory_of ws))) ≡ cyclic (theory_of ws)
cyclic_list ws = set_list ws (cyclic (theory_of ws)) (λ a m. ((cyclic_walk (theory_of ws) a).0 m).0)

pub missing_list : (ws : List ℕ) (never atom_never : Set) → bit_at (pack (get_or ws 1 0) (missing (theory_of ws) never atom_never)) ≡ missing (theory_of ws) never atom_never
missing_list ws never atom_never = set_list ws (missing (theory_of ws) never atom_never) (missing_unfounded (theory_of ws) never atom_never).atom
