-- A part of the work area that was lent and came back with one value in every word.
use mathlib.Core.Path.{◌≡◌, sym, ap, ◌∙◌}
use mathlib.Core.List.{List, ◌++◌}
use Prim.Native.Nat.{ℕ, ◌+◌, ◌-◌, ◌≤◌, ◌<◌}
use native.Mathlib.Omega.{arith}
use lib.ListN.{length, get_or, take, drop, replicate, length-replicate, get_or-replicate, length-take, length-drop}
use Rattle.std.proofs.Common.{map}
use Rattle.words.proofs.NumberLaws.{numbers_part, numbers_splice}
use Rattle.area.proofs.PartLaws.{part_length, part_before, part_after, part_at}

-- from a to e every word of w' is x, and elsewhere it is that of w
pub record Filled (a e x : ℕ) (w w' : List ℕ) : Type 0 where
  pub size : length w' ≡ length w
  pub before : take a w' ≡ take a w
  pub at : (i : ℕ) → a ≤ i → i < e → get_or w' i 0 ≡ x
  pub after : drop e w' ≡ drop e w

pub filled : {a e x : ℕ} {w p : List ℕ} → (a ≤ e) × (e ≤ length w) → p ≡ replicate (length (take (e - a) (drop a w))) x → Filled a e x w (take a w ++ (p ++ drop (e - a) (drop a w)))
filled {a} {e} {x} {w} {p} (h, k) same = record {
  size = part_length a e w p h k long;
  before = part_before a e w p h k long;
  at = λ i l u.
      let j : a + (i - a) ≡ i = omega arith in
      ap (λ (n : ℕ). get_or (take a w ++ (p ++ drop (e - a) (drop a w))) n 0) (sym j)
      ∙ part_at a e w p h k long (i - a) (let z = long in omega arith)
      ∙ ap (λ (l : List ℕ). get_or l (i - a) 0) same
      ∙ get_or-replicate (length (take (e - a) (drop a w))) (i - a) x 0 (rw part (omega arith));
  after = part_after a e w p h k long e (omega arith);
}
  where
    part : length (take (e - a) (drop a w)) ≡ e - a
    part = simp (length-take, length-drop) (omega arith)

    long : length p ≡ e - a
    long = ap length same ∙ length-replicate (length (take (e - a) (drop a w))) x ∙ part

-- the same of the numbers of words
pub filled_words : {A : Type 0} {number : A → ℕ} {numbers : List A → List ℕ} (each : (ws : List A) → numbers ws ≡ map number ws) {a e x : ℕ} {ws vs : List A} → (a ≤ e) × (e ≤ length (numbers ws))
    → numbers vs ≡ replicate (length (numbers (take (e - a) (drop a ws)))) x → Filled a e x (numbers ws) (numbers (take a ws ++ (vs ++ drop (e - a) (drop a ws))))
filled_words {numbers = numbers} each {a = a} {e = e} {x = x} {ws = ws} {vs = vs} room same =
    rw (numbers_splice each a (e - a) ws vs) (filled room (rw (← numbers_part each a (e - a) ws) same))
