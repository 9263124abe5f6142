-- Lists of one length end to end: how long they are (`end_length`), part k of them (`part_end`), and one more written behind them (`end_next`).
use mathlib.Core.Path.{◌≡◌, refl, sym, ap, ap₂, ◌∙◌}
use mathlib.Core.List.{List, [], ◌∷◌, ◌++◌, append_assoc, append-nil}
use Prim.Native.Nat.{ℕ, zero, suc, ◌+◌, ◌-◌, ◌*◌, ◌≤◌, ◌<◌}
use native.Mathlib.Nat.{suc-mul, zero-mul}
use native.Mathlib.Numerals.{add-one}
use native.Mathlib.Omega.{arith}
use native.Mathlib.Decide.{dec_lt}
use lib.ListN.{length, take, drop, length-append, length-drop}
use lib.Seq.{take_at, take-append-le, drop-append-le, drop-append_seam, drop-drop, drop-length, length-take-le}
use Rattle.branch.specs.Answers.{part_of, end_to_end}

pub mul_less : (a k n : ℕ) → k < n → k * a + a ≤ n * a
mul_less a k zero l = absurd (omega arith)
mul_less a k (suc n) l = step (dec_lt k n) (mul_less a k n)
  where
    step : Dec (k < n) → (k < n → k * a + a ≤ n * a) → k * a + a ≤ suc n * a
    step (yes m) ih = let s = suc-mul n a in let i = ih m in omega arith
    step (no m) ih = let s = suc-mul n a in let e : k ≡ n = omega arith in let q = ap (λ (x : ℕ). x * a) e in omega arith

-- the first k + 1 of n parts
pub mul_fits : (a k n : ℕ) → k < n → (k + 1) * a ≤ n * a
mul_fits a k n l = let m = mul_less a k n l in let s = suc-mul k a in rw (add-one k) (omega arith)

module _ (list : ℕ → List ℕ) (a : ℕ) (long : (k : ℕ) → length (list k) ≡ a) where
  pub end_length : (k : ℕ) → length (end_to_end list k) ≡ k * a
  unfolding end_to_end
  end_length zero = sym (zero-mul a)
  end_length (suc k) = length-append (end_to_end list k) (list k) ∙ (let e = end_length k in let l = long k in let s = suc-mul k a in omega arith)

  pub part_end : (k pairs : ℕ) → k < pairs → part_of a k (end_to_end list pairs) ≡ list k
  unfolding end_to_end
  part_end k zero h = absurd (omega arith)
  part_end k (suc pairs) h = go (dec_lt k pairs) (part_end k pairs)
    where
      go : Dec (k < pairs) → (k < pairs → part_of a k (end_to_end list pairs) ≡ list k) → take a (drop (k * a) (end_to_end list pairs ++ list pairs)) ≡ list k
      go (yes l) ih =
          let e = end_length pairs in let m = mul_less a k pairs l in
          ap (take a) (drop-append-le (k * a) (end_to_end list pairs) (list pairs) (omega arith))
          ∙ take-append-le a (drop (k * a) (end_to_end list pairs)) (list pairs) (let d = length-drop (k * a) (end_to_end list pairs) in omega arith)
          ∙ ih l
      go (no l) ih =
          let e : k ≡ pairs = omega arith in
          ap (λ (x : ℕ). take a (drop (x * a) (end_to_end list pairs ++ list pairs))) e
          ∙ ap (λ (x : ℕ). take a (drop x (end_to_end list pairs ++ list pairs))) (sym (end_length pairs))
          ∙ ap (take a) (drop-append_seam (end_to_end list pairs) (list pairs))
          ∙ whole (list pairs) (long pairs) ∙ ap list (sym e)
        where
          whole : (l : List ℕ) → length l ≡ a → take a l ≡ l
          whole l q = ap (take a) (sym (append-nil l)) ∙ take_at l [] a q

  pub end_next : (k : ℕ) (o : List ℕ) → k * a + a ≤ length o → take (k * a) (end_to_end list k ++ drop (k * a) o) ++ (list k ++ drop a (drop (k * a) (end_to_end list k ++ drop (k * a) o))) ≡ end_to_end list (k + 1) ++ drop ((k + 1) * a) o
  unfolding end_to_end
  end_next k o h =
      let front = take_at (end_to_end list k) (drop (k * a) o) (k * a) (end_length k) in
      let back : drop (k * a) (end_to_end list k ++ drop (k * a) o) ≡ drop (k * a) o = ap (λ (x : ℕ). drop x (end_to_end list k ++ drop (k * a) o)) (sym (end_length k)) ∙ drop-append_seam (end_to_end list k) (drop (k * a) o) in
      let next : k * a + a ≡ (k + 1) * a = let s = suc-mul k a in rw (add-one k) (omega arith) in
      rw (front, back, drop-drop a (k * a) o, next, add-one k) (sym (append_assoc (end_to_end list k) (list k) (drop (suc k * a) o)))

  pub lists_next : (k : ℕ) (o : List ℕ) {out out' : List ℕ} → out ≡ end_to_end list k ++ drop (k * a) o → out' ≡ take (k * a) out ++ (list k ++ drop a (drop (k * a) out)) → (k + 1) * a ≤ length o → out' ≡ end_to_end list (k + 1) ++ drop ((k + 1) * a) o
  lists_next k o {out} {out'} e n h =
      let s = suc-mul k a in let q : k * a + a ≤ length o = rw (add-one k, s) at h in
      n ∙ ap (λ (x : List ℕ). take (k * a) x ++ (list k ++ drop a (drop (k * a) x))) e ∙ end_next k o q

  -- before the first
  pub lists_none : (o : List ℕ) → o ≡ end_to_end list 0 ++ drop (0 * a) o
  unfolding end_to_end
  lists_none o = rw (zero-mul a) refl

  pub end_whole : (pairs : ℕ) (o : List ℕ) → length o ≡ pairs * a → end_to_end list pairs ++ drop (pairs * a) o ≡ end_to_end list pairs
  end_whole pairs o e = rw (← e, drop-length) (append-nil (end_to_end list pairs))
