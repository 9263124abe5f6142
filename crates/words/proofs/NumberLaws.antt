-- The numbers of words: as many as the words (`numbers_length`), and those of words of which one is set, all are one, or a part was
-- replaced.
use Rattle.std.specs.Prelude.{◌≡◌, List, [], ◌∷◌, ◌++◌, ℕ, ◌*◌, ◌^◌, ◌<◌, length, map, set, replicate, take, drop, get_or, refl}
use Rattle.std.proofs.Common.{arith, ap, zero, suc, sym, ◌∙◌}
use prog.Memory.{size}
use denote.Param.{layout}
use denote.RattleType.{RattleType}
use Rattle.words.specs.Words.{TakesTwoBytes}
use Rattle.std.proofs.Math.Nat.{mul-le-mul_left}
use Rattle.std.proofs.Math.ListN.{length-map}
use Rattle.std.proofs.lemmas.List as Lists

map_set : {A B : Type 0} (f : A → B) (xs : List A) (i : ℕ) (y : A) → map f (set xs i y) ≡ set (map f xs) i (f y)
map_set f [] i y = refl
map_set f (x ∷ xs) zero y = refl
map_set f (x ∷ xs) (suc i) y = ap (λ l. f x ∷ l) (map_set f xs i y)

map_take : {A B : Type 0} (f : A → B) (n : ℕ) (xs : List A) → map f (take n xs) ≡ take n (map f xs)
map_take f zero xs = refl
map_take f (suc n) [] = refl
map_take f (suc n) (x ∷ xs) = ap (λ l. f x ∷ l) (map_take f n xs)

map_drop : {A B : Type 0} (f : A → B) (n : ℕ) (xs : List A) → map f (drop n xs) ≡ drop n (map f xs)
map_drop f zero xs = refl
map_drop f (suc n) [] = refl
map_drop f (suc n) (x ∷ xs) = map_drop f n xs

map_append : {A B : Type 0} (f : A → B) (xs ys : List A) → map f (xs ++ ys) ≡ map f xs ++ map f ys
map_append f [] ys = refl
map_append f (x ∷ xs) ys = ap (λ l. f x ∷ l) (map_append f xs ys)

module _ {A : Type 0} {number : A → ℕ} {numbers : List A → List ℕ} (each : (ws : List A) → numbers ws ≡ map number ws) where
  pub numbers_length : (ws : List A) → length (numbers ws) ≡ length ws
  numbers_length ws = ap length (each ws) ∙ length-map ws number

  pub numbers_at : (ws : List A) (i : ℕ) (d : A) → i < length ws → get_or (numbers ws) i 0 ≡ number (get_or ws i d)
  numbers_at ws i d h = rw (each ws) (Lists.get_or-map number ws i d 0 h)

  pub numbers_set : (ws : List A) (i : ℕ) (w : A) → numbers (set ws i w) ≡ set (numbers ws) i (number w)
  numbers_set ws i w = rw (each (set ws i w), each ws) (map_set number ws i w)

  pub numbers_take : (n : ℕ) (ws : List A) → numbers (take n ws) ≡ take n (numbers ws)
  numbers_take n ws = rw (each (take n ws), each ws) (map_take number n ws)

  pub numbers_drop : (n : ℕ) (ws : List A) → numbers (drop n ws) ≡ drop n (numbers ws)
  numbers_drop n ws = rw (each (drop n ws), each ws) (map_drop number n ws)

  pub numbers_append : (vs ws : List A) → numbers (vs ++ ws) ≡ numbers vs ++ numbers ws
  numbers_append vs ws = rw (each (vs ++ ws), each vs, each ws) (map_append number vs ws)

  -- the words of a part of n words from a on, and the whole once it is replaced
  pub numbers_part : (a n : ℕ) (ws : List A) → numbers (take n (drop a ws)) ≡ take n (drop a (numbers ws))
  numbers_part a n ws = numbers_take n (drop a ws) ∙ ap (take n) (numbers_drop a ws)

  pub numbers_splice : (a n : ℕ) (ws vs : List A) → numbers (take a ws ++ (vs ++ drop n (drop a ws))) ≡ take a (numbers ws) ++ (numbers vs ++ drop n (drop a (numbers ws)))
  numbers_splice a n ws vs =
      rw (numbers_append (take a ws) (vs ++ drop n (drop a ws)), numbers_append vs (drop n (drop a ws)), numbers_take a ws, numbers_drop n (drop a ws), numbers_drop a ws) refl

  -- and where the part is at the front
  pub numbers_front : (n : ℕ) (ws vs : List A) → numbers (vs ++ drop n ws) ≡ numbers vs ++ drop n (numbers ws)
  numbers_front n ws vs = rw (numbers_append vs (drop n ws), numbers_drop n ws) refl

  -- words that are all x, as many as the first n
  pub numbers_all : (n x : ℕ) {vs : List A} (ws : List A) → numbers vs ≡ replicate (length (numbers (take n ws))) x → numbers vs ≡ replicate (length (take n (numbers ws))) x
  numbers_all n x ws same = rw (← numbers_take n ws) same
