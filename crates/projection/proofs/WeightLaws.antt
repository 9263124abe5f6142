-- The heads of the producers by body and those of the facts are together no more than all heads: each producer is in one row, or a fact.
use mathlib.Core.Path.{◌≡◌, refl, sym, ap, ◌∙◌}
use mathlib.Core.Logic.{◌⊎◌, inl, inr}
use mathlib.Core.Bool.{Bool, true, false, cond}
use mathlib.Core.List.{List, [], ◌∷◌, ◌++◌, append_assoc, append-nil}
use Prim.Native.Nat.{ℕ, zero, suc, ◌+◌, ◌≤◌, ◌<◌}
use Rattle.std.proofs.Math.Nat.{le_refl}
use native.Mathlib.Omega.{arith}
use native.Mathlib.Decide.{ℕ_discrete}
use borrow.Author.Tests.{eq-eqb, ne_eqb}
use lib.Dec.{eqb}
use lib.ListN.{length, length-append}
use Rattle.theory.specs.Sets.{Is, Set, members, sum_below}
use Rattle.theory.specs.Edges.{occurrences}
use Rattle.theory.specs.Rows.{flat_map, entries, stream, body_keys}
use Rattle.theory.proofs.SetLaws.{bool_cases, clash}
use Rattle.theory.proofs.CountLaws.{sum_same}
use Rattle.theory.proofs.RowLaws.{row_last}

flat_append : (f : ℕ → List ℕ) (k l : List ℕ) → flat_map f (k ++ l) ≡ flat_map f k ++ flat_map f l
unfolding flat_map
flat_append f [] l = refl
flat_append f (x ∷ k) l = ap (λ (r : List ℕ). f x ++ r) (flat_append f k l) ∙ sym (append_assoc (f x) (flat_map f k) (flat_map f l))

flat_length : (f : ℕ → List ℕ) (k l : List ℕ) → length (flat_map f (k ++ l)) ≡ length (flat_map f k) + length (flat_map f l)
flat_length f k l = ap length (flat_append f k l) ∙ length-append (flat_map f k) (flat_map f l)

flat_one : (f : ℕ → List ℕ) (x : ℕ) → length (flat_map f (x ∷ [])) ≡ length (f x)
unfolding flat_map
flat_one f x = ap length (append-nil (f x))

flat_nil : (f : ℕ → List ℕ) → length (flat_map f []) ≡ 0
unfolding flat_map
flat_nil f = refl

keys_at : (heads : ℕ → List ℕ) (n r k body : ℕ) → body ≡ suc k → (y : Bool) → eqb r k ≡ y → length (flat_map heads (occurrences n r (body_keys body))) ≡ length (flat_map heads (cond y (n ∷ []) []))
unfolding body_keys occurrences
keys_at heads n r k body e y q = rw (e, q) refl

sum_add : (n : ℕ) (f g : ℕ → ℕ) → sum_below n (λ r. f r + g r) ≡ sum_below n f + sum_below n g
unfolding sum_below
sum_add zero f g = refl
sum_add (suc n) f g = let ih = sum_add n f g in omega arith

sum_none : (n : ℕ) (f : ℕ → ℕ) → ((r : ℕ) → r < n → f r ≡ 0) → sum_below n f ≡ 0
unfolding sum_below
sum_none zero f h = refl
sum_none (suc n) f h = let ih = sum_none n f (λ r l. h r (omega arith)) in let k = h n (le_refl (suc n)) in omega arith

-- one row alone
sum_single : (n : ℕ) (f : ℕ → ℕ) (k y : ℕ) → ((r : ℕ) → (r ≡ k → ⊥) → f r ≡ 0) → f k ≤ y → sum_below n f ≤ y
unfolding sum_below
sum_single zero f k y h g = omega arith
sum_single (suc n) f k y h g = go (ℕ_discrete n k) (sum_single n f k y h g)
  where
    go : Dec (n ≡ k) → sum_below n f ≤ y → f n + sum_below n f ≤ y
    go (yes e) ih = let z = sum_none n f (λ r l. h r (λ q. omega arith)) in let q = ap f e in omega arith
    go (no e) ih = let z = h n e in omega arith

module _ (body : ℕ → ℕ) (heads : ℕ → List ℕ) (s : Set) (fact : (p : ℕ) → Is (s p) → body p ≡ 0) (rows : ℕ) where
  abbrev row : ℕ → ℕ → List ℕ
  row n r = entries r (stream (λ p. body_keys (body p)) 0 n)

  abbrev total : ℕ → ℕ
  total n = sum_below rows (λ r. length (flat_map heads (row n r)))

  abbrev more : ℕ → ℕ
  more n = sum_below rows (λ r. length (flat_map heads (occurrences n r (body_keys (body n)))))

  total_next : (n : ℕ) → total (suc n) ≡ total n + more n
  total_next n =
      sum_same rows (λ r. length (flat_map heads (row (suc n) r))) (λ r. length (flat_map heads (row n r)) + length (flat_map heads (occurrences n r (body_keys (body n)))))
      (λ r l. ap (λ (k : List ℕ). length (flat_map heads k)) (row_last (λ p. body_keys (body p)) n r) ∙ flat_length heads (row n r) (occurrences n r (body_keys (body n))))
      ∙ sum_add rows (λ r. length (flat_map heads (row n r))) (λ r. length (flat_map heads (occurrences n r (body_keys (body n)))))

  facts_next : (n : ℕ) → (body n ≡ 0 → ⊥) → length (flat_map heads (members (suc n) s)) ≡ length (flat_map heads (members n s))
  unfolding members
  facts_next n h = go (bool_cases (s n))
    where
      go : (s n ≡ true) ⊎ (s n ≡ false) → length (flat_map heads (cond (s n) (members n s ++ (n ∷ [])) (members n s))) ≡ length (flat_map heads (members n s))
      go (inl e) = absurd (h (fact n e))
      go (inr e) = rw e refl

  facts_more : (n : ℕ) → length (flat_map heads (members (suc n) s)) ≤ length (flat_map heads (members n s)) + length (heads n)
  unfolding members
  facts_more n = go (s n)
    where
      go : (y : Bool) → length (flat_map heads (cond y (members n s ++ (n ∷ [])) (members n s))) ≤ length (flat_map heads (members n s)) + length (heads n)
      go true = omega (arith, flat_length heads (members n s) (n ∷ []), flat_one heads n)
      go false = omega arith

  none_more : (n : ℕ) → body n ≡ 0 → more n ≡ 0
  unfolding body_keys occurrences flat_map
  none_more n e = sum_none rows (λ r. length (flat_map heads (occurrences n r (body_keys (body n))))) (λ r l. rw e refl)

  one_more : (n k : ℕ) → body n ≡ suc k → more n ≤ length (heads n)
  one_more n k e = sum_single rows (λ r. length (flat_map heads (occurrences n r (body_keys (body n))))) k (length (heads n)) (λ r h. other r h) here
    where
      at : (r : ℕ) (y : Bool) → eqb r k ≡ y → length (flat_map heads (occurrences n r (body_keys (body n)))) ≡ length (flat_map heads (cond y (n ∷ []) []))
      at r y q = keys_at heads n r k (body n) e y q

      other : (r : ℕ) → (r ≡ k → ⊥) → length (flat_map heads (occurrences n r (body_keys (body n)))) ≡ 0
      other r h = at r false (ne_eqb r k h) ∙ flat_nil heads

      here : length (flat_map heads (occurrences n k (body_keys (body n)))) ≤ length (heads n)
      here = omega (arith, at k true (eq-eqb k k refl), flat_one heads n)

  pub heads_few : (n : ℕ) → total n + length (flat_map heads (members n s)) ≤ sum_below n (λ p. length (heads p))
  unfolding sum_below members stream entries flat_map
  heads_few zero = omega (arith, sum_none rows (λ r. length (flat_map heads (row 0 r))) (λ r l. refl))
  heads_few (suc n) = go (body n) refl (heads_few n)
    where
      go : (k : ℕ) → body n ≡ k → total n + length (flat_map heads (members n s)) ≤ sum_below n (λ p. length (heads p))
          → total (suc n) + length (flat_map heads (members (suc n) s)) ≤ length (heads n) + sum_below n (λ p. length (heads p))
      go zero e ih = omega (arith, total_next n, none_more n e, facts_more n)
      go (suc k) e ih = omega (arith, total_next n, one_more n k e, facts_next n (λ z. omega arith))
