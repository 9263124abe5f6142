-- One comparison after the other: where a part differs, it decides (`part_differs`), and else what follows does (`part_same`). So it is with places in turn (`in_turn_tells`).
use mathlib.Core.Path.{◌≡◌, refl, sym, ap, ◌∙◌, subst}
use mathlib.Core.Bool.{true, false, true≢false}
use mathlib.Core.List.{map}
use Prim.Native.Nat.{ℕ, ◌+◌, ◌<◌}
use native.Mathlib.Omega.{arith}
use Rattle.std.specs.declared.cmp.Ordering.{Ordering}
use Rattle.std.specs.declared.cmp.Ordering.TheVariants.{Less, Equal, Greater}
use Rattle.std.specs.Ordering.{is_ne, ordering_then}
use Rattle.std.specs.Cmp.Lexicographic.{slice_cmp}
use Rattle.std.specs.List.{range_with_len}
use Rattle.compare.specs.Beside.{Beside, Stops, InTurn}
use Rattle.theory.proofs.OrderLaws.{decides, turns_equal, turns_stop}

pub not_equal : {o : Ordering} → is_ne o ≡ true → o ≡ Equal → ⊥
not_equal e q = true≢false (sym e ∙ ap is_ne q)

pub is_equal : (o : Ordering) → is_ne o ≡ false → o ≡ Equal
is_equal Less e = absurd (true≢false e)
is_equal Equal e = refl
is_equal Greater e = absurd (true≢false e)

module _ {Good : Type 0} where
  -- a difference says nothing of the second graph
  pub differs : {order found : Ordering} → is_ne found ≡ true → (Good → found ≡ order) → Beside Good order found
  differs e t = record { told = t; good = λ q. absurd (not_equal e q) }

  pub part_differs : {part order found : Ordering} (rest : Ordering) → order ≡ ordering_then part rest → (Good → found ≡ part) → is_ne found ≡ true → Beside Good order found
  part_differs {part} rest w t e = differs e (λ g. sym (decides part rest (ap is_ne (sym (t g)) ∙ e) ∙ sym (t g)) ∙ sym w)

  pub part_same : {Better : Type 0} {part order found before : Ordering} (rest : Ordering) → order ≡ ordering_then part rest → (Good → Better) → (Better → Good) → (Good → before ≡ part) → is_ne before ≡ false → Beside Better rest found → Beside Good order found
  part_same {part = part} {before = before} rest w to from t e b = record {
    told = λ g. b.told (to g) ∙ sym (ap (λ (o : Ordering). ordering_then o rest) (sym (t g) ∙ is_equal before e)) ∙ sym w;
    good = λ q. from (b.good q);
  }

-- ---- places in turn

module _ {X : Type 0} (R : X → X → Ordering) (f g : ℕ → X) where
  module _ (Good : ℕ → Type 0) (answers : ℕ → Ordering → Type 0) (end : ℕ) (each : (i : ℕ) (r : Ordering) → i < end → answers i r → Beside (Good i) (R (f i) (g i)) r) where
    abbrev Whole : Ordering
    Whole = slice_cmp R (map f (range_with_len 0 end)) (map g (range_with_len 0 end))

    abbrev All : Type 0
    All = (i : ℕ) → i < end → Good i

    -- no difference at place i
    same_at : (i : ℕ) → i < end → answers i Equal → R (f (0 + i)) (g (0 + i)) ≡ Equal
    same_at i l a = let b = each i Equal l a in subst (λ (j : ℕ). R (f j) (g j) ≡ Equal) (omega arith) (sym (b.told (b.good refl)))

    stopped : (r : Ordering) → is_ne r ≡ true → Stops answers end r → Beside All Whole r
    stopped r e s = differs e (λ good. sym (turns_stop R f g 0 s.place end s.within
        (λ i q. same_at i (omega (arith, s.within)) (s.before i q))
        (subst (λ (j : ℕ). R (f j) (g j) ≡ r) (omega arith) (sym ((each s.place r s.within s.at).told (good s.place s.within)))) e))

    pub in_turn_tells : (r : Ordering) → InTurn answers end r → Beside All Whole r
    in_turn_tells Less s = stopped Less refl s
    in_turn_tells Equal h = record {
      told = λ good. sym (turns_equal R f g 0 end (λ i l. same_at i l (h i l)));
      good = λ q i l. (each i Equal l (h i l)).good refl;
    }
    in_turn_tells Greater s = stopped Greater refl s

pub in_turn_stops : {answers : ℕ → Ordering → Type 0} {end : ℕ} (found : Ordering) → is_ne found ≡ true → Stops answers end found → InTurn answers end found
in_turn_stops Less e s = s
in_turn_stops Equal e s = absurd (true≢false (sym e))
in_turn_stops Greater e s = s
