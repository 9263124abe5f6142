-- Truth grows with the truth of the atoms (`truth_mono`, `fires_mono`), and where leaves are below their node it is the list under "Pass", read
-- line by line (`truth_step`). There it falls with more cuts, and only cuts of nodes and truth of atoms matter (`fires_less`).
use mathlib.Core.Path.{◌≡◌, refl, ap, ap₂}
use mathlib.Core.Bool.{Bool, not, ◌&&◌, ◌||◌}
use mathlib.Core.List.Memᴰ
use mathlib.Core.List.{List, [], ◌∷◌}
use Prim.Native.Nat.{ℕ, zero, suc, ◌<◌}
use native.Mathlib.Nat.{not-suc-le-zero}
use native.Mathlib.Omega.{arith}
use Rattle.theory.specs.Sets.{Is, Set, ◌⊆◌, Mem, any, all}
use Rattle.theory.specs.Theory.{Theory, WellFormed, Kind, False, Atom, And, Or, Opaque, Absorbed}
use Rattle.theory.specs.Truth.{holds, truth_in, truth, fires}
use Rattle.theory.proofs.SetLaws.{is_false, clash, not_true, not_false, any_found, any_holds, all_at, all_holds, and_intro, and_left, and_right}

holds_mono : (k : Kind) (v w : Bool) (s t : Set) (l : List ℕ) → (k ≡ Atom → Is v → Is w) → ((m : ℕ) → Mem m l → Is (s m) → Is (t m)) → Is (holds k v s l) → Is (holds k w t l)
unfolding holds
holds_mono False v w s t l h i p = p
holds_mono Atom v w s t l h i p = h refl p
holds_mono And v w s t l h i p = all_holds t l (λ x m. i x m (all_at s p m))
holds_mono Or v w s t l h i p = let r = any_found s l p in any_holds t r.1 (i r.0 r.1 r.2)
holds_mono Opaque v w s t l h i p = p
holds_mono Absorbed v w s t l h i p = p

module _ (th : Theory) (never v w : Set) (h : v ⊆ w) where
  truth_in_mono : (k : ℕ) → truth_in th never v k ⊆ truth_in th never w k
  unfolding truth_in
  truth_in_mono zero n p = p
  truth_in_mono (suc k) n p =
      and_intro (and_left (not (never n)) _ p)
      (holds_mono (th.kind n) _ _ _ _ (th.leaves n) (λ e. h (th.operand n)) (λ m i. truth_in_mono k m) (and_right (not (never n)) _ p))

  pub truth_mono : truth th never v ⊆ truth th never w
  unfolding truth
  truth_mono n p = truth_in_mono (suc n) n p

  pub fires_mono : fires th never v ⊆ fires th never w
  unfolding fires
  fires_mono zero p = p
  fires_mono (suc n) p = truth_mono n p

-- ---- sets that agree on the leaves

any_ext : (s t : Set) (l : List ℕ) → ((m : ℕ) → Mem m l → s m ≡ t m) → any s l ≡ any t l
unfolding any
any_ext s t [] h = refl
any_ext s t (x ∷ l) h = ap₂ ◌||◌ (h x (Memᴰ.head refl)) (any_ext s t l (λ m i. h m (Memᴰ.tail i)))

all_ext : (s t : Set) (l : List ℕ) → ((m : ℕ) → Mem m l → s m ≡ t m) → all s l ≡ all t l
unfolding all
all_ext s t [] h = refl
all_ext s t (x ∷ l) h = ap₂ ◌&&◌ (h x (Memᴰ.head refl)) (all_ext s t l (λ m i. h m (Memᴰ.tail i)))

pub holds_ext : (k : Kind) (v : Bool) (s t : Set) (l : List ℕ) → ((m : ℕ) → Mem m l → s m ≡ t m) → holds k v s l ≡ holds k v t l
unfolding holds
holds_ext False v s t l h = refl
holds_ext Atom v s t l h = refl
holds_ext And v s t l h = all_ext s t l h
holds_ext Or v s t l h = any_ext s t l h
holds_ext Opaque v s t l h = refl
holds_ext Absorbed v s t l h = refl

module _ (th : Theory) (ok : WellFormed th) (never atom : Set) where
  -- more rounds than the number of the node change nothing
  rounds : (j k n : ℕ) → n < th.nodes → n < j → n < k → truth_in th never atom j n ≡ truth_in th never atom k n
  unfolding truth_in
  rounds zero k n l p q = absurd (not-suc-le-zero p)
  rounds (suc j) zero n l p q = absurd (not-suc-le-zero q)
  rounds (suc j) (suc k) n l p q =
      ap (λ (b : Bool). not (never n) && b)
      (holds_ext (th.kind n) (atom (th.operand n)) (λ m. truth_in th never atom j m) (λ m. truth_in th never atom k m) (th.leaves n)
      (λ m i. let h = ok.leaf_low n m l i in rounds j k m (omega arith) (omega arith) (omega arith)))

  pub truth_step : (n : ℕ) → n < th.nodes → truth th never atom n ≡ (not (never n) && holds (th.kind n) (atom (th.operand n)) (truth th never atom) (th.leaves n))
  unfolding truth truth_in
  truth_step n l =
      ap (λ (b : Bool). not (never n) && b)
      (holds_ext (th.kind n) (atom (th.operand n)) (λ m. truth_in th never atom n m) (truth th never atom) (th.leaves n)
      (λ m i. let h = ok.leaf_low n m l i in rounds n (suc m) m (omega arith) (omega arith) (omega arith)))

-- ---- more cuts

module _ (th : Theory) (ok : WellFormed th) (never never′ v w : Set) (cut : (n : ℕ) → n < th.nodes → Is (never n) → Is (never′ n)) (h : (a : ℕ) → a < th.atoms → Is (v a) → Is (w a)) where
  truth_in_less : (k n : ℕ) → n < th.nodes → Is (truth_in th never′ v k n) → Is (truth_in th never w k n)
  unfolding truth_in
  truth_in_less zero n l p = p
  truth_in_less (suc k) n l p =
      and_intro (not_false (never n) (is_false (never n) (λ z. clash (cut n l z) (not_true (never′ n) (and_left (not (never′ n)) _ p)))))
      (holds_mono (th.kind n) _ _ _ _ (th.leaves n) (λ e. h (th.operand n) (ok.operand_low n l e))
      (λ m i. let q = ok.leaf_low n m l i in truth_in_less k m (omega arith)) (and_right (not (never′ n)) _ p))

  pub fires_less : (p : ℕ) → p < th.producers → Is (fires th never′ v (th.body p)) → Is (fires th never w (th.body p))
  unfolding fires truth
  fires_less p l = go (th.body p) refl
    where
      go : (k : ℕ) → th.body p ≡ k → Is (fires th never′ v k) → Is (fires th never w k)
      go zero e q = q
      go (suc n) e q = truth_in_less (suc n) n (ok.body_low p n l e) q
