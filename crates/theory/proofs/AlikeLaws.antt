-- Two theories whose nodes are alike below their number: what is true of one is true of the other (`truth_alike`, `fires_alike`).
use mathlib.Core.Path.{◌≡◌, refl, ap, ◌∙◌}
use mathlib.Core.Bool.{Bool, not, ◌&&◌}
use Prim.Native.Nat.{ℕ, zero, suc, ◌<◌}
use native.Mathlib.Omega.{arith}
use Rattle.theory.specs.Sets.{Set}
use Rattle.theory.specs.Theory.{Theory, WellFormed}
use Rattle.theory.specs.Truth.{truth_in, truth, fires}
use Rattle.theory.proofs.TruthLaws.{holds_ext}

-- the same nodes
pub record NodesAlike (th other : Theory) : Type 0 where
  pub kinds : (n : ℕ) → n < th.nodes → th.kind n ≡ other.kind n
  pub operands : (n : ℕ) → n < th.nodes → th.operand n ≡ other.operand n
  pub leaf_lists : (n : ℕ) → n < th.nodes → th.leaves n ≡ other.leaves n

module _ (th other : Theory) (ok : WellFormed th) (alike : NodesAlike th other) (never atom : Set) where
  truth_in_alike : (k n : ℕ) → n < th.nodes → truth_in th never atom k n ≡ truth_in other never atom k n
  unfolding truth_in
  truth_in_alike zero n l = refl
  truth_in_alike (suc k) n l =
      ap (λ (b : Bool). not (never n) && b)
      (holds_ext (th.kind n) _ _ (λ m. truth_in other never atom k m) (th.leaves n) (λ m i. let h = ok.leaf_low n m l i in truth_in_alike k m (omega arith))
      ∙ rw (alike.kinds n l, alike.operands n l, alike.leaf_lists n l))

  pub truth_alike : (n : ℕ) → n < th.nodes → truth th never atom n ≡ truth other never atom n
  unfolding truth
  truth_alike n l = truth_in_alike (suc n) n l

  pub fires_alike : (p : ℕ) → p < th.producers → fires th never atom (th.body p) ≡ fires other never atom (th.body p)
  unfolding fires
  fires_alike p l = go (th.body p) refl
    where
      go : (k : ℕ) → th.body p ≡ k → fires th never atom k ≡ fires other never atom k
      go zero e = refl
      go (suc n) e = truth_alike n (ok.body_low p n l e)
