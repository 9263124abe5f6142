-- One step of a follower along its chain.
use mathlib.Core.Path.{◌≡◌, ap, ◌∙◌}
use mathlib.Core.List.{List, [], ◌∷◌}
use Prim.Native.Nat.{ℕ}
use native.Mathlib.Omega.{arith}
use Rattle.theory.specs.Words.{chain}
use Rattle.theory.proofs.ChainLaws.{once_next, once_link, chain_end, chain_step}
use Rattle.graph.specs.Layout.{LinkIn, Following, value_in, next_in}
use Rattle.graph.proofs.DecodeLaws.{value_of_lem, next_of_lem, link_within}

pub follow_end : (ws : List ℕ) {l : ℕ} → l ≡ 0 → chain ws l ≡ []
follow_end ws z = ap (chain ws) z ∙ chain_end ws

module _ {ws : List ℕ} {from l : ℕ} (f : Following ws from l) (z : l ≡ 0 → ⊥) where
  pub follow_link : LinkIn ws from l
  follow_link = link_within f.begin f.size (omega arith) (once_link ws f.once)

  module _ {m : ℕ} (e : m ≡ next_in ws from l) where
    pub follow_step : {v : ℕ} → v ≡ value_in ws from l → chain ws l ≡ v ∷ chain ws m
    follow_step d = rw (value_of_lem f.begin l d (omega arith)) (rw (next_of_lem f.begin l e (omega arith)) (chain_step ws f.once z))

    pub follow_next : Following ws from m
    follow_next = record { size = f.size; begin = f.begin; once = rw (next_of_lem f.begin l e (omega arith)) (once_next ws f.once z) }
