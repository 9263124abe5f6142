-- What the two passes of request 12 leave.
use Rattle.std.specs.Prelude.{◌≡◌, cond, List, ℕ, ◌≤◌, ◌<◌, length, get_or}
use Rattle.theory.specs.Sets.{Set}
use Rattle.theory.specs.Words.{theory_of}
use Rattle.theory.specs.Founded.{cyclic, cyclic_cone}
use Rattle.mask.specs.Mask.{pack}
use Rattle.area.specs.declared.Bases.{Bases}
use Rattle.cones.specs.declared.Cone.{Cone}
use Rattle.preparation.specs.Stages.{Standing}

-- of the first n counts those of undecided atoms are 0, and all others are as they were
pub record LeftOut (undecided : Set) (counts counts' : List ℕ) (n : ℕ) : Type 0 where
  pub size : length counts' ≡ length counts
  pub left : (a : ℕ) → a < n → get_or counts' a 0 ≡ cond (undecided a) 0 (get_or counts a 0)
  pub rest : (a : ℕ) → n ≤ a → get_or counts' a 0 ≡ get_or counts a 0

-- a pass: the output lists the set s, and what stood stands
pub record Listing (ws : List ℕ) (b : Bases) (c : Cone) (s : Set) (w w' output : List ℕ) : Type 0 where
  pub size : length w' ≡ length w
  pub standing : Standing ws b (cyclic (theory_of ws)) (cyclic_cone (theory_of ws)) w' c
  pub list : output ≡ pack (get_or ws 1 0) s
