-- What preparation and the pass leave in the work area: a flag for each cyclic atom, and a flag for each atom on the list.
use Rattle.std.specs.Prelude.{◌≡◌, cond, List, ℕ, ◌+◌, ◌<◌, length, get_or, Result, Ok, Err}
use Rattle.theory.specs.Sets.{Set}
use Rattle.theory.specs.Words.{theory_of}
use Rattle.theory.specs.Founded.{cyclic}
use Rattle.refusals.specs.Answer.{accept, refuse}
use Rattle.refusals.specs.Refusals.{absorbed_row}
use Rattle.area.specs.declared.Bases.{Bases}
use Rattle.cones.specs.declared.Absorbed.{Absorbed}

-- the cyclic atoms are flagged, and row 12 accepts
pub record Prepared (ws : List ℕ) (b : Bases) (w₀ w : List ℕ) : Type 0 where
  pub size : length w ≡ length w₀
  pub flags : (a : ℕ) → a < b.atoms → get_or w (b.cyclic_atoms + a) 0 ≡ cond (cyclic (theory_of ws) a) 1 0
  pub row : absorbed_row (theory_of ws) ≡ accept

-- or it refuses node n
pub record Refused (ws : List ℕ) (w₀ w : List ℕ) (n : ℕ) : Type 0 where
  pub size : length w ≡ length w₀
  pub row : absorbed_row (theory_of ws) ≡ refuse 12 n

unfoldable pub Marked : List ℕ → Bases → List ℕ → List ℕ → Result (Unit {0}) Absorbed → Type 0
Marked ws b w₀ w (Ok u) = Prepared ws b w₀ w
Marked ws b w₀ w (Err e) = Refused ws w₀ w e.node

-- the atoms of a list s are flagged where their counts were, and row 12 accepts
pub record Passed (ws : List ℕ) (s : Set) (b : Bases) (w₀ w : List ℕ) : Type 0 where
  pub size : length w ≡ length w₀
  pub row : absorbed_row (theory_of ws) ≡ accept
  pub flags : (a : ℕ) → a < b.atoms → get_or w (b.dependencies + a) 0 ≡ cond (s a) 1 0

unfoldable pub Listed : List ℕ → Set → Bases → List ℕ → List ℕ → Result (Unit {0}) Absorbed → Type 0
Listed ws s b w₀ w (Ok u) = Passed ws s b w₀ w
Listed ws s b w₀ w (Err e) = Refused ws w₀ w e.node
