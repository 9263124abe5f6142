-- A node's role before masks (document 02, request 1; the Rust: `Initial`, `is_seed`), and what a pass that goes by roles leaves for the next one.
use Rattle.std.specs.Prelude.{◌≡◌, ◌⊎◌, Bool, true, false, not, ◌&&◌, ◌||◌, cond, List, ℕ, ◌+◌, ◌-◌, ◌<◌, eqb, length}
use Rattle.theory.specs.Sets.{Set, Is, filled}
use Rattle.theory.specs.Theory.{Theory, Kind, False, Atom, And, Or, Opaque, Absorbed}

-- a seed is true at once or never, whatever is cut, and nothing leads to it that could change this
unfoldable pub kind_seed : Kind → (marked : Bool) → (leaves : List ℕ) → Bool
kind_seed False m l = false
kind_seed Atom m l = not m
kind_seed And m l = not (filled l)
kind_seed Or m l = false
kind_seed Opaque m l = true
kind_seed Absorbed m l = false

-- the role as a number: of a counter what it waits for, where 0 says that it is never true; of a seed 0, or the atom that it stands for and 1
unfoldable pub kind_role : Kind → (marked : Bool) → (operand : ℕ) (leaves : List ℕ) → ℕ
kind_role False m a l = 0
kind_role Atom m a l = cond m 1 (a + 1)
kind_role And m a l = length l
kind_role Or m a l = 1
kind_role Opaque m a l = 0
kind_role Absorbed m a l = 0

-- whether a seed n with role r is true under the cuts
abbrev pub live_role : (never atom_never : Set) (n r : ℕ) → Bool
live_role never atom_never n r = not (never n) && (eqb r 0 || not (atom_never (r - 1)))

module _ (th : Theory) (marked : Set) where
  unfoldable pub seed : Set
  seed n = kind_seed (th.kind n) (marked (th.operand n)) (th.leaves n)

  unfoldable pub role : ℕ → ℕ
  role n = kind_role (th.kind n) (marked (th.operand n)) (th.operand n) (th.leaves n)

  -- the seeds that are true under the cuts
  abbrev pub live_seed : (never atom_never : Set) → Set
  live_seed never atom_never n = live_role never atom_never n (role n)

  -- what no pass waits for has a count of 0: atoms that are not marked, nodes outside the cone, and seeds
  pub record Resting (cone : Set) (count : ℕ → ℕ) : Type 0 where
    pub atoms : (a : ℕ) → a < th.atoms → marked a ≡ false → count a ≡ 0
    pub nodes : (n : ℕ) → n < th.nodes → (cone n ≡ false) ⊎ Is (seed n) → count (th.atoms + n) ≡ 0
