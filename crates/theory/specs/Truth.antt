-- Truth of a node (document 01: of a condition), line by line as under "Pass". The Atom line is the parameter `atom`: the truth of an uncut
-- Atom. The cuts of nodes are `never`.
use Rattle.std.specs.Prelude.{Bool, true, false, not, ◌&&◌, List, ℕ, zero, suc}
use Rattle.theory.specs.Sets.{Set, any, all}
use Rattle.theory.specs.Theory.{Theory, Kind, False, Atom, And, Or, Opaque, Absorbed}

-- truth of an uncut node: by its kind, the truth of its atom, the truth of its leaves
unfoldable pub holds : Kind → Bool → Set → List ℕ → Bool
holds False atom t leaves = false
holds Atom atom t leaves = atom
holds And atom t leaves = all t leaves
holds Or atom t leaves = any t leaves
holds Opaque atom t leaves = true
holds Absorbed atom t leaves = false

module _ (th : Theory) (never atom : Set) where
  -- in k rounds
  unfoldable pub truth_in : ℕ → Set
  truth_in zero n = false
  truth_in (suc k) n = not (never n) && holds (th.kind n) (atom (th.operand n)) (λ m. truth_in k m) (th.leaves n)

  -- a leaf is below its own node, so n + 1 rounds are enough (proofs/TruthLaws, `truth_step`)
  unfoldable pub truth : Set
  truth n = truth_in (suc n) n

  -- a producer fires if it is a fact or its body is true
  unfoldable pub fires : ℕ → Bool
  fires zero = true
  fires (suc n) = truth n
