-- Request 12: the atoms missing under every choice of the undecided nodes and atoms, and those missing under at least one. Both are said of all
-- choices; that two passes find the same: proofs/UndecidedLaws.
use Rattle.std.specs.Prelude.{Bool, false, not, ◌&&◌, ◌||◌, ℕ}
use Rattle.theory.specs.Sets.{Is, Set, ◌⊆◌}
use Rattle.theory.specs.Theory.{Theory, Kind, False, Atom, And, Or, Opaque, Absorbed}
use Rattle.theory.specs.Founded.{missing}
use Rattle.choices.specs.Choices.{◌∪◌, choices_below, all_of, any_of}

-- an Atom whose atom is in question
unfoldable pub names : Kind → Bool → Bool
names False b = false
names Atom b = b
names And b = false
names Or b = false
names Opaque b = false
names Absorbed b = false

module _ (th : Theory) (never undecided atom_never atom_undecided : Set) where
  -- missing under every choice: c of the undecided nodes, d of the undecided atoms
  abbrev pub MissingAlways : ℕ → Type 0
  MissingAlways a = (c d : Set) → c ⊆ undecided → d ⊆ atom_undecided → Is (missing th (never ∪ c) (atom_never ∪ d) a)

  -- missing under at least one choice
  abbrev pub MissingSometimes : ℕ → Type 0
  MissingSometimes a = (c : Set) × (d : Set) × (c ⊆ undecided) × (d ⊆ atom_undecided) × Is (missing th (never ∪ c) (atom_never ∪ d) a)

  -- the same two lists by trying the choices one after the other
  unfoldable pub missing_in_all : Set
  missing_in_all a = all_of (λ c. all_of (λ d. missing th (never ∪ c) (atom_never ∪ d) a) (choices_below th.atoms atom_undecided)) (choices_below th.nodes undecided)

  unfoldable pub missing_in_some : Set
  missing_in_some a = any_of (λ c. any_of (λ d. missing th (never ∪ c) (atom_never ∪ d) a) (choices_below th.atoms atom_undecided)) (choices_below th.nodes undecided)

-- ---- as they are computed, by two passes

-- the pass with nothing undecided cut, without the undecided atoms
unfoldable pub always_missing : Theory → (never atom_never atom_undecided : Set) → Set
always_missing th never atom_never atom_undecided a = missing th never atom_never a && not (atom_undecided a)

-- the nodes that are cut or undecided, and the Atoms that name an undecided atom
unfoldable pub shut : Theory → (never undecided atom_undecided : Set) → Set
shut th never undecided atom_undecided n = (never ∪ undecided) n || names (th.kind n) (atom_undecided (th.operand n))

-- the pass with these cut, and the atom mask as it is
unfoldable pub sometimes_missing : Theory → (never undecided atom_never atom_undecided : Set) → Set
sometimes_missing th never undecided atom_never atom_undecided = missing th (shut th never undecided atom_undecided) atom_never
