-- The pass as a closure over vertices: what each vertex waits for at the start (the Rust: `Initial`), given the cuts and a cone of nodes that the pass
-- starts from; a node outside the cone is never true in it. That the closure is the founded set: proofs/PassLaws.
use Rattle.std.specs.Prelude.{◌≡◌, Bool, true, false, not, ◌&&◌, cond, ℕ, suc, ◌-◌, ◌<◌, eqb, ltb}
use Rattle.theory.specs.Sets.{Is, Set, everyone, Mem, member, any_below}
use Rattle.theory.specs.Theory.{Theory, Kind, False, Atom, And, Or, Opaque, Absorbed, joins}
use Rattle.theory.specs.Edges.{vertices, preds}
use Rattle.theory.specs.Founded.{cyclic}
use Rattle.theory.specs.Closure.{Mode, dead, free, single, every, closure}

unfoldable pub live : Bool → Mode → Mode
live true m = m
live false m = dead

-- an uncut node, by its kind and whether its atom is marked and cut
unfoldable pub kind_mode : Kind → (marked cut : Bool) → Mode
kind_mode False m c = dead
kind_mode Atom true c = single
kind_mode Atom false true = dead
kind_mode Atom false false = free
kind_mode And m c = every
kind_mode Or m c = single
kind_mode Opaque m c = free
kind_mode Absorbed m c = dead

module _ (th : Theory) where
  -- a is the head of a fact
  unfoldable pub stated : Set
  stated a = any_below th.producers (λ p. eqb (th.body p) 0 && member a (th.heads p))

  -- with any set of atoms as the marked ones
  module _ (marked cone never atom_never : Set) where
    unfoldable pub atom_mode_among : ℕ → Mode
    atom_mode_among a = live (marked a && not (atom_never a)) (cond (stated a) free single)

    unfoldable pub node_mode_among : ℕ → Mode
    node_mode_among n = live (ltb n th.nodes && cone n && not (never n)) (kind_mode (th.kind n) (marked (th.operand n)) (atom_never (th.operand n)))

    unfoldable pub pass_mode_among : ℕ → Mode
    pass_mode_among v = cond (ltb v th.atoms) (atom_mode_among v) (node_mode_among (v - th.atoms))

    -- what the pass finds
    abbrev pub passed_among : Set
    passed_among v = closure (vertices th) pass_mode_among (preds th everyone) v

    -- the cone holds whatever can come to matter: the bodies of producers with a marked head, and leaves of what it holds
    pub record EnoughAmong : Type 0 where
      pub bodies : (p n a : ℕ) → p < th.producers → Mem a (th.heads p) → Is (marked a) → th.body p ≡ suc n → Is (cone n)
      pub leaves : (n m : ℕ) → n < th.nodes → Is (cone n) → Is (joins (th.kind n)) → Mem m (th.leaves n) → Is (cone m)

  -- the cyclic atoms are marked
  module _ (cone never atom_never : Set) where
    abbrev pub atom_mode : ℕ → Mode
    atom_mode a = atom_mode_among (cyclic th) cone never atom_never a

    abbrev pub node_mode : ℕ → Mode
    node_mode n = node_mode_among (cyclic th) cone never atom_never n

    abbrev pub pass_mode : ℕ → Mode
    pass_mode v = pass_mode_among (cyclic th) cone never atom_never v

    abbrev pub passed : Set
    passed v = passed_among (cyclic th) cone never atom_never v

    abbrev pub Enough : Type 0
    Enough = EnoughAmong (cyclic th) cone never atom_never
