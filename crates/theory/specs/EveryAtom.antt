-- The pass with every atom marked (request 6, "States that nothing produces"): Atom(a) is true only if a is founded, a head needs no mark, and the list is every uncut atom left unfounded. That
-- it reads so: proofs/EveryAtomLaws.
use Rattle.std.specs.Prelude.{ltb}
use Rattle.theory.specs.Sets.{Set}
use Rattle.theory.specs.Theory.{Theory}
use Rattle.theory.specs.Founded.{founded_among, missing_among}

unfoldable pub every_atom : Theory → Set
every_atom th a = ltb a th.atoms

module _ (th : Theory) (never atom_never : Set) where
  unfoldable pub founded_all : Set
  founded_all a = founded_among th (every_atom th) never atom_never a

  -- the list of request 6, as a set
  unfoldable pub missing_all : Set
  missing_all a = missing_among th (every_atom th) never atom_never a
