-- The columns of the kind table, by kind (document 01: takes an operand, takes links, waits for one, waits for all, starts true). The second
-- is `joins` of theory/specs/Theory.
use Rattle.std.specs.Prelude.{Bool, true, false, List, [], ◌∷◌}
use Rattle.theory.specs.Theory.{Kind, False, Atom, And, Or, Opaque, Absorbed, joins}

unfoldable pub takes_operand : Kind → Bool
takes_operand False = false
takes_operand Atom = true
takes_operand And = false
takes_operand Or = false
takes_operand Opaque = false
takes_operand Absorbed = false

-- an Atom for its atom, an Or for one of its leaves
unfoldable pub waits_for_one : Kind → Bool
waits_for_one False = false
waits_for_one Atom = true
waits_for_one And = false
waits_for_one Or = true
waits_for_one Opaque = false
waits_for_one Absorbed = false

unfoldable pub waits_for_all : Kind → Bool
waits_for_all False = false
waits_for_all Atom = false
waits_for_all And = true
waits_for_all Or = false
waits_for_all Opaque = false
waits_for_all Absorbed = false

unfoldable pub starts_true : Kind → Bool
starts_true False = false
starts_true Atom = false
starts_true And = false
starts_true Or = false
starts_true Opaque = true
starts_true Absorbed = false

-- a kind's row of the table
abbrev pub row_of : Kind → List Bool
row_of k = takes_operand k ∷ joins k ∷ waits_for_one k ∷ waits_for_all k ∷ starts_true k ∷ []
