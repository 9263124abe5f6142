use mathlib.Core.Path.{refl, sym, ◌∙◌}
use Rattle.theory.specs.Words.{theory_of}
use Rattle.choices.specs.Undecided.{shut}
use Rattle.undecided.proofs.ShutLaws.{names_atom, names_none}
use Rattle.undecided.proofs.shuts.Goals as goal
use Rattle.undecided.proofs.shuts.Goals.{then-bit-via-then-bit, then-bit-via-else-bit+then-bit-2}

pub returns-then-bit : goal.returns-then-bit
unfolding shut
returns-then-bit c = elim c.then-bit.branch [
  | then-bit-via-then-bit w ↦ rw (sym c.bit.ensures ∙ w.if-bit.true) refl
  | then-bit-via-else-bit+then-bit-2 w ↦ rw (sym c.bit.ensures ∙ w.if-bit.false, sym w.bit-else-bit.ensures ∙ w.if-bit-2.true) refl
]

pub operand-requires : goal.operand-requires
unfolding theory_of
operand-requires c = record { size = c.requires.0.size; below = c.requires.1 }

pub returns-then-takes_operand : goal.returns-then-takes_operand
unfolding shut theory_of
returns-then-takes_operand c =
    rw (sym c.bit.ensures ∙ c.if-bit.false, sym c.bit-else-bit.ensures ∙ c.if-bit-2.false)
    (c.bit-then-takes_operand.ensures ∙ rw c.operand.ensures (sym (names_atom _ _ (rw (sym c.node_kind.ensures) (sym c.takes_operand.ensures ∙ c.if-takes_operand.true)))))

pub returns-else-takes_operand : goal.returns-else-takes_operand
unfolding shut theory_of
returns-else-takes_operand c =
    rw (sym c.bit.ensures ∙ c.if-bit.false, sym c.bit-else-bit.ensures ∙ c.if-bit-2.false)
    (c.if-takes_operand.false ∙ sym (names_none _ _ (rw (sym c.node_kind.ensures) (sym c.takes_operand.ensures ∙ c.if-takes_operand.false))))
