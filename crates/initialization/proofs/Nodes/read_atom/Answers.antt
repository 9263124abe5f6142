use mathlib.Core.Path.{refl, sym, ◌∙◌}
use Rattle.theory.specs.Pass.{kind_mode}
use Rattle.initialization.specs.Start.{initial_of}
use Rattle.initialization.proofs.Nodes.read_atom.Goals as goal

pub returns-then-is_cyclic : goal.returns-then-is_cyclic
unfolding initial_of kind_mode
returns-then-is_cyclic g c = λ s n f. rw (sym (c.is_cyclic.ensures s f) ∙ c.if-is_cyclic.true) refl

pub returns-then-bit : goal.returns-then-bit
unfolding initial_of kind_mode
returns-then-bit g c = λ s n f. rw (sym (c.is_cyclic.ensures s f) ∙ c.if-is_cyclic.false, sym c.bit.ensures ∙ c.if-bit.true) refl

pub returns-else-bit : goal.returns-else-bit
unfolding initial_of kind_mode
returns-else-bit g c = λ s n f. rw (sym (c.is_cyclic.ensures s f) ∙ c.if-is_cyclic.false, sym c.bit.ensures ∙ c.if-bit.false) refl
