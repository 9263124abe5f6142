use mathlib.Core.Path.{refl, sym, ◌∙◌}
use native.Mathlib.Omega.{arith}
use lib.ListN.{length}
use Rattle.theory.specs.Words.{bit_at, theory_of}
use Rattle.initialization.specs.Start.{initial_of}
use Rattle.initialization.proofs.InitialLaws.{initial_cut, initial_uncut, cone_node, operand_in}
use Rattle.initialization.proofs.Nodes.read.Goals as goal

pub returns-then-bit : goal.returns-then-bit
returns-then-bit g c = λ marked cone fl i. initial_cut (g.W.Word.numbers c.args.self.graph.now) marked cone (bit_at c.args.self.never.now) (bit_at c.args.self.atom_never.now) c.args.n (sym c.bit.ensures ∙ c.if-bit.true)

pub node_kind-kind-requires : goal.node_kind-kind-requires
unfolding theory_of
node_kind-kind-requires g c = (c.requires.accepted.0, c.requires.low)

pub returns-then-starts_true : goal.returns-then-starts_true
unfolding initial_of
returns-then-starts_true g c = λ marked cone fl i.
    initial_uncut c.requires.accepted.0 c.args.n c.requires.low marked cone i _ _ (sym c.bit.ensures ∙ c.if-bit.false) c.node_kind-kind.ensures
    (sym c.starts_true.ensures ∙ c.if-starts_true.true) refl refl refl

pub operand-requires : goal.operand-requires
operand-requires g c = cone_node c.requires.accepted.0 c.args.n c.requires.low

pub read_atom-requires : goal.read_atom-requires
unfolding theory_of
read_atom-requires g c =
    let m = c.requires.accepted.1 in
    let h = operand_in c.requires.accepted.0 c.args.n c.requires.low (rw c.node_kind-kind.ensures at (sym c.takes_operand.ensures ∙ c.if-takes_operand.true)) in (m.laid, omega arith, omega arith)

pub returns-then-takes_operand : goal.returns-then-takes_operand
unfolding initial_of theory_of
returns-then-takes_operand g c = λ marked cone fl i.
    rw c.operand.ensures at (c.read_atom.ensures marked (length ((theory_of (g.W.Word.numbers c.args.self.graph.now)).leaves c.args.n)) fl)
    ∙ initial_uncut c.requires.accepted.0 c.args.n c.requires.low marked cone i _ _ (sym c.bit.ensures ∙ c.if-bit.false) c.node_kind-kind.ensures
    (sym c.starts_true.ensures ∙ c.if-starts_true.false) (sym c.takes_operand.ensures ∙ c.if-takes_operand.true) refl refl

pub returns-then-waits_for_one : goal.returns-then-waits_for_one
unfolding initial_of
returns-then-waits_for_one g c = λ marked cone fl i.
    initial_uncut c.requires.accepted.0 c.args.n c.requires.low marked cone i (bit_at c.args.self.never.now) (bit_at c.args.self.atom_never.now) (sym c.bit.ensures ∙ c.if-bit.false) c.node_kind-kind.ensures
    (sym c.starts_true.ensures ∙ c.if-starts_true.false) (sym c.takes_operand.ensures ∙ c.if-takes_operand.false) (sym c.waits_for_one.ensures ∙ c.if-waits_for_one.true) refl

pub first_leaf-requires : goal.first_leaf-requires
first_leaf-requires g c = cone_node c.requires.accepted.0 c.args.n c.requires.low

pub entries-requires : goal.entries-requires
unfolding theory_of
entries-requires g c = (c.requires.accepted.0, rw c.first_leaf.ensures (c.requires.accepted.0.leaf_chain c.args.n c.requires.low))

pub returns-then-waits_for_all : goal.returns-then-waits_for_all
unfolding initial_of theory_of
returns-then-waits_for_all g c = λ marked cone fl i.
    rw (c.entries.ensures, c.first_leaf.ensures)
    (initial_uncut c.requires.accepted.0 c.args.n c.requires.low marked cone i _ _ (sym c.bit.ensures ∙ c.if-bit.false) c.node_kind-kind.ensures
    (sym c.starts_true.ensures ∙ c.if-starts_true.false) (sym c.takes_operand.ensures ∙ c.if-takes_operand.false) (sym c.waits_for_one.ensures ∙ c.if-waits_for_one.false) (sym c.waits_for_all.ensures ∙ c.if-waits_for_all.true))

pub returns : goal.returns
unfolding initial_of
returns g c = λ marked cone fl i.
    initial_uncut c.requires.accepted.0 c.args.n c.requires.low marked cone i _ _ (sym c.bit.ensures ∙ c.if-bit.false) c.node_kind-kind.ensures
    (sym c.starts_true.ensures ∙ c.if-starts_true.false) (sym c.takes_operand.ensures ∙ c.if-takes_operand.false) (sym c.waits_for_one.ensures ∙ c.if-waits_for_one.false) (sym c.waits_for_all.ensures ∙ c.if-waits_for_all.false)
