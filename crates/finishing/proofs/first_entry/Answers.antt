use mathlib.Core.Path.{sym, ◌∙◌}
use native.Mathlib.Omega.{arith}
use Rattle.finishing.proofs.CursorLaws.{first_atom, node_low, node_in, node_says, first_operand, first_leaf}
use Rattle.finishing.proofs.first_entry.Goals as goal

pub returns-then-v-b : goal.returns-then-v-b
returns-then-v-b g c = sym (first_atom (g.W.Word.numbers c.args.graph.now) c.args.v (let e = c.requires.2 in let t = c.if-v-b.true in omega arith))

pub node_kind-requires : goal.node_kind-requires
node_kind-requires g c = (c.requires.0, node_low _ c.requires.0 c.requires.1 c.requires.2 c.if-v-b.false)

pub returns-then-takes_operand : goal.returns-then-takes_operand
returns-then-takes_operand g c = sym (first_operand _ c.requires.0 c.requires.1 c.requires.2 c.if-v-b.false (node_says _ c.requires.0 c.requires.1 c.requires.2 c.if-v-b.false _ c.node_kind.ensures c.takes_operand.ensures ∙ c.if-takes_operand.true))

pub first_leaf-requires : goal.first_leaf-requires
first_leaf-requires g c = node_in _ c.requires.0 c.requires.1 c.requires.2 c.if-v-b.false

pub returns : goal.returns
returns g c = c.first_leaf.ensures ∙ sym (first_leaf _ c.requires.0 c.requires.1 c.requires.2 c.if-v-b.false (node_says _ c.requires.0 c.requires.1 c.requires.2 c.if-v-b.false _ c.node_kind.ensures c.takes_operand.ensures ∙ c.if-takes_operand.false))
