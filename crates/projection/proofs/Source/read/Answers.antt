use native.Mathlib.Omega.{arith}
use mathlib.Core.Path.{◌≡◌, refl, sym, ap, ◌∙◌}
use mathlib.Core.Bool.{true, false}
use Prim.Native.Nat.{◌<◌}
use Rattle.theory.specs.Words.{theory_of}
use Rattle.theory.specs.Founded.{cyclic}
use Rattle.initialization.proofs.InitialLaws.{cone_node, operand_in, leaves_few}
use Rattle.preparation.proofs.PassLaws.{counts}
use Rattle.projection.specs.Roles.{is_seed, number_of}
use Rattle.projection.proofs.RoleLaws.{read_told, none_filled}
use Rattle.projection.proofs.Source.read.Goals as goal

pub node_kind-kind-requires : goal.node_kind-kind-requires
unfolding theory_of
node_kind-kind-requires c = (c.requires.sourced.accepted, (cone_node c.requires.sourced.accepted c.args.n (c.requires.sourced.standing.low c.args.n c.requires.is)).below)

pub returns-then-starts_true : goal.returns-then-starts_true
unfolding is_seed number_of
returns-then-starts_true c = let r = read_told (theory_of c.args.self.graph.now) (cyclic (theory_of c.args.self.graph.now)) c.args.n c.node_kind-kind.ensures (sym c.starts_true.ensures ∙ c.if-starts_true.true) refl refl refl in (sym r.0, sym r.1, omega arith)

pub operand-a-requires : goal.operand-a-requires
operand-a-requires c = cone_node c.requires.sourced.accepted c.args.n (c.requires.sourced.standing.low c.args.n c.requires.is)

pub is_cyclic-requires : goal.is_cyclic-requires
unfolding theory_of
is_cyclic-requires c =
    let h = operand_in c.requires.sourced.accepted c.args.n (c.requires.sourced.standing.low c.args.n c.requires.is) (rw c.node_kind-kind.ensures at (sym c.takes_operand.ensures ∙ c.if-takes_operand.true)) in
    let q = c.requires.sourced.standing.based.atoms in (c.requires.sourced, omega arith)

pub returns-then-is_cyclic : goal.returns-then-is_cyclic
unfolding is_seed number_of theory_of
returns-then-is_cyclic c =
    let r = read_told (theory_of c.args.self.graph.now) (cyclic (theory_of c.args.self.graph.now)) c.args.n c.node_kind-kind.ensures (sym c.starts_true.ensures ∙ c.if-starts_true.false) (sym c.takes_operand.ensures ∙ c.if-takes_operand.true) refl refl in
    let e = rw c.operand-a.ensures at (sym c.is_cyclic.ensures ∙ c.if-is_cyclic.true) in
    let k = rw e at r in (sym k.0, sym k.1, omega arith)

pub returns-then-takes_operand : goal.returns-then-takes_operand
unfolding is_seed number_of theory_of
returns-then-takes_operand c =
    let r = read_told (theory_of c.args.self.graph.now) (cyclic (theory_of c.args.self.graph.now)) c.args.n c.node_kind-kind.ensures (sym c.starts_true.ensures ∙ c.if-starts_true.false) (sym c.takes_operand.ensures ∙ c.if-takes_operand.true) refl refl in
    let h = operand_in c.requires.sourced.accepted c.args.n (c.requires.sourced.standing.low c.args.n c.requires.is) (rw c.node_kind-kind.ensures at (sym c.takes_operand.ensures ∙ c.if-takes_operand.true)) in
    let few = c.requires.sourced.accepted.atoms_few in
    let e = rw c.operand-a.ensures at (sym c.is_cyclic.ensures ∙ c.if-is_cyclic.false) in
    let k = rw e at r in rw c.operand-a.ensures (sym k.0, sym k.1, omega arith)

pub returns-then-waits_for_one : goal.returns-then-waits_for_one
unfolding is_seed number_of
returns-then-waits_for_one c = let r = read_told (theory_of c.args.self.graph.now) (cyclic (theory_of c.args.self.graph.now)) c.args.n c.node_kind-kind.ensures (sym c.starts_true.ensures ∙ c.if-starts_true.false) (sym c.takes_operand.ensures ∙ c.if-takes_operand.false) (sym c.waits_for_one.ensures ∙ c.if-waits_for_one.true) refl in (sym r.0, sym r.1, omega arith)

pub first_leaf-requires : goal.first_leaf-requires
first_leaf-requires c = cone_node c.requires.sourced.accepted c.args.n (c.requires.sourced.standing.low c.args.n c.requires.is)

pub entries-requires : goal.entries-requires
unfolding theory_of
entries-requires c = (c.requires.sourced.accepted, rw c.first_leaf.ensures (c.requires.sourced.accepted.leaf_chain c.args.n (cone_node c.requires.sourced.accepted c.args.n (c.requires.sourced.standing.low c.args.n c.requires.is)).below))

pub returns-then-waits_for_all : goal.returns-then-waits_for_all
unfolding is_seed number_of theory_of
returns-then-waits_for_all c =
    let r = read_told (theory_of c.args.self.graph.now) (cyclic (theory_of c.args.self.graph.now)) c.args.n c.node_kind-kind.ensures (sym c.starts_true.ensures ∙ c.if-starts_true.false) (sym c.takes_operand.ensures ∙ c.if-takes_operand.false) (sym c.waits_for_one.ensures ∙ c.if-waits_for_one.false) (sym c.waits_for_all.ensures ∙ c.if-waits_for_all.true) in
    let few = leaves_few c.requires.sourced.accepted c.args.n (c.requires.sourced.standing.low c.args.n c.requires.is) in
    rw (c.entries.ensures, c.first_leaf.ensures) (none_filled _ ∙ sym r.0, sym r.1, omega arith)

pub returns : goal.returns
unfolding is_seed number_of
returns c = let r = read_told (theory_of c.args.self.graph.now) (cyclic (theory_of c.args.self.graph.now)) c.args.n c.node_kind-kind.ensures (sym c.starts_true.ensures ∙ c.if-starts_true.false) (sym c.takes_operand.ensures ∙ c.if-takes_operand.false) (sym c.waits_for_one.ensures ∙ c.if-waits_for_one.false) (sym c.waits_for_all.ensures ∙ c.if-waits_for_all.false) in (sym r.0, sym r.1, omega arith)
