use mathlib.Core.Path.{sym, ◌∙◌, ap}
use native.Mathlib.Omega.{arith}
use lib.ListN.{length}
use Rattle.theory.specs.Words.{theory_of}
use Rattle.graph.proofs.DecodeLaws.{the_nodes, the_leaves}
use Rattle.cycles.proofs.DegreeLaws.{degree_operand, degree_leaves}
use Rattle.cycles.proofs.degree.Goals as goal

pub returns-then-takes_operand : goal.returns-then-takes_operand
returns-then-takes_operand g c =
    sym (degree_operand (theory_of (g.W.Word.numbers c.args.graph.now)) c.args.n c.requires.1 (rw c.node_kind.ensures at (sym c.takes_operand.ensures ∙ c.if-takes_operand.true)))

pub first_leaf-requires : goal.first_leaf-requires
unfolding theory_of
first_leaf-requires g c = record { size = c.requires.0.size; below = c.requires.1 }

pub entries-requires : goal.entries-requires
unfolding theory_of
entries-requires g c = (c.requires.0, rw c.first_leaf.ensures (c.requires.0.leaf_chain c.args.n c.requires.1))

pub returns : goal.returns
returns g c =
    let ws = g.W.Word.numbers c.args.graph.now in
    let none = c.requires.0.leafless c.args.n (let e = the_nodes ws in let l = c.requires.1 in omega arith) in
    rw (c.entries.ensures, c.first_leaf.ensures)
    (sym (ap length (the_leaves ws c.args.n)) ∙ sym (degree_leaves (theory_of ws) c.args.n c.requires.1 (rw c.node_kind.ensures at (sym c.takes_operand.ensures ∙ c.if-takes_operand.false)) none))
