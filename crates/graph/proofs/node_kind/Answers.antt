use mathlib.Core.Path.{sym, ap, ◌∙◌}
use native.Mathlib.Omega.{arith}
use Rattle.theory.specs.Words.{kind_of}
use Rattle.graph.proofs.DecodeLaws.{the_nodes, the_kind}
use Rattle.graph.proofs.node_kind.Goals as goal

pub kind-requires : goal.kind-requires
kind-requires g c = let ws = g.W.Word.numbers c.args.graph.now in record { size = c.requires.0.size; below = rw (sym (the_nodes ws)) c.requires.1 }

pub invariant_of-result : goal.invariant_of-result
invariant_of-result g c = let ws = g.W.Word.numbers c.args.graph.now in record { known = omega (arith, c.kind.ensures, c.requires.0.kind_low c.args.n (rw (sym (the_nodes ws)) c.requires.1)) }

pub returns : goal.returns
returns g c = let ws = g.W.Word.numbers c.args.graph.now in ap kind_of c.kind.ensures ∙ sym (the_kind ws c.args.n)
