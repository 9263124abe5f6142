use mathlib.Core.Path.{sym}
use Rattle.graph.proofs.DecodeLaws.{the_body}
use Rattle.graph.proofs.body_node.Goals as goal

pub returns : goal.returns
returns g c = rw (the_body (g.W.Word.numbers c.args.graph.now) c.args.p) (rw (sym c.body.ensures) c.checked_sub.ensures)
