use mathlib.Core.Path.{sym}
use Rattle.graph.proofs.KindLaws.{absorbed_is}
use Rattle.graph.proofs.NodeKind.absorbed.Goals as goal

pub returns : goal.returns
returns c = sym (absorbed_is c.args.self.number c.args.self.known)
