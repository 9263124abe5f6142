use Rattle.graph.proofs.KindLaws.{table_says}
use Rattle.graph.proofs.NodeKind.says.Goals as goal

pub returns : goal.returns
returns c = table_says _ _ c.args.self.known c.requires
