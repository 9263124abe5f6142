use Rattle.cycles.proofs.LoopLaws.{node_counted}
use Rattle.cycles.proofs.count_nodes.Goals as goal

pub loop-n-preserved : goal.loop-n-preserved
loop-n-preserved g c = rw c.put.ensures (node_counted c.loop-n.invariant c.loop-n-test.true c.degree.ensures)
