use native.Mathlib.Omega.{arith}
use Rattle.adjacency.proofs.BuildLaws.{summed_none, summed_low, summed_more}
use Rattle.adjacency.proofs.sum.Goals as goal

pub loop-r-init : goal.loop-r-init
loop-r-init g c = summed_none (g.W.Word.numbers c.args.part.now)

pub put-requires : goal.put-requires
put-requires g c = let low = summed_low c.loop-r.invariant c.at-n.ensures.0 c.loop-r-test.true in (omega arith, omega arith)

pub overflow_add-total : goal.overflow_add-total
overflow_add-total g c = let low = summed_low c.loop-r.invariant c.at-n.ensures.0 c.loop-r-test.true in let holds = g.met.W.Word.holds in omega arith

pub loop-r-preserved : goal.loop-r-preserved
loop-r-preserved g c = rw c.put.ensures (summed_more c.loop-r.invariant c.at-n.ensures.0 (omega arith))
