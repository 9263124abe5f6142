use native.Mathlib.Omega.{arith}
use Rattle.initialization.proofs.FillLaws.{filled_more}
use Rattle.initialization.proofs.first_counts.Goals as goal

pub loop-v-preserved : goal.loop-v-preserved
loop-v-preserved g c = rw c.put.ensures (filled_more c.requires.0 (let e = c.loop-v.invariant.outside.size in omega arith) c.loop-v-test.true c.loop-v.invariant c.first_count-count.ensures.0)
