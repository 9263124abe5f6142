use Prim.Native.Nat.{◌<◌}
use native.Mathlib.Omega.{arith}
use lib.ListN.{get_or}
use Rattle.theory.specs.Accepted.{edition1}
use Rattle.refusals.proofs.PlaceLaws.{graph_place}
use Rattle.abi.proofs.founded_check.Goals as goal

pub checked_code-requires : goal.checked_code-requires
checked_code-requires c =
    let n : get_or c.args.graph.now 2 0 < 65536 = omega (arith, c.shared_slice_known-1.given 2) in
    let p : get_or c.args.graph.now 3 0 < 65536 = omega (arith, c.shared_slice_known-1.given 3) in
    let k : get_or c.args.graph.now 4 0 < 65536 = omega (arith, c.shared_slice_known-1.given 4) in
    rw c.check.ensures (graph_place (omega arith) edition1 c.args.graph.now n p k)
