use Rattle.abi.proofs.CodeLaws.{needed_placed}
use Prim.Native.Nat.{◌<◌}
use native.Mathlib.Omega.{arith}
use lib.ListN.{get_or}
use Rattle.theory.specs.Accepted.{edition1}
use Rattle.abi.proofs.founded_needed.Goals as goal

pub needed_code-requires : goal.needed_code-requires
needed_code-requires c =
    let n : get_or c.args.graph.now 2 0 < 65536 = omega (arith, c.shared_slice_known-1.given 2) in
    let p : get_or c.args.graph.now 3 0 < 65536 = omega (arith, c.shared_slice_known-1.given 3) in
    let k : get_or c.args.graph.now 4 0 < 65536 = omega (arith, c.shared_slice_known-1.given 4) in
    needed_placed 65536 edition1 c.args.graph.now c.args.work.now c.needed.ensures.result_value (omega arith) n p k
