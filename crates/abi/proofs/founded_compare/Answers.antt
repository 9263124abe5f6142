use Prim.Native.Nat.{◌<◌}
use native.Mathlib.Omega.{arith}
use lib.ListN.{get_or}
use Rattle.theory.specs.Accepted.{edition1}
use Rattle.abi.proofs.CodeLaws.{compared_placed}
use Rattle.abi.proofs.founded_compare.Goals as goal

pub compared_code-requires : goal.compared_code-requires
compared_code-requires c =
    let x = c.args.graph.now in
    let y = c.args.other.now in
    let n : get_or x 2 0 < 65536 = omega (arith, c.shared_slice_known-1.given 2) in
    let p : get_or x 3 0 < 65536 = omega (arith, c.shared_slice_known-1.given 3) in
    let k : get_or x 4 0 < 65536 = omega (arith, c.shared_slice_known-1.given 4) in
    let n' : get_or y 2 0 < 65536 = omega (arith, c.shared_slice_known-2-1.given 2) in
    let p' : get_or y 3 0 < 65536 = omega (arith, c.shared_slice_known-2-1.given 3) in
    let k' : get_or y 4 0 < 65536 = omega (arith, c.shared_slice_known-2-1.given 4) in
    compared_placed 65536 edition1 x y c.compare.ensures (omega arith) n p k n' p' k'
