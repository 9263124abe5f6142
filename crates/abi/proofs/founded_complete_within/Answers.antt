use Prim.Native.Nat.{◌<◌}
use native.Mathlib.Omega.{arith}
use lib.ListN.{length, get_or}
use Rattle.theory.specs.Accepted.{edition1}
use Rattle.founded.proofs.PlaceLaws.{completed_place}
use Rattle.within.proofs.CallWithinLaws.{within_place}
use Rattle.abi.proofs.CodeLaws.{within_told}
use Rattle.abi.proofs.founded_complete_within.Goals as goal

pub within_code-requires : goal.within_code-requires
within_code-requires c =
    let n : get_or c.args.graph.now 2 0 < 65536 = omega (arith, c.shared_slice_known-1.given 2) in
    let p : get_or c.args.graph.now 3 0 < 65536 = omega (arith, c.shared_slice_known-1.given 3) in
    let k : get_or c.args.graph.now 4 0 < 65536 = omega (arith, c.shared_slice_known-1.given 4) in
    rw c.complete-answered.ensures.answer (within_place (omega arith) edition1 c.args.graph.now _ _ _ _ _ _ (completed_place (omega arith) edition1 c.args.graph.now n p k (length c.args.never.now) (length c.args.atom_never.now) (length c.args.output.now) (length c.args.work.now)))

pub returns : goal.returns
returns c = within_told 65536 edition1 c.complete-answered.ensures c.within_code.ensures
