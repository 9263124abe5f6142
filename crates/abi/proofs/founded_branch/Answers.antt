use Prim.Native.Nat.{◌<◌}
use native.Mathlib.Omega.{arith}
use lib.ListN.{length, get_or}
use Rattle.abi.proofs.BranchLaws.{branched_place}
use Rattle.abi.proofs.CodeLaws.{branched_told}
use Rattle.abi.proofs.founded_branch.Goals as goal

pub branched_code-requires : goal.branched_code-requires
branched_code-requires c =
    let n : get_or c.args.graph.now 2 0 < 65536 = omega (arith, c.shared_slice_known-1.given 2) in
    let p : get_or c.args.graph.now 3 0 < 65536 = omega (arith, c.shared_slice_known-1.given 3) in
    let k : get_or c.args.graph.now 4 0 < 65536 = omega (arith, c.shared_slice_known-1.given 4) in
    rw c.branch-graph.ensures.answer (branched_place (omega arith) c.args.graph.now n p k c.args.pairs (length c.args.never.now) (length c.args.atom_never.now) (length c.args.output.now) (length c.args.work.now))

pub returns : goal.returns
returns c = branched_told c.branch-graph.ensures c.branched_code.ensures
