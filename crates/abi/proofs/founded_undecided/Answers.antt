use Prim.Native.Nat.{◌<◌}
use native.Mathlib.Omega.{arith}
use lib.ListN.{length, get_or}
use Rattle.undecided.proofs.PlaceLaws.{undecided_place}
use Rattle.abi.proofs.CodeLaws.{undecided_told}
use Rattle.abi.proofs.founded_undecided.Goals as goal

pub open_code-requires : goal.open_code-requires
open_code-requires c =
    let n : get_or c.args.graph.now 2 0 < 65536 = omega (arith, c.shared_slice_known-1.given 2) in
    let p : get_or c.args.graph.now 3 0 < 65536 = omega (arith, c.shared_slice_known-1.given 3) in
    let k : get_or c.args.graph.now 4 0 < 65536 = omega (arith, c.shared_slice_known-1.given 4) in
    rw c.undecided.ensures.answer
    (undecided_place (omega arith) c.args.graph.now n p k c.args.never.now c.args.atom_never.now c.args.open_nodes.now c.args.open_atoms.now (length c.args.always.now) (length c.args.sometimes.now) (length c.args.work.now))

pub returns : goal.returns
returns c = undecided_told c.undecided.ensures c.open_code.ensures
