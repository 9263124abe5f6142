use native.Mathlib.Omega.{arith}
use mathlib.Core.Path.{◌≡◌}
use Prim.Native.Nat.{◌+◌}
use Rattle.projection.specs.Narrowed.{parents_of}
use Rattle.projection.proofs.RowingLaws.{rowing_start, next_room, next_fits, rowing_next, rowing_end}
use Rattle.projection.proofs.Source.parents.Goals as goal

pub loop-n-init : goal.loop-n-init
loop-n-init c = rw c.put.ensures (rowing_start c.args.self.bases.nodes (parents_of c.args.self.graph.now) c.args.part.now c.requires.room)

pub parent_row-place-requires-clause-room : goal.parent_row-place-requires-clause-room
parent_row-place-requires-clause-room c = next_room c.args.self.bases.nodes (parents_of c.args.self.graph.now) c.args.part.now c.requires.room c.loop-n.invariant c.loop-n-test.true

pub put-requires-in-loop-n : goal.put-requires-in-loop-n
put-requires-in-loop-n c =
    let f = next_fits c.args.self.bases.nodes (parents_of c.args.self.graph.now) c.args.part.now c.requires.room c.loop-n.invariant c.loop-n-test.true c.parent_row-place.ensures in
    let s = c.requires.small in (f.1, (let k = f.2 in omega arith))

pub loop-n-preserved : goal.loop-n-preserved
loop-n-preserved c = rw c.put-in-loop-n.ensures (rowing_next c.args.self.bases.nodes (parents_of c.args.self.graph.now) c.args.part.now c.requires.room c.loop-n.invariant c.loop-n-test.true c.parent_row-place.ensures)

pub returns : goal.returns
returns c =
    let e : c.loop-n.n ≡ c.args.self.bases.nodes = omega arith in
    rowing_end c.args.self.bases.nodes (parents_of c.args.self.graph.now) c.args.part.now c.requires.room (rw e at c.loop-n.invariant)
