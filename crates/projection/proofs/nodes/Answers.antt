use native.Mathlib.Omega.{arith}
use mathlib.Core.Path.{refl}
use mathlib.Core.List.{◌∷◌, []}
use Prim.Native.Nat.{◌+◌}
use lib.Seq.{slice_empty}
use Rattle.theory.proofs.DriveLaws.{drives_none, turn_next, turn_more, turn_done, slice_turn}
use Rattle.area.specs.Views.{as_vertices}
use Rattle.projection.specs.Narrowing.{Narrowing}
use Rattle.projection.proofs.nodes.Goals as goal

pub loop-i-init : goal.loop-i-init
loop-i-init c = drives_none (Narrowing c.args.work.now c.args.b.states)

pub step-t-requires : goal.step-t-requires
step-t-requires c =
    turn_next (Narrowing c.args.work.now c.args.b.states) (as_vertices c.args.b) (λ x. (c.args.b.atoms + x) ∷ []) (λ x l. refl) c.loop-i.invariant
    (slice_turn c.loop-i.i c.args.to c.args.work.now c.loop-i-test.true c.requires.inside.1 c.at.ensures.0) c.requires.follows

pub loop-i-preserved : goal.loop-i-preserved
loop-i-preserved c =
    turn_more (Narrowing c.args.work.now c.args.b.states) (as_vertices c.args.b) (λ x. (c.args.b.atoms + x) ∷ []) (λ x l. refl) c.loop-i.invariant
    (slice_turn c.loop-i.i c.args.to c.args.work.now c.loop-i-test.true c.requires.inside.1 c.at.ensures.0) c.step-t.ensures
