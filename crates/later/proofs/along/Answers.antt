use native.Mathlib.Omega.{arith}
use mathlib.Core.Path.{◌≡◌, refl}
use mathlib.Core.List.{[], ◌∷◌}
use lib.Seq.{slice_empty}
use Rattle.theory.proofs.DriveLaws.{drives_none, turn_next, turn_more, turn_done, slice_turn}
use Rattle.later.proofs.along.Goals as goal

pub loop-i-init : goal.loop-i-init
loop-i-init g c = drives_none (g.S.Step.held c.args.step)

pub at-requires : goal.at-requires
at-requires g c = let s = c.requires.spanned in let e = s.ends in let k = c.row_start-to.ensures in omega arith

pub step-t-requires : goal.step-t-requires
step-t-requires g c =
    let s = c.requires.spanned in let e = s.ends in let k = c.row_start-to.ensures in
    turn_next (g.S.Step.held c.args.step) (λ l. l) (λ y. y ∷ []) (λ y ys. refl) c.loop-i.invariant
    (slice_turn c.loop-i.i c.row_start-to.result c.args.table.now c.loop-i-test.true (omega arith) c.at.ensures.0) (rw (← c.row_start-from.ensures, ← c.row_start-to.ensures) at c.requires.follows)

pub loop-i-preserved : goal.loop-i-preserved
loop-i-preserved g c =
    let s = c.requires.spanned in let e = s.ends in let k = c.row_start-to.ensures in
    turn_more (g.S.Step.held c.args.step) (λ l. l) (λ y. y ∷ []) (λ y ys. refl) c.loop-i.invariant
    (slice_turn c.loop-i.i c.row_start-to.result c.args.table.now c.loop-i-test.true (omega arith) c.at.ensures.0) c.step-t.ensures

pub returns : goal.returns
returns g c =
    let s = c.requires.spanned in let r = s.rises in let f = c.row_start-from.ensures in let k = c.row_start-to.ensures in
    let e : c.loop-i.i ≡ c.row_start-to.result = omega arith in
    rw (← c.row_start-from.ensures, ← c.row_start-to.ensures)
    (turn_done (g.S.Step.held c.args.step) (λ l. l) (λ y. y ∷ []) (λ y ys. refl) c.loop-i.invariant (rw e (slice_empty c.row_start-to.result c.args.table.now)) refl)
