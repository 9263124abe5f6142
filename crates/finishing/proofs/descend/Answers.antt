use mathlib.Core.Path.{◌≡◌}
use native.Mathlib.Omega.{arith}
use Rattle.finishing.proofs.PlaceLaws.{mark_place}
use Rattle.finishing.proofs.EntryLaws.{is_new}
use Rattle.finishing.proofs.DescentLaws.{walked_none, root_new, descended}
use Rattle.finishing.proofs.descend.Goals as goal

pub is_new-requires : goal.is_new-requires
is_new-requires g c = mark_place c.requires.1.ready.based c.args.root c.requires.2

pub loop-tops-init : goal.loop-tops-init
loop-tops-init g c = walked_none (rw (c.meet-tops.ensures.0, c.meet-tops.ensures.1, c.meet-tops.ensures.2) (root_new c.requires.1 c.requires.2 (is_new c.is_new.ensures c.if-not-is_new.false) c.requires.0).walking)

pub returns : goal.returns
returns g c =
    let z : c.loop-tops.tops.top ≡ 0 = omega arith in
    descended c.requires.1 c.requires.2 c.requires.0 (is_new c.is_new.ensures c.if-not-is_new.false) (rw (c.meet-tops.ensures.0, z) at c.loop-tops.invariant)
