use Prim.Native.Nat.{◌-◌}
use lib.ListN.{get_or}
use Rattle.checking.proofs.FollowLaws.{Toward}
use Rattle.checking.proofs.rows.comes_back.Given as goal

abbrev pub invariant-loop-followed : goal.invariant-loop-followed
invariant-loop-followed g l = Toward (g.W.Word.numbers l.graph) l.first (get_or (g.W.Word.numbers l.graph) 4 0 - l._followed) l.l
