use Rattle.theory.proofs.DriveLaws.{follows_next, drives_step}
use Rattle.adjacency.proofs.KeyLaws.{stream_turn, stream_end}
use Rattle.adjacency.proofs.Table.place_all.Goals as goal

pub place_item-requires-clause-follows : goal.place_item-requires-clause-follows
place_item-requires-clause-follows g c =
    follows_next (g.P.Place.building c.args.place) _ _ (stream_turn _ c.loop-i.i _ (rw c.size-i-end.ensures.items at c.loop-i-test.true)) c.loop-i.invariant c.requires.follows

pub loop-i-preserved : goal.loop-i-preserved
loop-i-preserved g c =
    drives_step (g.P.Place.building c.args.place) _ _ (stream_turn _ c.loop-i.i _ (rw c.size-i-end.ensures.items at c.loop-i-test.true)) c.loop-i.invariant c.place_item.ensures

pub returns : goal.returns
returns g c = rw (stream_end _ c.loop-i.i _ (rw c.size-i-end.ensures.items at c.loop-i-test.false)) at c.loop-i.invariant
