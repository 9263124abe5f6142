use Rattle.replaying.specs.Replays.{more}
use Rattle.replaying.proofs.replay_calls.Goals as goal

pub loop-preserved : goal.loop-preserved
loop-preserved g c = more c.loop.invariant c.in_ok-replay_call.ensures.replayed
