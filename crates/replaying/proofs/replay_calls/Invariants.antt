use Rattle.replaying.specs.Replays.{Calls}
use Rattle.replaying.proofs.replay_calls.Given as goal

abbrev pub invariant-loop : goal.invariant-loop
invariant-loop g l = Calls l.graph l.fn.scores l.counter l.scores
