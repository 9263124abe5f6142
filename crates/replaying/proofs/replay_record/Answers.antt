use Rattle.replaying.proofs.replay_record.Goals as goal

pub returns-in_ok-replay_graph-in-Graph-clause-replayed :
    goal.returns-in_ok-replay_graph-in-Graph-clause-replayed
returns-in_ok-replay_graph-in-Graph-clause-replayed g c =
    rw c.in-Graph.is c.in_ok-replay_graph-in-Graph.ensures.replayed

pub returns-in_ok-replay_run-in-Run-clause-replayed :
    goal.returns-in_ok-replay_run-in-Run-clause-replayed
returns-in_ok-replay_run-in-Run-clause-replayed g c =
    rw c.in-Run.is c.in_ok-replay_run-in-Run.ensures.replayed
