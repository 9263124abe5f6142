use Rattle.replaying.proofs.replay_run.Goals as goal

pub returns-clause-replayed : goal.returns-clause-replayed
returns-clause-replayed g c =
    let it = c.in_ok-score_run in
    record { bytes = c.score_run.new.room; said = it.field-0; run = it.ensures.scored; others = it.ensures.others }
