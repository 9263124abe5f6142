use Rattle.replaying.specs.Replays.{check, needed, prepare, complete}
use Rattle.replaying.proofs.replay_call.Goals as goal

pub returns-in_ok-score_check-in-Check-clause-replayed :
    goal.returns-in_ok-score_check-in-Check-clause-replayed
returns-in_ok-score_check-in-Check-clause-replayed g c =
    let it = c.in_ok-score_check-in-Check in check it.field-0 it.ensures.scored it.ensures.others

pub returns-in_ok-score_needed-in-Needed-clause-replayed :
    goal.returns-in_ok-score_needed-in-Needed-clause-replayed
returns-in_ok-score_needed-in-Needed-clause-replayed g c =
    let it = c.in_ok-score_needed-in-Needed in needed it.field-0 it.ensures.scored it.ensures.others

pub returns-in_ok-score_prepare-in-Prepare-clause-replayed :
    goal.returns-in_ok-score_prepare-in-Prepare-clause-replayed
returns-in_ok-score_prepare-in-Prepare-clause-replayed g c =
    let it = c.in_ok-score_prepare-in-Prepare in prepare it.field-0 it.ensures.scored it.ensures.others

pub returns-in_ok-score_complete-in-Complete-clause-replayed :
    goal.returns-in_ok-score_complete-in-Complete-clause-replayed
returns-in_ok-score_complete-in-Complete-clause-replayed g c =
    let it = c.in_ok-score_complete-in-Complete in complete it.field-0 it.ensures.scored it.ensures.others
