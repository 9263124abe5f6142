use mathlib.Core.Path.{◌∙◌}
use Rattle.theory.specs.Accepted.{edition1}
use Rattle.refusals.proofs.AcceptedLaws.{accepted}
use Rattle.area.specs.Rooms.{edition1_roomy}
use Rattle.preparation.specs.Stages.{Stood}
use Rattle.founded.proofs.CallLaws.{output_words, work_fits}
use Rattle.undecided.proofs.LengthLaws.{outputs_fit}
use Rattle.undecided.proofs.CallLaws.{absorbed_refused, listed}
use Rattle.undecided.proofs.undecided_accepted.Goals as goal

pub bases_of-b-requires : goal.bases_of-b-requires
bases_of-b-requires c = let a = accepted edition1 _ c.requires.accepted in (a, edition1_roomy a c.requires.area)

pub stand-requires : goal.stand-requires
stand-requires c = (accepted edition1 _ c.requires.accepted, c.bases_of-b.ensures)

pub list_always-requires-clause-stands : goal.list_always-requires-clause-stands
unfolding Stood
list_always-requires-clause-stands c = (accepted edition1 _ c.requires.accepted, c.in-Ok.ensures.standing)

pub list_always-requires-clause-fits : goal.list_always-requires-clause-fits
list_always-requires-clause-fits c = output_words _ _ (outputs_fit _ _ _ _ _ _ _ c.requires.lengths).0 ∙ rw c.bases_of-b.ensures.atoms

pub list_sometimes-requires-clause-stands : goal.list_sometimes-requires-clause-stands
unfolding Stood
list_sometimes-requires-clause-stands c = (accepted edition1 _ c.requires.accepted, c.list_always.ensures.standing)

pub list_sometimes-requires-clause-fits : goal.list_sometimes-requires-clause-fits
list_sometimes-requires-clause-fits c = output_words _ _ (outputs_fit _ _ _ _ _ _ _ c.requires.lengths).1 ∙ rw c.bases_of-b.ensures.atoms

pub returns-in-Ok : goal.returns-in-Ok
unfolding Stood
returns-in-Ok c =
    listed _ _ _ _ _ _ _ _ c.requires.accepted c.requires.lengths c.requires.apart (work_fits edition1 c.args.graph.now _ c.requires.area) c.list_sometimes.new.work c.wipe.ensures
    (c.list_sometimes.ensures.size ∙ c.list_always.ensures.size ∙ c.in-Ok.ensures.size) c.in-Ok.ensures.row c.list_always.ensures.list c.list_sometimes.ensures.list

pub returns-in-Err : goal.returns-in-Err
unfolding Stood
returns-in-Err c = absorbed_refused _ _ _ _ _ _ _ _ c.requires.accepted c.requires.lengths c.requires.apart (work_fits edition1 c.args.graph.now _ c.requires.area) _ c.wipe-in-Err.ensures c.in-Err.ensures
