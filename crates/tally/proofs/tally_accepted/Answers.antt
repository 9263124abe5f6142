use mathlib.Core.Path.{refl, ◌∙◌}
use Rattle.theory.specs.Accepted.{edition1}
use Rattle.theory.specs.Words.{bit_at}
use Rattle.refusals.proofs.AcceptedLaws.{accepted}
use Rattle.area.specs.Rooms.{edition1_roomy}
use Rattle.preparation.specs.Stages.{Stood}
use Rattle.founded.proofs.CallLaws.{work_fits}
use Rattle.tally.proofs.EveryLaws.{places_low}
use Rattle.tally.proofs.CallLaws.{absorbed_refused, counted_all, lengths_fit, few_open}
use Rattle.tally.proofs.tally_accepted.Goals as goal

pub bases_of-bases-requires : goal.bases_of-bases-requires
bases_of-bases-requires c = let a = accepted edition1 _ c.requires.accepted in (a, edition1_roomy a c.requires.area)

pub stand-requires : goal.stand-requires
stand-requires c = (accepted edition1 _ c.requires.accepted, c.bases_of-bases.ensures)

pub every_choice-requires-clause-stands : goal.every_choice-requires-clause-stands
unfolding Stood
every_choice-requires-clause-stands c = (accepted edition1 _ c.requires.accepted, c.in-Ok.ensures.standing)

pub every_choice-requires-clause-fits : goal.every_choice-requires-clause-fits
every_choice-requires-clause-fits c =
    let few = (accepted edition1 _ c.requires.accepted).atoms_few in
    let f = lengths_fit _ _ _ _ _ few c.requires.lengths in
    (f.0 ∙ rw c.bases_of-bases.ensures.atoms refl, f.1, c.requires.listed.1, places_low (bit_at c.args.open_atoms.now) few c.requires.listed.0)

pub returns-in-Ok : goal.returns-in-Ok
unfolding Stood
returns-in-Ok c =
    counted_all _ _ _ _ _ _ c.requires.accepted c.requires.lengths c.requires.apart (few_open c.args.graph.now c.args.open_atoms.now c.requires.listed.0 c.requires.listed.1) (work_fits edition1 c.args.graph.now _ c.requires.area) c.every_choice.new.work c.wipe.ensures
    (c.every_choice.ensures.size ∙ c.in-Ok.ensures.size) c.in-Ok.ensures.row c.requires.listed.0 c.every_choice.ensures

pub returns-in-Err : goal.returns-in-Err
unfolding Stood
returns-in-Err c =
    absorbed_refused _ _ _ _ _ _ c.requires.accepted c.requires.lengths c.requires.apart (few_open c.args.graph.now c.args.open_atoms.now c.requires.listed.0 c.requires.listed.1) (work_fits edition1 c.args.graph.now _ c.requires.area) _ c.wipe-in-Err.ensures c.in-Err.ensures
