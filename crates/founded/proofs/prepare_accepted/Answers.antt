use mathlib.Core.Path.{refl}
use Rattle.refusals.proofs.AcceptedLaws.{accepted}
use Rattle.words.proofs.NumberLaws.{numbers_length}
use Rattle.preparation.specs.Flags.{Marked}
use Rattle.founded.proofs.OutcomeLaws.{absorbed_refused, done}
use Rattle.founded.proofs.CallLaws.{not_zero, prepares, work_fits}
use Rattle.founded.proofs.prepare_accepted.Goals as goal

pub bases_of-b-requires : goal.bases_of-b-requires
bases_of-b-requires g c = let a = accepted g.W.Word.edition (g.W.Word.numbers c.args.graph.now) c.requires.0 in (a, rw (← numbers_length g.met.W.Word.each c.args.work.now, c.requires.2) (g.met.W.Area.roomy (g.W.Word.numbers c.args.graph.now) a))

pub cyclic_atoms-requires : goal.cyclic_atoms-requires
cyclic_atoms-requires g c = (accepted g.W.Word.edition (g.W.Word.numbers c.args.graph.now) c.requires.0, rw (numbers_length g.met.W.Word.each c.args.work.now) c.bases_of-b.ensures)

pub returns-in-Ok : goal.returns-in-Ok
unfolding Marked
returns-in-Ok g c =
    let k = c.in-Ok.ensures in
    prepares
    (done g.W.Word.edition _ _ _ _ c.requires.0 c.requires.1 (work_fits g.W.Word.edition (g.W.Word.numbers c.args.graph.now) _ c.requires.2) (g.W.Word.numbers c.cyclic_atoms.new.work) c.hand_out.ensures.words_after c.bases_of-b.result.cyclic_atoms c.bases_of-b.ensures.atoms k.size k.row k.flags c.hand_out.ensures.output_after)
    (λ q. refl)

pub returns-in-Err : goal.returns-in-Err
unfolding Marked
returns-in-Err g c = prepares (absorbed_refused g.W.Word.edition _ _ _ _ c.requires.0 c.requires.1 (work_fits g.W.Word.edition (g.W.Word.numbers c.args.graph.now) _ c.requires.2) _ c.wipe.ensures c.in-Err.ensures) (not_zero refl)
