use mathlib.Core.Path.{refl, ◌∙◌}
use native.Mathlib.Omega.{arith}
use Rattle.refusals.proofs.AcceptedLaws.{accepted}
use Rattle.words.proofs.NumberLaws.{numbers_length}
use Rattle.preparation.specs.Flags.{Listed}
use Rattle.founded.proofs.OutcomeLaws.{absorbed_refused, done}
use Rattle.founded.proofs.CallLaws.{not_zero, output_words, output_fits, work_fits}
use Rattle.unfounded.proofs.ListLaws.{lists}
use Rattle.unfounded.proofs.unfounded_accepted.Goals as goal

pub bases_of-b-requires : goal.bases_of-b-requires
bases_of-b-requires g c = let a = accepted g.W.Word.edition (g.W.Word.numbers c.args.graph.now) c.requires.0 in (a, rw (← numbers_length g.met.W.Word.each c.args.work.now, c.requires.2) (g.met.W.Area.roomy (g.W.Word.numbers c.args.graph.now) a))

pub missing_all-requires : goal.missing_all-requires
missing_all-requires g c = (accepted g.W.Word.edition (g.W.Word.numbers c.args.graph.now) c.requires.0, rw (numbers_length g.met.W.Word.each c.args.work.now) c.bases_of-b.ensures)

pub hand_out-requires : goal.hand_out-requires
unfolding Listed
hand_out-requires g c =
    let k = c.in-Ok.ensures in
    (omega (arith, numbers_length g.met.W.Word.each c.args.work.now, k.size, c.bases_of-b.ensures.laid, c.bases_of-b.ensures.ends), output_words _ _ (output_fits _ _ _ _ c.requires.1) ∙ rw c.bases_of-b.ensures.atoms)

pub returns-in-Ok : goal.returns-in-Ok
unfolding Listed
returns-in-Ok g c =
    let k = c.in-Ok.ensures in
    lists
    (done g.W.Word.edition _ _ _ _ c.requires.0 c.requires.1 (work_fits g.W.Word.edition (g.W.Word.numbers c.args.graph.now) _ c.requires.2) (g.W.Word.numbers c.missing_all.new.work) c.hand_out.ensures.words_after c.bases_of-b.result.dependencies c.bases_of-b.ensures.atoms k.size k.row k.flags c.hand_out.ensures.output_after)
    (λ q. refl)

pub returns-in-Err : goal.returns-in-Err
unfolding Listed
returns-in-Err g c = lists (absorbed_refused g.W.Word.edition _ _ _ _ c.requires.0 c.requires.1 (work_fits g.W.Word.edition (g.W.Word.numbers c.args.graph.now) _ c.requires.2) _ c.wipe.ensures c.in-Err.ensures) (not_zero refl)
