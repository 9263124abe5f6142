use mathlib.Core.Path.{refl, ap, ◌∙◌}
use native.Mathlib.Omega.{arith}
use lib.ListN.{replicate}
use Rattle.refusals.proofs.AcceptedLaws.{accepted}
use Rattle.words.proofs.NumberLaws.{numbers_length}
use Rattle.preparation.proofs.StageLaws.{stood_standing}
use Rattle.preparation.specs.Stages.{Stood}
use Rattle.founded.specs.Answers.{complete_answer}
use Rattle.founded.specs.declared.CallError.TheVariants.{Absorbed}
use Rattle.founded.proofs.OutcomeLaws.{all_accept, absorbed_refused, done}
use Rattle.founded.proofs.CallLaws.{not_zero, completes, output_words, output_fits, work_fits}
use Rattle.within.proofs.CallWithinLaws.{within_refused, within_done, within_exceeded}
use Rattle.within.proofs.complete_accepted.Goals as goal

pub bases_of-b-requires : goal.bases_of-b-requires
bases_of-b-requires g c = let a = accepted g.W.Word.edition (g.W.Word.numbers c.args.graph.now) c.requires.0 in (a, rw (← numbers_length g.met.W.Word.each c.args.work.now, c.requires.2) (g.met.W.Area.roomy (g.W.Word.numbers c.args.graph.now) a))

pub stand-requires : goal.stand-requires
stand-requires g c = (accepted g.W.Word.edition (g.W.Word.numbers c.args.graph.now) c.requires.0, rw (numbers_length g.met.W.Word.each c.args.work.now) c.bases_of-b.ensures)

pub pass_within-requires : goal.pass_within-requires
pass_within-requires g c = (accepted g.W.Word.edition (g.W.Word.numbers c.args.graph.now) c.requires.0, (stood_standing _ _ _ _ _ _ _ c.in-Ok.ensures).standing)

pub hand_out-requires : goal.hand_out-requires
hand_out-requires g c =
    let k = stood_standing _ _ _ _ _ _ _ c.in-Ok.ensures in (
      omega (arith, numbers_length g.met.W.Word.each c.args.work.now, c.in-Some.ensures.size, k.size, c.bases_of-b.ensures.laid, c.bases_of-b.ensures.ends),
      output_words _ _ (output_fits _ _ _ _ c.requires.1) ∙ rw c.bases_of-b.ensures.atoms,
    )

pub returns-in-Some : goal.returns-in-Some
returns-in-Some g c =
    let k = stood_standing _ _ _ _ _ _ _ c.in-Ok.ensures in let p = c.in-Some.ensures in
    within_done c.args.allowance
    (completes
    (done g.W.Word.edition _ _ _ _ c.requires.0 c.requires.1 (work_fits g.W.Word.edition (g.W.Word.numbers c.args.graph.now) _ c.requires.2) (g.W.Word.numbers c.pass_within.new.work) c.hand_out.ensures.words_after c.bases_of-b.result.dependencies c.bases_of-b.ensures.atoms (p.size ∙ k.size) k.row p.flags c.hand_out.ensures.output_after)
    (λ q. refl))
    (omega (arith, p.paid))

pub returns-in-None : goal.returns-in-None
unfolding complete_answer
returns-in-None g c =
    let k = stood_standing _ _ _ _ _ _ _ c.in-Ok.ensures in let e = c.in-None.ensures in
    within_exceeded c.args.allowance
    (all_accept g.W.Word.edition _ c.requires.0 c.requires.1 (work_fits g.W.Word.edition (g.W.Word.numbers c.args.graph.now) _ c.requires.2) k.row)
    (omega (arith, e.beyond)) (c.wipe.ensures ∙ ap (λ (n : _). replicate n 0) (e.size ∙ k.size))

pub returns-in-Err : goal.returns-in-Err
unfolding Stood
returns-in-Err g c =
    within_refused c.args.allowance (Absorbed c.in-Err.absorbed.node)
    (completes (absorbed_refused g.W.Word.edition _ _ _ _ c.requires.0 c.requires.1 (work_fits g.W.Word.edition (g.W.Word.numbers c.args.graph.now) _ c.requires.2) _ c.wipe-in-Err.ensures c.in-Err.ensures) (not_zero refl))
