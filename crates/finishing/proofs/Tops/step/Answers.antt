use native.Mathlib.Omega.{arith}
use Rattle.words.proofs.NumberLaws.{numbers_length}
use Rattle.finishing.proofs.StepLaws.{top_place}
use Rattle.finishing.proofs.DescentLaws.{step_onward}
use Rattle.finishing.proofs.PassedLaws.{as_top, done_finishing, done_step, vertex_meeting, vertex_step, vertex_top}
use Rattle.finishing.proofs.Tops.step.Goals as goal

pub overflow_add-b : goal.overflow_add-b
overflow_add-b g c =
    let holds = g.met.W.Word.holds in
    let long = numbers_length g.met.W.Word.each c.args.work.now in
    let p = top_place c.requires.1 c.requires.2 in omega arith

pub at-v-requires : goal.at-v-requires
at-v-requires g c = top_place c.requires.1 c.requires.2

pub finish-requires : goal.finish-requires
finish-requires g c =
    let holds = g.met.W.Word.holds in
    let long = numbers_length g.met.W.Word.each c.args.work.now in
    done_finishing (as_top c.requires.1 c.requires.2 c.at-v.ensures.0) c.in-None.ensures c.requires.0 (omega arith)

pub meet-requires : goal.meet-requires
meet-requires g c = (c.requires.0, vertex_meeting (as_top c.requires.1 c.requires.2 c.at-v.ensures.0) c.requires.0 c.in-Some.ensures)

pub through-requires : goal.through-requires
through-requires g c = (c.requires.0, rw (c.meet.ensures.0, c.meet.ensures.1, c.meet.ensures.2) (vertex_top (as_top c.requires.1 c.requires.2 c.at-v.ensures.0) c.requires.0 c.in-Some.ensures))

pub returns-in-None : goal.returns-in-None
returns-in-None g c = rw (c.finish.ensures.0, c.finish.ensures.1, c.finish.ensures.2) (done_step (as_top c.requires.1 c.requires.2 c.at-v.ensures.0) c.in-None.ensures)

pub returns-in-Some : goal.returns-in-Some
returns-in-Some g c = step_onward (vertex_step (as_top c.requires.1 c.requires.2 c.at-v.ensures.0) c.requires.0 c.in-Some.ensures) (rw (c.meet.ensures.0, c.meet.ensures.2) at c.through.ensures)
