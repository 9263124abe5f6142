use native.Mathlib.Omega.{arith}
use Rattle.words.proofs.NumberLaws.{numbers_length}
use Rattle.finishing.proofs.CursorLaws.{node_low}
use Rattle.finishing.proofs.PlaceLaws.{atoms_are}
use Rattle.finishing.proofs.DescentLaws.{stepped_onward}
use Rattle.finishing.proofs.PassedLaws.{top_under, done_finishing, done_step, vertex_meeting, vertex_step}
use Rattle.finishing.proofs.Tops.through.Goals as goal

pub node_kind-requires : goal.node_kind-requires
node_kind-requires g c = (c.requires.0, node_low _ c.requires.0 (top_under c.requires.1) (atoms_are c.requires.1.walking.ready.based) (omega arith))

pub finish-requires : goal.finish-requires
finish-requires g c =
    let holds = g.met.W.Word.holds in
    let long = numbers_length g.met.W.Word.each c.args.work.now in
    done_finishing c.requires.1 c.in-None.ensures c.requires.0 (omega arith)

pub meet-requires : goal.meet-requires
meet-requires g c = (c.requires.0, vertex_meeting c.requires.1 c.requires.0 c.in-Some.ensures)

pub returns-in-None : goal.returns-in-None
returns-in-None g c = rw (c.finish.ensures.0, c.finish.ensures.1, c.finish.ensures.2) (stepped_onward (done_step c.requires.1 c.in-None.ensures))

pub returns-in-Some : goal.returns-in-Some
returns-in-Some g c = rw (c.meet.ensures.0, c.meet.ensures.1, c.meet.ensures.2) (stepped_onward (vertex_step c.requires.1 c.requires.0 c.in-Some.ensures))
