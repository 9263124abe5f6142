use native.Mathlib.Omega.{arith}
use Rattle.words.proofs.NumberLaws.{numbers_length}
use Rattle.finishing.proofs.EntryLaws.{row_begin, row_cursor, row_rises, row_few, row_done, row_place, row_producer, fact_passed, body_place, body_found, body_passed}
use Rattle.finishing.proofs.look_atom.Goals as goal
use Rattle.finishing.proofs.look_atom.Goals.{in-Some+else-is_new, in_default}

pub overflow_sub-cursor-end : goal.overflow_sub-cursor-end
overflow_sub-cursor-end g c = row_rises c.requires.0 c.requires.1.2 c.requires.2 (row_begin c.row_start-start.ensures c.row_start-end.ensures c.at-cursor.ensures.0)

pub at-requires : goal.at-requires
at-requires g c = row_place c.requires.0 c.requires.1.2 c.requires.2 c.loop-cursor.invariant (omega arith)

pub body_node-requires : goal.body_node-requires
body_node-requires g c = row_producer c.requires.0 c.requires.1.2 c.requires.2 c.loop-cursor.invariant (omega arith) c.at.ensures.0

pub overflow_add-b : goal.overflow_add-b
overflow_add-b g c =
    let holds = g.met.W.Word.holds in
    let long = numbers_length g.met.W.Word.each c.loop-cursor.work in
    let p = body_place c.requires.0 c.requires.1.2 c.requires.2 c.loop-cursor.invariant (omega arith) c.at.ensures.0 c.in-Some.ensures in omega arith

pub is_new-requires : goal.is_new-requires
is_new-requires g c = body_place c.requires.0 c.requires.1.2 c.requires.2 c.loop-cursor.invariant (omega arith) c.at.ensures.0 c.in-Some.ensures

pub put-requires : goal.put-requires
put-requires g c =
    let holds = g.met.W.Word.holds in
    let f = row_few c.requires.0 c.requires.1.2 c.requires.2 c.loop-cursor.invariant in
    (row_cursor c.requires.0 c.requires.1.2 c.requires.2 c.loop-cursor.invariant, omega arith)

pub overflow_add-result : goal.overflow_add-result
overflow_add-result g c =
    let holds = g.met.W.Word.holds in
    let long = numbers_length g.met.W.Word.each c.loop-cursor.work in
    let p = body_place c.requires.0 c.requires.1.2 c.requires.2 c.loop-cursor.invariant (omega arith) c.at.ensures.0 c.in-Some.ensures in omega arith

pub returns-then-is_new : goal.returns-then-is_new
returns-then-is_new g c = rw c.put.ensures (body_found c.requires.0 c.requires.1.2 c.requires.2 c.loop-cursor.invariant (omega arith) c.at.ensures.0 c.in-Some.ensures c.is_new.ensures c.if-is_new.true)

pub loop-cursor-preserved : goal.loop-cursor-preserved
loop-cursor-preserved g c = elim c.match-body_node.branch [
  | in-Some+else-is_new w ↦ body_passed c.requires.0 c.requires.1.2 c.requires.2 c.loop-cursor.invariant (omega arith) c.at.ensures.0 w.in-Some.ensures w.is_new.ensures w.if-is_new.false
  | in_default w ↦ fact_passed c.requires.0 c.requires.1.2 c.requires.2 c.loop-cursor.invariant (omega arith) c.at.ensures.0 w.in_default.ensures
]

pub overflow_sub-end : goal.overflow_sub-end
overflow_sub-end g c = row_rises c.requires.0 c.requires.1.2 c.requires.2 c.loop-cursor.invariant

pub put-requires-2 : goal.put-requires-2
put-requires-2 g c =
    let holds = g.met.W.Word.holds in
    let f = row_few c.requires.0 c.requires.1.2 c.requires.2 c.loop-cursor.invariant in
    (row_cursor c.requires.0 c.requires.1.2 c.requires.2 c.loop-cursor.invariant, omega arith)

pub returns : goal.returns
returns g c = rw c.put-2.ensures (row_done c.requires.0 c.requires.1.2 c.requires.2 c.loop-cursor.invariant (omega arith))
