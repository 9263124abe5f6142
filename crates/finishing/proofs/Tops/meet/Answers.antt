use native.Mathlib.Omega.{arith}
use lib.ListN.{length-set}
use Rattle.finishing.proofs.CursorLaws.{first_few}
use Rattle.finishing.proofs.PlaceLaws.{vertices_few, atoms_are, vertex_low, cursor_place, stack_place, mark_place}
use Rattle.finishing.proofs.Tops.meet.Goals as goal

pub overflow_add-b : goal.overflow_add-b
overflow_add-b g c = let p = vertex_low c.requires.1.ready.based _ c.requires.1.low in omega arith

pub put-requires : goal.put-requires
put-requires g c =
    let holds = g.met.W.Word.holds in
    (mark_place c.requires.1.ready.based c.args.v c.requires.1.low, omega arith)

pub overflow_add-b-2 : goal.overflow_add-b-2
overflow_add-b-2 g c = let p = vertex_low c.requires.1.ready.based _ c.requires.1.low in omega arith

pub first_entry-requires : goal.first_entry-requires
first_entry-requires g c = (c.requires.0, c.requires.1.low, atoms_are c.requires.1.ready.based)

pub put-requires-2 : goal.put-requires-2
put-requires-2 g c =
    let holds = g.met.W.Word.holds in
    let f = first_few _ c.requires.0 c.args.v c.requires.1.low in
    let e = c.first_entry.ensures in
    (rw (c.put.ensures, length-set) (cursor_place c.requires.1.ready.based c.args.v c.requires.1.low), omega arith)

pub overflow_add-b-3 : goal.overflow_add-b-3
overflow_add-b-3 g c = let p = vertex_low c.requires.1.ready.based _ c.requires.1.room in omega arith

pub put-requires-3 : goal.put-requires-3
put-requires-3 g c =
    let holds = g.met.W.Word.holds in
    let l = c.requires.1.low in
    let f = vertices_few c.requires.1.ready.based c.requires.0 in
    (rw (c.put-2.ensures, length-set, c.put.ensures, length-set) (stack_place c.requires.1.ready.based _ c.requires.1.room), omega arith)

pub overflow_add-result : goal.overflow_add-result
overflow_add-result g c = let p = vertex_low c.requires.1.ready.based _ c.requires.1.room in omega arith
