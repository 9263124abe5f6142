use mathlib.Core.Path.{refl}
use native.Mathlib.Omega.{arith}
use Rattle.words.proofs.NumberLaws.{numbers_length}
use Rattle.finishing.proofs.PassedLaws.{cursor_under, here, passed_none}
use Rattle.finishing.proofs.EntryLaws.{leaf_cursor, leaf_done, leaf_link, leaf_few, leaf_falls, leaf_place, leaf_found, leaf_passed}
use Rattle.finishing.proofs.look_leaf.Goals as goal

pub overflow_add-place : goal.overflow_add-place
overflow_add-place g c = let p = cursor_under c.requires.1.top.2 in omega arith

pub at-cursor-requires : goal.at-cursor-requires
at-cursor-requires g c = here c.requires.1.top.2

pub loop-cursor-init : goal.loop-cursor-init
loop-cursor-init g c = record { same = refl; passed = passed_none c.at-cursor.ensures.0 }

pub value-leaf-requires : goal.value-leaf-requires
value-leaf-requires g c = leaf_link c.requires.0 c.requires.1 c.loop-cursor.invariant c.loop-cursor-test.true c.links_from-from.ensures

pub next-cursor-requires : goal.next-cursor-requires
next-cursor-requires g c = leaf_link c.requires.0 c.requires.1 c.loop-cursor.invariant c.loop-cursor-test.true c.links_from-from.ensures

pub overflow_add-b : goal.overflow_add-b
overflow_add-b g c =
    let holds = g.met.W.Word.holds in
    let long = numbers_length g.met.W.Word.each c.loop-cursor.work in
    let p = leaf_place c.requires.0 c.requires.1 c.loop-cursor.invariant c.loop-cursor-test.true c.links_from-from.ensures c.next-cursor.ensures c.value-leaf.ensures in omega arith

pub is_new-requires : goal.is_new-requires
is_new-requires g c = leaf_place c.requires.0 c.requires.1 c.loop-cursor.invariant c.loop-cursor-test.true c.links_from-from.ensures c.next-cursor.ensures c.value-leaf.ensures

pub put-requires : goal.put-requires
put-requires g c =
    let holds = g.met.W.Word.holds in
    let long = numbers_length g.met.W.Word.each c.args.work.now in
    let f = leaf_few c.requires.0 c.requires.1 c.loop-cursor.invariant c.loop-cursor-test.true c.links_from-from.ensures c.next-cursor.ensures in
    (leaf_cursor c.requires.0 c.requires.1 c.loop-cursor.invariant, omega arith)

pub overflow_add-result : goal.overflow_add-result
overflow_add-result g c =
    let holds = g.met.W.Word.holds in
    let long = numbers_length g.met.W.Word.each c.loop-cursor.work in
    let p = leaf_place c.requires.0 c.requires.1 c.loop-cursor.invariant c.loop-cursor-test.true c.links_from-from.ensures c.next-cursor.ensures c.value-leaf.ensures in omega arith

pub returns-then-is_new : goal.returns-then-is_new
returns-then-is_new g c = rw c.put.ensures (leaf_found c.requires.0 c.requires.1 c.loop-cursor.invariant c.loop-cursor-test.true c.links_from-from.ensures c.next-cursor.ensures c.value-leaf.ensures c.is_new.ensures c.if-is_new.true)

pub loop-cursor-smaller : goal.loop-cursor-smaller
loop-cursor-smaller g c = leaf_falls c.requires.0 c.requires.1 c.loop-cursor.invariant c.loop-cursor-test.true c.links_from-from.ensures c.next-cursor.ensures

pub loop-cursor-preserved : goal.loop-cursor-preserved
loop-cursor-preserved g c = leaf_passed c.requires.0 c.requires.1 c.loop-cursor.invariant c.loop-cursor-test.true c.links_from-from.ensures c.next-cursor.ensures c.value-leaf.ensures c.is_new.ensures c.if-is_new.false

pub put-requires-2 : goal.put-requires-2
put-requires-2 g c = (leaf_cursor c.requires.0 c.requires.1 c.loop-cursor.invariant, omega arith)

pub returns : goal.returns
returns g c = rw c.put-2.ensures (leaf_done c.requires.0 c.requires.1 c.loop-cursor.invariant (omega arith))
