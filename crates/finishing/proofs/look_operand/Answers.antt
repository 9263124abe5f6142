use native.Mathlib.Omega.{arith}
use Rattle.finishing.proofs.LookLaws.{node_done}
use Rattle.finishing.proofs.PassedLaws.{cursor_under, here, looking, found_none}
use Rattle.finishing.proofs.EntryLaws.{top_node, operand_place, operand_found, operand_passed}
use Rattle.finishing.proofs.look_operand.Goals as goal

pub overflow_add-place : goal.overflow_add-place
overflow_add-place g c = let p = cursor_under c.requires.1.top.2 in omega arith

pub at-requires : goal.at-requires
at-requires g c = here c.requires.1.top.2

pub returns-then-at-eq0 : goal.returns-then-at-eq0
returns-then-at-eq0 g c = found_none (node_done c.requires.0 (looking c.requires.1.top.2) c.requires.1.high c.at.ensures.0 c.if-at-eq0.true)

pub operand-operand-requires : goal.operand-operand-requires
operand-operand-requires g c = top_node c.requires.0 c.requires.1

pub is_new-new-requires : goal.is_new-new-requires
is_new-new-requires g c = operand_place c.requires.0 c.requires.1 (rw c.at.ensures.0 at c.if-at-eq0.false) c.operand-operand.ensures

pub returns-then-new : goal.returns-then-new
returns-then-new g c = rw c.put.ensures (operand_found c.requires.0 c.requires.1 (rw c.at.ensures.0 at c.if-at-eq0.false) c.operand-operand.ensures c.is_new-new.ensures c.if-new.true)

pub returns : goal.returns
returns g c = rw c.put.ensures (operand_passed c.requires.0 c.requires.1 (rw c.at.ensures.0 at c.if-at-eq0.false) c.operand-operand.ensures c.is_new-new.ensures c.if-new.false)
