use borrow.Author.Rules.{rules}
use Rattle.projection.proofs.KeepLaws.{step_room, step_mark, step_keeps}
use Rattle.projection.proofs.KeepStepU16.step.Goals as goal

pub put-requires : goal.put-requires
put-requires c = (step_room c.requires, (step_mark c.requires).1)

pub overflow_add-self : goal.overflow_add-self
overflow_add-self c = let m = (step_mark c.requires).0 in search rules

pub at-requires : goal.at-requires
at-requires c = (step_mark c.requires).0

pub returns : goal.returns
returns c = rw c.put.ensures (step_keeps c.requires c.at.ensures.0)
