use Rattle.components.proofs.FlagLaws.{Flagging}
use Rattle.components.proofs.flag.Given as goal

abbrev pub invariant-loop-i : goal.invariant-loop-i
invariant-loop-i g l = Flagging (g.W.Word.numbers l.graph) l.b (g.W.Word.numbers l.initial.work) (g.W.Word.numbers l.work) l.fn.members.start l.fn.members.end l.i
