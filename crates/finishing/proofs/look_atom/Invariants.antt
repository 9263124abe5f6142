use Rattle.finishing.proofs.EntryLaws.{InRow}
use Rattle.finishing.proofs.look_atom.Given as goal

abbrev pub invariant-loop-cursor : goal.invariant-loop-cursor
invariant-loop-cursor g l = InRow (g.W.Word.numbers l.graph) l.b (g.W.Word.numbers l.initial.work) (g.W.Word.numbers l.work) l.a l.start l.end l.cursor
