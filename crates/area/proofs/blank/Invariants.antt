use Rattle.area.proofs.WipeLaws.{BlankTo}
use Rattle.area.proofs.blank.Given as goal

abbrev pub invariant-loop-word : goal.invariant-loop-word
invariant-loop-word g l = BlankTo (g.W.Word.numbers l.words) (g.W.Word.number l.all) l.word-index
