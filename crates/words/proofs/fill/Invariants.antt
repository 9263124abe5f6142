use Rattle.std.proofs.Common.{◌≡◌, ◌++◌, drop, replicate}
use Rattle.words.proofs.fill.Given as goal

abbrev pub invariant-loop-i : goal.invariant-loop-i
invariant-loop-i g l = g.W.Word.numbers l.words ≡ replicate l.i (g.W.Word.number l.x) ++ drop l.i (g.W.Word.numbers l.initial.words)
