use Rattle.std.proofs.Common.{◌≡◌, ◌≤◌, ◌+◌, ◌-◌}
use Rattle.mask.specs.Mask.{bits, flagged}
use Rattle.mask.proofs.flag_word.Given as goal

abbrev pub invariant-loop-i : goal.invariant-loop-i
invariant-loop-i g l = (l.from ≤ l.i) × (l.word ≡ bits (flagged (g.W.Word.numbers l.flags)) l.i (l.from + 64 - l.i))
