use Rattle.std.proofs.Common.{◌≡◌, take}
use Rattle.input.specs.Bytes.{tabulate, word_at}
use Rattle.input.proofs.words.Given as goal

abbrev pub invariant-loop-i : goal.invariant-loop-i
invariant-loop-i g l = take l.i l.words ≡ tabulate (λ j. g.W.LittleEndian.of (word_at g.row.K l.fn.bytes j)) l.i
