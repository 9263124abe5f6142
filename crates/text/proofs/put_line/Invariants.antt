use Rattle.std.proofs.Common.{◌≡◌, ◌++◌, take}
use Rattle.text.specs.Text.{spaced}
use Rattle.text.proofs.put_line.Given as goal

abbrev pub invariant-loop-n : goal.invariant-loop-n
invariant-loop-n g l = l.text.items ≡ l.fn.text.items ++ (l.word ++ spaced (take l.n-index l.numbers))
