use Rattle.std.proofs.Common.{◌≡◌, ◌+◌, min}
use Rattle.recording.proofs.Reader.fill_bytes.Given as goal

abbrev pub invariant-loop-k : goal.invariant-loop-k
invariant-loop-k g l = l.self.words ≡ min (l.fn.self.words + l.k) 18446744073709551615

abbrev pub invariant-loop-byte : goal.invariant-loop-byte
invariant-loop-byte g l =
    (goal.iterator-loop-byte g).can_next l.byte-iterator ×
    (goal.iterator-loop-byte g).is_finite l.byte-iterator
