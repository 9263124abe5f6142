use Rattle.std.proofs.Common.{◌≡◌, ◌+◌, min}
use Rattle.recording.proofs.Reader.skip.Given as goal

abbrev pub invariant-loop : goal.invariant-loop
invariant-loop g l = l.self.words ≡ min (l.fn.self.words + l.counter) 18446744073709551615
