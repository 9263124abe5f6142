use Rattle.std.proofs.Common.{◌≡◌, ◌+◌, ◌*◌, min}
use Rattle.recording.proofs.Reader.fill.Given as goal

abbrev pub invariant-loop-item : goal.invariant-loop-item
invariant-loop-item g l = l.self.words ≡ min (l.fn.self.words + l.item-index * g.T.Recorded.words) 18446744073709551615
