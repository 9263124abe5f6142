use Rattle.std.proofs.Common.{◌≡◌, ◌+◌, ◌*◌, min}
use Rattle.arrayvec.specs.ArrayVec.{array_vec_len}
use Rattle.recording.proofs.Reader.bytes.Given as goal

abbrev pub invariant-loop : goal.invariant-loop
invariant-loop g l =
    (l.self.words ≡ min (l.fn.self.words + l.counter) 18446744073709551615) ×
    (array_vec_len l.bytes ≡ 2 * l.counter)
