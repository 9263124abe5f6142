-- What the reader promises: words of two bytes, low first, which are counted; and once the recording is malformed, nothing changes any more.
use Rattle.std.specs.Prelude.{◌≡◌, List, ℕ, ◌+◌, ◌*◌, min, get_or, Result, Err, IfErr, OnOk}
use Rattle.recording.specs.declared.Malformed.{Malformed}
use Rattle.recording.specs.declared.Reader.{Reader}

abbrev pub word_at : List ℕ → ℕ → ℕ
word_at bytes at = get_or bytes at 0 + 256 * get_or bytes (at + 1) 0

module _ {R T : Type 0} where
  -- r is the reader before, s the one after: where r found the recording malformed, s is r, and the answer is the same error
  abbrev pub Keeps : (r s : Reader R) → Result T Malformed → Type 0
  Keeps r s result = (e : Malformed) → r.state ≡ Err e → (s ≡ r) × (result ≡ Err e)

  -- the reader keeps the error that it answers
  abbrev pub Tells : Reader R → Result T Malformed → Type 0
  Tells s result = IfErr result (λ e. s.state ≡ Err e)

  -- unless the answer is an error, n words more are read (the count stays at the largest number)
  abbrev pub Counts : ℕ → (r s : Reader R) → Result T Malformed → Type 0
  Counts n r s result = OnOk result (s.words ≡ min (r.words + n) 18446744073709551615)
