-- What the contracts of the loop test and of the pass say on a case of document 01, whatever output of ⌈A/64⌉ words and work area of 32,768 words the
-- call is lent. That it is the row's outcome in each row of the table: proofs/ShownLaws.
use Rattle.std.specs.Prelude.{◌≡◌, List, ℕ, length, get_or, Result}
use Rattle.theory.specs.Sets.{members}
use Rattle.theory.specs.Words.{bit_at}
use Rattle.theory.specs.Accepted.{edition1}
use Rattle.theory.specs.Cases.{Outcome, lists, refused, Case}
use Rattle.mask.specs.Mask.{words_of}
use Rattle.refusals.specs.Answer.{Answer, accept, refuse}
use Rattle.cycles.specs.Outcome.{loops, outcome}
use Rattle.founded.specs.Answers.{call_of, Completes}
use Rattle.founded.specs.declared.CallError.{CallError}

-- an outcome, of an answer and of the output before and after it: success with that list in the output's bits, or that refusal with the output as it was
abbrev pub Shows : Outcome → (atoms : ℕ) (a : Answer) (output output' : List ℕ) → Type 0
Shows (lists l) atoms a output output' = (a ≡ accept) × (members atoms (bit_at output') ≡ l)
Shows (refused number place) atoms a output output' = (a ≡ refuse number place) × (output' ≡ output)

-- the words that the calls of a row are lent
abbrev pub lent : Case → List ℕ
lent c = c.words

abbrev pub LoopTest : Case → Type 0
LoopTest c = (work : List ℕ) → length work ≡ 32768 → outcome edition1 (lent c) work ≡ loops c.cycle

abbrev pub Pass : Case → Type 0
Pass c =
    (output work output' work' : List ℕ) (r : Result (Unit {0}) CallError) → length output ≡ words_of (get_or (lent c) 1 0) → length work ≡ 32768
    → Completes edition1 (lent c) c.never c.atom_never output work output' work' r → Shows c.result (get_or (lent c) 1 0) (call_of r) output output'

-- both calls give the row's outcome
unfoldable pub Shown : Case → Type 0
Shown c = LoopTest c × Pass c
