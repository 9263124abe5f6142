-- What the pass within an allowance answers and leaves (document 02, request 8): the rows of the pass, and 15 after them.
use Rattle.std.specs.Prelude.{◌≡◌, cond, List, ℕ, ◌-◌, eqb, ltb, length, Result, Ok, Err}
use Rattle.theory.specs.Words.{theory_of, bit_at}
use Rattle.theory.specs.Accepted.{Edition}
use Rattle.theory.specs.Work.{work}
use Rattle.refusals.specs.Answer.{Answer, accept, refuse, refuse_if, or_next}
use Rattle.founded.specs.Answers.{turned_as, complete_answer, CompleteLeaves}
use Rattle.within.specs.declared.WithinError.{WithinError}
use Rattle.within.specs.declared.WithinError.TheVariants.{Call, Allowance}

-- number and place of each case of `WithinError`, and what a call answers
abbrev pub within_as : WithinError → Answer
within_as (Call e) = turned_as e
within_as Allowance = refuse 15 0

abbrev pub within_of : {A : Type 0} → Result A WithinError → Answer
within_of (Ok a) = accept
within_of (Err e) = within_as e

-- the rows of the pass, then 15: the count exceeds the allowance. n, a, o, w: the lengths of node mask, atom mask, output and work area
unfoldable pub within_answer : Edition → List ℕ → (n a o w allowance count : ℕ) → Answer
within_answer ed ws n a o w allowance count = or_next (complete_answer ed ws n a o w) (refuse_if 15 (ltb allowance count))

-- what is left of the allowance after an answer of that number: success takes the count, 15 leaves 0
abbrev pub allowance_left : (number allowance count : ℕ) → ℕ
allowance_left number allowance count = cond (eqb number 0) (allowance - count) (cond (eqb number 15) 0 allowance)

-- 15 leaves output and work area as 12 does: the one as it was, the other all 0
abbrev pub leaves_as : ℕ → ℕ
leaves_as number = cond (eqb number 15) 12 number

-- the count of a lone pass on a graph's words, under the cuts of the masks
abbrev pub work_of : (graph never atom_never : List ℕ) → ℕ
work_of graph never atom_never = work (theory_of graph) (bit_at never) (bit_at atom_never)

-- what the pass within an allowance leaves after an answer of that number: on success the list of the lone pass, and the allowance without the count
pub record WithinLeaves (graph never atom_never output work : List ℕ) (allowance : ℕ) (output' work' : List ℕ) (left number : ℕ) : Type 0 where
  pub list : CompleteLeaves graph never atom_never output work output' work' (leaves_as number)
  pub meter : left ≡ allowance_left number allowance (work_of graph never atom_never)

pub record CompletesWithin (ed : Edition) (graph never atom_never output work : List ℕ) (allowance : ℕ) (output' work' : List ℕ) (left : ℕ) (a : Answer) : Type 0 where
  pub answer : a ≡ within_answer ed graph (length never) (length atom_never) (length output) (length work) allowance (work_of graph never atom_never)
  pub leaves : WithinLeaves graph never atom_never output work allowance output' work' left a.number

-- what is left after the pass that hands it back
abbrev pub left_of : (allowance : ℕ) → Result ℕ WithinError → ℕ
left_of allowance (Ok left) = left
left_of allowance (Err (Call e)) = allowance
left_of allowance (Err Allowance) = 0
