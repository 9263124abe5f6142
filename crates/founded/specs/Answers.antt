-- What preparation and pass answer and leave (document 01, "Where a call is turned away"): number and place of each case, the rows of each call,
-- and for each call what it leaves after an answer, and its promise.
use Rattle.std.specs.Prelude.{◌≡◌, ◌↔◌, Bool, not, ◌||◌, cond, List, [], ◌∷◌, ◌++◌, ℕ, ◌<◌, eqb, ltb, length, get_or, replicate, Result, Ok, Err}
use Rattle.theory.specs.Sets.{Set, Is}
use Rattle.theory.specs.Words.{theory_of, bit_at}
use Rattle.theory.specs.Accepted.{Edition, area_of}
use Rattle.theory.specs.Founded.{cyclic, missing}
use Rattle.theory.specs.Unfounded.{OnClosedWalk, Unfounded}
use Rattle.mask.specs.Mask.{words_of, pack}
use Rattle.refusals.specs.Answer.{Answer, accept, refuse, refuse_if, first_refusal}
use Rattle.refusals.specs.Refusals.{graph_rows, absorbed_row, refused_as}
use Rattle.founded.specs.declared.CallError.{CallError}
use Rattle.founded.specs.declared.CallError.TheVariants.{Refused, Lengths, Work, Absorbed}

-- number and place of each case of `CallError`
abbrev pub turned_as : CallError → Answer
turned_as (Refused e) = refused_as e
turned_as Lengths = refuse 10 0
turned_as Work = refuse 11 0
turned_as (Absorbed n) = refuse 12 n

-- what a call answers
abbrev pub call_of : Result (Unit {0}) CallError → Answer
call_of (Ok u) = accept
call_of (Err e) = turned_as e

-- 10: a mask over so many numbers may be shorter than its full length, and not longer; an output has exactly that length
abbrev pub bad_mask : (count words : ℕ) → Bool
bad_mask count words = ltb (words_of count) words

abbrev pub bad_output : (count words : ℕ) → Bool
bad_output count words = not (eqb words (words_of count))

unfoldable pub bad_lengths : List ℕ → (n a o : ℕ) → Bool
bad_lengths ws n a o = bad_mask (get_or ws 2 0) n || (bad_mask (get_or ws 1 0) a || bad_output (get_or ws 1 0) o)

-- 11: another length of the work area
abbrev pub bad_work : Edition → List ℕ → ℕ → Bool
bad_work ed ws w = not (eqb w (area_of ed (theory_of ws)))

-- the graph's rows, then 10, 11 and 12; lengths and area are the tests of 10 and 11
abbrev pub call_answer : Edition → List ℕ → (lengths area : Bool) → Answer
call_answer ed ws lengths area = first_refusal (graph_rows ed ws ++ (refuse_if 10 lengths ∷ refuse_if 11 area ∷ absorbed_row (theory_of ws) ∷ []))

-- n, a, o, w: the lengths of node mask, atom mask, output and work area
unfoldable pub prepare_answer : Edition → List ℕ → (o w : ℕ) → Answer
prepare_answer ed ws o w = call_answer ed ws (bad_output (get_or ws 1 0) o) (bad_work ed ws w)

unfoldable pub complete_answer : Edition → List ℕ → (n a o w : ℕ) → Answer
complete_answer ed ws n a o w = call_answer ed ws (bad_lengths ws n a o) (bad_work ed ws w)

-- the output and the work area after an answer of that number: success writes the set, and success and 12 clear the work area
abbrev pub output_left : (number atoms : ℕ) → Set → List ℕ → List ℕ
output_left number atoms s output = cond (eqb number 0) (pack atoms s) output

abbrev pub work_left : (number : ℕ) → List ℕ → List ℕ
work_left number work = cond (eqb number 0 || eqb number 12) (replicate (length work) 0) work

-- what preparation leaves after an answer of that number: the output lists the cyclic atoms
pub record PrepareLeaves (graph output work output' work' : List ℕ) (number : ℕ) : Type 0 where
  pub output_after : output' ≡ output_left number (get_or graph 1 0) (cyclic (theory_of graph)) output
  pub work_after : work' ≡ work_left number work
  -- on success a bit of the output is set exactly if its atom is on a closed walk
  pub closed_walk : number ≡ 0 → (a : ℕ) → Is (bit_at output' a) ↔ ((a < (theory_of graph).atoms) × OnClosedWalk (theory_of graph) a)

pub record Prepares (ed : Edition) (graph output work output' work' : List ℕ) (r : Result (Unit {0}) CallError) : Type 0 where
  pub answer : call_of r ≡ prepare_answer ed graph (length output) (length work)
  pub done : (call_of r).number ≡ 0 → r ≡ Ok (tt {0})
  pub leaves : PrepareLeaves graph output work output' work' (call_of r).number

-- what the pass leaves after an answer of that number: the output lists the missing atoms
pub record CompleteLeaves (graph never atom_never output work output' work' : List ℕ) (number : ℕ) : Type 0 where
  pub output_after : output' ≡ output_left number (get_or graph 1 0) (missing (theory_of graph) (bit_at never) (bit_at atom_never)) output
  pub work_after : work' ≡ work_left number work
  -- demand 3: on success a bit of the output is set exactly if its atom lies in some unfounded set
  pub demand_3 : number ≡ 0 → (a : ℕ) → Is (bit_at output' a) ↔ ((u : Set) × Unfounded (theory_of graph) (bit_at never) (bit_at atom_never) u × Is (u a))

pub record Completes (ed : Edition) (graph never atom_never output work output' work' : List ℕ) (r : Result (Unit {0}) CallError) : Type 0 where
  pub answer : call_of r ≡ complete_answer ed graph (length never) (length atom_never) (length output) (length work)
  pub done : (call_of r).number ≡ 0 → r ≡ Ok (tt {0})
  pub leaves : CompleteLeaves graph never atom_never output work output' work' (call_of r).number
