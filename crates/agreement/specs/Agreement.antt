-- When a call agrees with what is recorded of it. Output and work area are soiled before a call, so that a word left alone or wrongly cleared shows.
use Rattle.std.specs.Prelude.{◌≡◌, Bool, true, ◌||◌, cond, List, ◌↔◌, ℕ, eqb, length, replicate}
use Rattle.theory.specs.Accepted.{edition1}
use Rattle.refusals.specs.Answer.{refuse}
use Rattle.refusals.specs.Refusals.{graph_answer}
use Rattle.report.specs.Report.{report_text}
use Rattle.abi.specs.Codes.{code_of, Needed, PreparedAs, CompletedAs}

-- n words of a soiled work area, and of a soiled output
abbrev pub soiled : ℕ → List ℕ
soiled n = replicate n 21845

abbrev pub soiled_wide : ℕ → List ℕ
soiled_wide n = replicate n 6148914691236517205

-- the output of k words that is right: the recorded words after success, and after a refusal soil
abbrev pub right_output : (number : ℕ) → List ℕ → ℕ → List ℕ
right_output number words k = cond (eqb number 0) words (soiled_wide k)

-- the work area of n words that is right: cleared after success and after 12, and else soil
abbrev pub right_work : (number n : ℕ) → List ℕ
right_work number n = cond (eqb number 0 || eqb number 12) (replicate n 0) (soiled n)

-- an answer's code and what the call left, beside what is recorded: number, place and words
pub record Agrees (number place : ℕ) (words : List ℕ) (code : ℕ) (output work : List ℕ) : Type 0 where
  pub code_right : code ≡ code_of 65536 (refuse number place)
  pub output_right : output ≡ right_output number words (length output)
  pub work_right : work ≡ right_work number (length work)

-- the loop test's number: the recorded reply, or the recorded refusal
abbrev pub needed_code : (number place reply : ℕ) → ℕ
needed_code number place reply = cond (eqb number 0) reply (code_of 65536 (refuse number place))

-- What each comparison promises of its reply r. The graph check: r is yes exactly if number and place are those of the graph.
abbrev pub CheckAgrees : (graph : List ℕ) (number place : ℕ) → Bool → Type 0
CheckAgrees graph number place r = (r ≡ true) ↔ (graph_answer edition1 graph ≡ refuse number place)

-- the loop test over a soiled work area of n words
pub record NeededAgrees (graph : List ℕ) (n number place reply : ℕ) (r : Bool) : Type 0 where
  pub code : ℕ
  pub work : List ℕ
  pub promised : Needed 65536 edition1 graph (soiled n) work code
  pub told : (r ≡ true) ↔ ((code ≡ needed_code number place reply) × (work ≡ right_work number (length work)))

-- a call that promises this of the output and the work area that it leaves and of its code
pub record OutcomeAgrees (Promised : (output work : List ℕ) (code : ℕ) → Type 0) (number place : ℕ) (words : List ℕ) (r : Bool) : Type 0 where
  pub code : ℕ
  pub output : List ℕ
  pub work : List ℕ
  pub promised : Promised output work code
  pub told : (r ≡ true) ↔ Agrees number place words code output work

-- preparation and pass over a soiled output of k words and a soiled work area of n words
abbrev pub PrepareAgrees : (graph : List ℕ) (k n number place : ℕ) (words : List ℕ) → Bool → Type 0
PrepareAgrees graph k n = OutcomeAgrees (PreparedAs 65536 edition1 graph (soiled_wide k) (soiled n))

abbrev pub CompleteAgrees : (graph never atom_never : List ℕ) (k n number place : ℕ) (words : List ℕ) → Bool → Type 0
CompleteAgrees graph never atom_never k n = OutcomeAgrees (CompletedAs 65536 edition1 graph never atom_never (soiled_wide k) (soiled n))

-- the program's text
abbrev pub ProgramAgrees : (input text : List ℕ) → Bool → Type 0
ProgramAgrees input text r = (r ≡ true) ↔ (report_text input ≡ text)
