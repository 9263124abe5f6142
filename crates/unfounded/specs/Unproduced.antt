-- What the call of request 6 answers and leaves. Its rows are those of the pass; it leaves another list.
use Rattle.std.specs.Prelude.{◌≡◌, ◌↔◌, false, List, ℕ, length, get_or, Result, Ok}
use Rattle.theory.specs.Sets.{Is}
use Rattle.theory.specs.Words.{theory_of, bit_at}
use Rattle.theory.specs.Accepted.{Edition}
use Rattle.theory.specs.EveryAtom.{missing_all}
use Rattle.theory.specs.Greatest.{Greatest}
use Rattle.founded.specs.Answers.{call_of, complete_answer, output_left, work_left}
use Rattle.founded.specs.declared.CallError.{CallError}

-- what it leaves after an answer of that number: the output lists the uncut atoms that are left unfounded with every atom marked
pub record UnfoundedLeaves (graph never atom_never output work output' work' : List ℕ) (number : ℕ) : Type 0 where
  pub output_after : output' ≡ output_left number (get_or graph 1 0) (missing_all (theory_of graph) (bit_at never) (bit_at atom_never)) output
  pub work_after : work' ≡ work_left number work
  -- on success a bit of the output is set exactly if its atom is not cut and lies in the greatest unfounded set
  pub greatest : number ≡ 0 → (a : ℕ) → Is (bit_at output' a) ↔ ((bit_at atom_never a ≡ false) × Greatest (theory_of graph) (bit_at never) (bit_at atom_never) a)

pub record ListsUnfounded (ed : Edition) (graph never atom_never output work output' work' : List ℕ) (r : Result (Unit {0}) CallError) : Type 0 where
  pub answer : call_of r ≡ complete_answer ed graph (length never) (length atom_never) (length output) (length work)
  pub done : (call_of r).number ≡ 0 → r ≡ Ok (tt {0})
  pub leaves : UnfoundedLeaves graph never atom_never output work output' work' (call_of r).number
