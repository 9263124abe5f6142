-- An answer as one number, and what each call promises of the number that it returns. lim is the number of values of a graph's word: 65,536 for words of 16 bits,
-- whose codes have 32 bits, and 4,294,967,296 for words of 32 bits, whose codes have 64.
use Rattle.std.specs.Prelude.{◌≡◌, ◌↔◌, cond, List, ℕ, ◌+◌, ◌*◌, ◌<◌, eqb, length}
use Rattle.theory.specs.Words.{theory_of}
use Rattle.theory.specs.Accepted.{Edition, area_of}
use Rattle.refusals.specs.Answer.{Answer}
use Rattle.refusals.specs.Refusals.{graph_answer}
use Rattle.std.specs.declared.cmp.Ordering.{Ordering}
use Rattle.std.specs.declared.cmp.Ordering.TheVariants.{Less, Equal, Greater}
use Rattle.compare.specs.Comparison.{Comparison, turned_away, in_order}
use Rattle.cycles.specs.Outcome.{Outcome, refused, loops, refusal, outcome, work_after, ClosedWalk}
use Rattle.founded.specs.Answers.{prepare_answer, complete_answer, PrepareLeaves, CompleteLeaves}
use Rattle.unfounded.specs.Unproduced.{UnfoundedLeaves}
use Rattle.within.specs.WithinAnswers.{within_answer, work_of, WithinLeaves}
use Rattle.undecided.specs.Answers.{undecided_answer, UndecidedLeaves}
use Rattle.branch.specs.Answers.{branch_answer, BranchLeaves}

-- the number of the refusal in the high half and its place in the low one; success is 0
abbrev pub code_of : (lim : ℕ) → Answer → ℕ
code_of lim a = a.number * lim + a.place

-- r is the answer's code, and its place fits the low half, so number and place can be read from r
abbrev pub Tells : (lim : ℕ) → Answer → ℕ → Type 0
Tells lim a r = (r ≡ code_of lim a) × (a.place < lim)

-- the loop test: 1 for yes and 0 for no. A refusal's code is lim or more.
abbrev pub NeedTells : (lim : ℕ) → Outcome → ℕ → Type 0
NeedTells lim (refused a) r = Tells lim a r
NeedTells lim (loops b) r = r ≡ cond b 1 0

-- the place in a refusal, if it is one, fits the low half
abbrev pub Placed : (lim : ℕ) → Outcome → Type 0
Placed lim (refused a) = a.place < lim
Placed lim (loops b) = Unit {0}

-- the comparison: 0 for equal, 1 for less and 2 for greater. A refusal's code is lim or more.
abbrev pub order_code : Ordering → ℕ
order_code Less = 1
order_code Equal = 0
order_code Greater = 2

abbrev pub ComparisonTells : (lim : ℕ) → Comparison → ℕ → Type 0
ComparisonTells lim (turned_away a) r = Tells lim a r
ComparisonTells lim (in_order o) r = r ≡ order_code o

-- the place in a refusal, if it is one, fits the low half
abbrev pub ComparisonPlaced : (lim : ℕ) → Comparison → Type 0
ComparisonPlaced lim (turned_away a) = a.place < lim
ComparisonPlaced lim (in_order o) = Unit {0}

module _ (lim : ℕ) (ed : Edition) where
  pub record Needed (graph work work' : List ℕ) (r : ℕ) : Type 0 where
    pub told : NeedTells lim (outcome ed graph work) r
    pub work_after : work' ≡ work_after ed graph work
    pub closed_walk : (refusal ed graph work).number ≡ 0 → (r ≡ 1) ↔ ClosedWalk (theory_of graph)

  -- preparation and pass: r is the answer's code, and they leave what belongs to the answer
  pub record PreparedAs (graph output work output' work' : List ℕ) (r : ℕ) : Type 0 where
    pub told : Tells lim (prepare_answer ed graph (length output) (length work)) r
    pub leaves : PrepareLeaves graph output work output' work' (prepare_answer ed graph (length output) (length work)).number

  pub record CompletedAs (graph never atom_never output work output' work' : List ℕ) (r : ℕ) : Type 0 where
    pub told : Tells lim (complete_answer ed graph (length never) (length atom_never) (length output) (length work)) r
    pub leaves : CompleteLeaves graph never atom_never output work output' work' (complete_answer ed graph (length never) (length atom_never) (length output) (length work)).number

  -- request 6's call: the pass's rows, and its own list
  pub record UnfoundedAs (graph never atom_never output work output' work' : List ℕ) (r : ℕ) : Type 0 where
    pub told : Tells lim (complete_answer ed graph (length never) (length atom_never) (length output) (length work)) r
    pub leaves : UnfoundedLeaves graph never atom_never output work output' work' (complete_answer ed graph (length never) (length atom_never) (length output) (length work)).number

  -- the pass within an allowance
  pub record CompletedWithinAs (graph never atom_never output work : List ℕ) (allowance : ℕ) (output' work' : List ℕ) (left r : ℕ) : Type 0 where
    pub told : Tells lim (within_answer ed graph (length never) (length atom_never) (length output) (length work) allowance (work_of graph never atom_never)) r
    pub leaves : WithinLeaves graph never atom_never output work allowance output' work' left (within_answer ed graph (length never) (length atom_never) (length output) (length work) allowance (work_of graph never atom_never)).number

-- the call over all choices of undecided bits, of edition 1 alone
pub record UndecidedAs (lim : ℕ) (graph never atom_never open_nodes open_atoms always sometimes work always' sometimes' work' : List ℕ) (r : ℕ) : Type 0 where
  pub told : Tells lim (undecided_answer graph never atom_never open_nodes open_atoms (length always) (length sometimes) (length work)) r
  pub leaves : UndecidedLeaves graph never atom_never open_nodes open_atoms always sometimes work always' sometimes' work' (undecided_answer graph never atom_never open_nodes open_atoms (length always) (length sometimes) (length work)).number

-- a search branch, of edition 1 alone
pub record BranchedAs (lim : ℕ) (graph : List ℕ) (pairs : ℕ) (never atom_never output work output' work' : List ℕ) (r : ℕ) : Type 0 where
  pub told : Tells lim (branch_answer graph pairs (length never) (length atom_never) (length output) (length work)) r
  pub leaves : BranchLeaves graph pairs never atom_never output work output' work' (branch_answer graph pairs (length never) (length atom_never) (length output) (length work)).number

-- how many words the work area of an accepted graph has; 0 for a graph that is refused
abbrev pub work_words : Edition → List ℕ → ℕ
work_words ed graph = cond (eqb (graph_answer ed graph).number 0) (area_of ed (theory_of graph)) 0
