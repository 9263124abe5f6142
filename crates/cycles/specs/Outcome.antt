-- What `needed` answers: number and place of a refusal, or whether there is a closed walk, and what it leaves in the work area.
use Rattle.std.specs.Prelude.{Bool, not, cond, List, ℕ, ◌<◌, eqb, length, replicate, Result, Ok, Err}
use Rattle.theory.specs.Sets.{everyone}
use Rattle.theory.specs.Walks.{Walk}
use Rattle.theory.specs.Theory.{Theory}
use Rattle.theory.specs.Edges.{vertices, preds}
use Rattle.theory.specs.Founded.{has_cycle}
use Rattle.theory.specs.Words.{theory_of}
use Rattle.theory.specs.Accepted.{Edition, area_of}
use Rattle.refusals.specs.Answer.{Answer, refuse, refuse_if, or_next}
use Rattle.refusals.specs.Refusals.{graph_answer, refused_as}
use Rattle.cycles.specs.declared.NeedError.{NeedError}
use Rattle.cycles.specs.declared.NeedError.TheVariants.{Refused, Work}

pub data Outcome : Type 0 where
  refused : Answer → Outcome
  loops : Bool → Outcome

-- number and place of each case of `NeedError`
abbrev pub turned_as : NeedError → Answer
turned_as (Refused e) = refused_as e
turned_as Work = refuse 11 0

abbrev pub outcome_of : Result Bool NeedError → Outcome
outcome_of (Ok reply) = loops reply
outcome_of (Err e) = refused (turned_as e)

-- rows 1 to 9, then 11
abbrev pub refusal : Edition → (graph work : List ℕ) → Answer
refusal ed graph work = or_next (graph_answer ed graph) (refuse_if 11 (not (eqb (length work) (area_of ed (theory_of graph)))))

abbrev pub outcome : Edition → (graph work : List ℕ) → Outcome
outcome ed graph work = cond (eqb (refusal ed graph work).number 0) (loops (has_cycle (theory_of graph))) (refused (refusal ed graph work))

abbrev pub work_after : Edition → (graph work : List ℕ) → List ℕ
work_after ed graph work = cond (eqb (refusal ed graph work).number 0) (replicate (area_of ed (theory_of graph)) 0) work

-- a closed walk over all atoms and all nodes
abbrev pub ClosedWalk : Theory → Type 0
ClosedWalk th = (v : ℕ) × (v < vertices th) × Walk (preds th everyone) v v
