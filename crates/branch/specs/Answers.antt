-- What a search branch answers and leaves (document 02, request 1): number and place of each case, the rows of the call, and its record.
use Rattle.std.specs.Prelude.{◌≡◌, ◌↔◌, Bool, not, ◌||◌, cond, List, [], ◌∷◌, ◌++◌, ℕ, zero, suc, ◌*◌, ◌<◌, eqb, ltb, length, get_or, take, drop, Result, Ok, Err}
use Rattle.theory.specs.Sets.{Set, Is}
use Rattle.theory.specs.Words.{theory_of, bit_at}
use Rattle.theory.specs.Accepted.{edition1}
use Rattle.theory.specs.Founded.{missing}
use Rattle.theory.specs.Unfounded.{Unfounded}
use Rattle.mask.specs.Mask.{words_of, pack}
use Rattle.refusals.specs.Answer.{Answer, accept, refuse, refuse_if, first_refusal}
use Rattle.refusals.specs.Refusals.{graph_rows, absorbed_row, refused_as}
use Rattle.founded.specs.declared.CallError.{CallError}
use Rattle.founded.specs.Answers.{call_of, work_left, Completes}
use Rattle.branch.specs.declared.BranchError.{BranchError}
use Rattle.branch.specs.declared.BranchError.TheVariants.{Refused, Pairs, Lengths, Work, Absorbed}

-- number and place of each case of `BranchError`
abbrev pub branch_as : BranchError → Answer
branch_as (Refused e) = refused_as e
branch_as Pairs = refuse 13 0
branch_as Lengths = refuse 10 0
branch_as Work = refuse 11 0
branch_as (Absorbed n) = refuse 12 n

-- what the call answers
abbrev pub branch_of : Result (Unit {0}) BranchError → Answer
branch_of (Ok u) = accept
branch_of (Err e) = branch_as e

-- 13: no pair, or more than 64
abbrev pub bad_pairs : ℕ → Bool
bad_pairs pairs = eqb pairs 0 || ltb 64 pairs

-- 10: another length than that of so many masks end to end, each at its full length; the output is as many such masks
abbrev pub bad_masks : (pairs count words : ℕ) → Bool
bad_masks pairs count words = not (eqb words (pairs * words_of count))

unfoldable pub bad_branch_lengths : List ℕ → (pairs n a o : ℕ) → Bool
bad_branch_lengths ws pairs n a o = bad_masks pairs (get_or ws 2 0) n || (bad_masks pairs (get_or ws 1 0) a || bad_masks pairs (get_or ws 1 0) o)

-- 11: another length of the work area
abbrev pub bad_branch_work : ℕ → Bool
bad_branch_work w = not (eqb w 49152)

-- the graph's rows, then 13, 10, 11 and 12; n, a, o, w: the lengths of node masks, atom masks, output and work area
unfoldable pub branch_answer : List ℕ → (pairs n a o w : ℕ) → Answer
branch_answer ws pairs n a o w =
    first_refusal (graph_rows edition1 ws ++ (refuse_if 13 (bad_pairs pairs) ∷ refuse_if 10 (bad_branch_lengths ws pairs n a o) ∷ refuse_if 11 (bad_branch_work w) ∷ absorbed_row (theory_of ws) ∷ []))

-- part k of words that lie end to end, n each
abbrev pub part_of : (n k : ℕ) → List ℕ → List ℕ
part_of n k l = take n (drop (k * n) l)

module _ (ws never atom_never : List ℕ) where
  -- the masks of pair k
  abbrev pub never_of : ℕ → List ℕ
  never_of k = part_of (words_of (get_or ws 2 0)) k never

  abbrev pub atom_never_of : ℕ → List ℕ
  atom_never_of k = part_of (words_of (get_or ws 1 0)) k atom_never

  -- and its missing list
  abbrev pub missing_of : ℕ → List ℕ
  missing_of k = pack (get_or ws 1 0) (missing (theory_of ws) (bit_at (never_of k)) (bit_at (atom_never_of k)))

-- so many lists end to end
unfoldable pub end_to_end : (ℕ → List ℕ) → ℕ → List ℕ
end_to_end list zero = []
end_to_end list (suc k) = end_to_end list k ++ list k

-- the output after an answer of that number
abbrev pub lists_left : (number : ℕ) (ws : List ℕ) (pairs : ℕ) (never atom_never output : List ℕ) → List ℕ
lists_left number ws pairs never atom_never output = cond (eqb number 0) (end_to_end (missing_of ws never atom_never) pairs) output

-- what the call leaves after an answer of that number
pub record BranchLeaves (graph : List ℕ) (pairs : ℕ) (never atom_never output work output' work' : List ℕ) (number : ℕ) : Type 0 where
  pub output_after : output' ≡ lists_left number graph pairs never atom_never output
  pub work_after : work' ≡ work_left number work
  -- on success list k is what a lone pass leaves for the masks of pair k, if it succeeds
  pub lone : number ≡ 0 → (k : ℕ) → k < pairs → (out w out' w' : List ℕ) (r : Result (Unit {0}) CallError)
      → Completes edition1 graph (never_of graph never atom_never k) (atom_never_of graph never atom_never k) out w out' w' r → (call_of r).number ≡ 0 → part_of (words_of (get_or graph 1 0)) k output' ≡ out'
  -- demand 3 for each list
  pub demand_3 : number ≡ 0 → (k : ℕ) → k < pairs → (a : ℕ)
      → Is (bit_at (part_of (words_of (get_or graph 1 0)) k output') a) ↔ ((u : Set) × Unfounded (theory_of graph) (bit_at (never_of graph never atom_never k)) (bit_at (atom_never_of graph never atom_never k)) u × Is (u a))

pub record Branches (graph : List ℕ) (pairs : ℕ) (never atom_never output work output' work' : List ℕ) (r : Result (Unit {0}) BranchError) : Type 0 where
  pub answer : branch_of r ≡ branch_answer graph pairs (length never) (length atom_never) (length output) (length work)
  pub done : (branch_of r).number ≡ 0 → r ≡ Ok (tt {0})
  pub leaves : BranchLeaves graph pairs never atom_never output work output' work' (branch_of r).number
