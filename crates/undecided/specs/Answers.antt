-- What the call `undecided` answers and leaves (document 02, request 12): number and place of each case, the rows of the call, and its record.
use Rattle.std.specs.Prelude.{◌≡◌, ◌↔◌, Bool, false, ◌&&◌, ◌||◌, List, [], ◌∷◌, ◌++◌, ℕ, ◌<◌, length, get_or, Result, Ok, Err}
use Rattle.theory.specs.Sets.{Set, Is, any_below}
use Rattle.theory.specs.Words.{theory_of, bit_at}
use Rattle.theory.specs.Accepted.{edition1}
use Rattle.choices.specs.Undecided.{MissingAlways, MissingSometimes, missing_in_all, missing_in_some}
use Rattle.refusals.specs.Answer.{Answer, accept, refuse, refuse_if, first_refusal}
use Rattle.refusals.specs.Refusals.{graph_rows, absorbed_row, refused_as}
use Rattle.founded.specs.Answers.{bad_mask, bad_output, bad_work, output_left, work_left, CompleteLeaves}
use Rattle.undecided.specs.declared.OpenError.{OpenError}
use Rattle.undecided.specs.declared.OpenError.TheVariants.{Refused, Lengths, Both, Work, Absorbed}

-- number and place of each case of `OpenError`
abbrev pub open_as : OpenError → Answer
open_as (Refused e) = refused_as e
open_as Lengths = refuse 10 0
open_as Both = refuse 21 0
open_as Work = refuse 11 0
open_as (Absorbed n) = refuse 12 n

-- what the call answers
abbrev pub open_of : Result (Unit {0}) OpenError → Answer
open_of (Ok u) = accept
open_of (Err e) = open_as e

-- 10. n, a, p, q, x, y: the lengths of node mask, atom mask, undecided nodes, undecided atoms and both outputs
unfoldable pub bad_open_lengths : List ℕ → (n a p q x y : ℕ) → Bool
bad_open_lengths ws n a p q x y =
    bad_mask (get_or ws 2 0) n
    || (bad_mask (get_or ws 1 0) a
    || (bad_mask (get_or ws 2 0) p
    || (bad_mask (get_or ws 1 0) q
    || (bad_output (get_or ws 1 0) x
    || bad_output (get_or ws 1 0) y))))

-- 21: a number both ruled out and undecided; bits past the last number play no part
abbrev pub both_below : ℕ → (cut undecided : Set) → Bool
both_below count cut undecided = any_below count (λ i. undecided i && cut i)

unfoldable pub cut_and_open : (ws never atom_never open_nodes open_atoms : List ℕ) → Bool
cut_and_open ws never atom_never open_nodes open_atoms = both_below (get_or ws 2 0) (bit_at never) (bit_at open_nodes) || both_below (get_or ws 1 0) (bit_at atom_never) (bit_at open_atoms)

-- the graph's rows, then 10, 21, 11 and 12. x, y, w: the lengths of the outputs and the work area
unfoldable pub undecided_answer : (ws never atom_never open_nodes open_atoms : List ℕ) (x y w : ℕ) → Answer
undecided_answer ws never atom_never open_nodes open_atoms x y w =
    first_refusal (graph_rows edition1 ws ++
    (refuse_if 10 (bad_open_lengths ws (length never) (length atom_never) (length open_nodes) (length open_atoms) x y)
    ∷ refuse_if 21 (cut_and_open ws never atom_never open_nodes open_atoms)
    ∷ refuse_if 11 (bad_work edition1 ws w)
    ∷ absorbed_row (theory_of ws)
    ∷ []))

-- what the call leaves after an answer of that number
pub record UndecidedLeaves (graph never atom_never open_nodes open_atoms always sometimes work always' sometimes' work' : List ℕ) (number : ℕ) : Type 0 where
  -- the atoms that the choices, tried one after the other, all leave missing; and those that at least one does
  pub always_after : always' ≡ output_left number (get_or graph 1 0) (missing_in_all (theory_of graph) (bit_at never) (bit_at open_nodes) (bit_at atom_never) (bit_at open_atoms)) always
  pub sometimes_after : sometimes' ≡ output_left number (get_or graph 1 0) (missing_in_some (theory_of graph) (bit_at never) (bit_at open_nodes) (bit_at atom_never) (bit_at open_atoms)) sometimes
  pub work_after : work' ≡ work_left number work
  -- on success, over all choices: sets of undecided nodes and of undecided atoms
  pub every : number ≡ 0 → (a : ℕ) → Is (bit_at always' a) ↔ MissingAlways (theory_of graph) (bit_at never) (bit_at open_nodes) (bit_at atom_never) (bit_at open_atoms) a
  pub some : number ≡ 0 → (a : ℕ) → Is (bit_at sometimes' a) ↔ MissingSometimes (theory_of graph) (bit_at never) (bit_at open_nodes) (bit_at atom_never) (bit_at open_atoms) a
  -- an atom undecided itself is never in the first list
  pub left_out : number ≡ 0 → (a : ℕ) → Is (bit_at open_atoms a) → bit_at always' a ≡ false
  -- with nothing undecided both lists are what a pass leaves for the masks
  pub lone : number ≡ 0 → ((n : ℕ) → n < get_or graph 2 0 → bit_at open_nodes n ≡ false) → ((a : ℕ) → a < get_or graph 1 0 → bit_at open_atoms a ≡ false)
      → (out w out' w' : List ℕ) → CompleteLeaves graph never atom_never out w out' w' 0 → (always' ≡ out') × (sometimes' ≡ out')

pub record Undecides (graph never atom_never open_nodes open_atoms always sometimes work always' sometimes' work' : List ℕ) (r : Result (Unit {0}) OpenError) : Type 0 where
  pub answer : open_of r ≡ undecided_answer graph never atom_never open_nodes open_atoms (length always) (length sometimes) (length work)
  pub done : (open_of r).number ≡ 0 → r ≡ Ok (tt {0})
  pub leaves : UndecidedLeaves graph never atom_never open_nodes open_atoms always sometimes work always' sometimes' work' (open_of r).number
