-- What the call `tally` answers and leaves (document 02, request 13): number and place of each case, the rows of the call, and its record.
use Rattle.std.specs.Prelude.{◌≡◌, Bool, not, ◌||◌, cond, List, [], ◌∷◌, ◌++◌, ℕ, ◌+◌, ◌*◌, ◌^◌, ◌<◌, eqb, ltb, length, get_or, Result, Ok, Err}
use Rattle.theory.specs.Sets.{members}
use Rattle.theory.specs.Words.{theory_of, bit_at}
use Rattle.theory.specs.Accepted.{edition1}
use Rattle.choices.specs.Tallies.{times_missing, times_ruled_out, times_neither, tallies}
use Rattle.refusals.specs.Answer.{Answer, accept, refuse, refuse_if, first_refusal}
use Rattle.refusals.specs.Refusals.{graph_rows, absorbed_row, refused_as}
use Rattle.founded.specs.Answers.{bad_mask, bad_work, work_left}
use Rattle.undecided.specs.Answers.{both_below}
use Rattle.tally.specs.declared.TallyError.{TallyError}
use Rattle.tally.specs.declared.TallyError.TheVariants.{Refused, Lengths, Both, Many, Work, Absorbed}

-- number and place of each case of `TallyError`
abbrev pub tally_as : TallyError → Answer
tally_as (Refused e) = refused_as e
tally_as Lengths = refuse 10 0
tally_as Both = refuse 21 0
tally_as Many = refuse 22 0
tally_as Work = refuse 11 0
tally_as (Absorbed n) = refuse 12 n

-- what the call answers
abbrev pub tally_of : Result (Unit {0}) TallyError → Answer
tally_of (Ok u) = accept
tally_of (Err e) = tally_as e

-- 10. n, a, q, o: the lengths of node mask, atom mask, undecided atoms and output, which has three numbers an atom
unfoldable pub bad_tally_lengths : List ℕ → (n a q o : ℕ) → Bool
bad_tally_lengths ws n a q o =
    bad_mask (get_or ws 2 0) n
    || (bad_mask (get_or ws 1 0) a
    || (bad_mask (get_or ws 1 0) q
    || not (eqb o (3 * get_or ws 1 0))))

-- 22: more than 12 undecided atoms
unfoldable pub many_open : (ws open_atoms : List ℕ) → Bool
many_open ws open_atoms = ltb 12 (length (members (get_or ws 1 0) (bit_at open_atoms)))

-- the graph's rows, then 10, 21, 22, 11 and 12. o, w: the lengths of the output and the work area
unfoldable pub tally_answer : (ws never atom_never open_atoms : List ℕ) (o w : ℕ) → Answer
tally_answer ws never atom_never open_atoms o w =
    first_refusal (graph_rows edition1 ws ++
    (refuse_if 10 (bad_tally_lengths ws (length never) (length atom_never) (length open_atoms) o)
    ∷ refuse_if 21 (both_below (get_or ws 1 0) (bit_at atom_never) (bit_at open_atoms))
    ∷ refuse_if 22 (many_open ws open_atoms)
    ∷ refuse_if 11 (bad_work edition1 ws w)
    ∷ absorbed_row (theory_of ws)
    ∷ []))

-- what the call leaves after an answer of that number
pub record TallyLeaves (graph never atom_never open_atoms output work output' work' : List ℕ) (number : ℕ) : Type 0 where
  pub output_after : output' ≡ cond (eqb number 0) (tallies (theory_of graph) (bit_at never) (bit_at atom_never) (bit_at open_atoms)) output
  pub work_after : work' ≡ work_left number work
  -- on success three counts an atom, each over all choices
  pub each : number ≡ 0 → (a : ℕ) → a < get_or graph 1 0
      → (get_or output' (3 * a) 0 ≡ times_missing (theory_of graph) (bit_at never) (bit_at atom_never) (bit_at open_atoms) a)
      × (get_or output' (3 * a + 1) 0 ≡ times_ruled_out (theory_of graph) (bit_at never) (bit_at atom_never) (bit_at open_atoms) a)
      × (get_or output' (3 * a + 2) 0 ≡ times_neither (theory_of graph) (bit_at never) (bit_at atom_never) (bit_at open_atoms) a)
  -- and they add up to 2 to the number of undecided atoms
  pub add_up : number ≡ 0 → (a : ℕ) → a < get_or graph 1 0
      → get_or output' (3 * a) 0 + get_or output' (3 * a + 1) 0 + get_or output' (3 * a + 2) 0 ≡ 2 ^ length (members (get_or graph 1 0) (bit_at open_atoms))

pub record Tallies (graph never atom_never open_atoms output work output' work' : List ℕ) (r : Result (Unit {0}) TallyError) : Type 0 where
  pub answer : tally_of r ≡ tally_answer graph never atom_never open_atoms (length output) (length work)
  pub done : (tally_of r).number ≡ 0 → r ≡ Ok (tt {0})
  pub leaves : TallyLeaves graph never atom_never open_atoms output work output' work' (tally_of r).number
