-- The contracts of preparation and pass from what they share (`prepares`, `completes`), what the tests of 10 and 11 leave, and the pass's answer where rows 1 to 11
-- accept (`last_row`).
use mathlib.Core.Path.{◌≡◌, refl, sym, ◌∙◌}
use mathlib.Core.Logic.{◌≢◌}
use mathlib.Core.Bool.{Bool, true, false, cond}
use mathlib.Core.List.{List, [], ◌∷◌}
use Prim.Native.Nat.{ℕ, zero, suc}
use borrow.Author.Tests.{eq-eqb, ne_eqb, eqb-true, not-false}
use lib.Dec.{eqb}
use lib.ListN.{length, get_or}
use Rattle.theory.specs.Theory.{Theory}
use Rattle.theory.specs.Words.{theory_of, bit_at}
use Rattle.theory.specs.Accepted.{Edition, area_of}
use Rattle.theory.specs.Founded.{cyclic, missing}
use Rattle.theory.specs.Edges.{absorbed_node}
use Rattle.theory.proofs.SetLaws.{clash, is_false, or_right}
use Rattle.theory.proofs.CycleLaws.{cyclic_walk}
use Rattle.theory.proofs.UnfoundedLaws.{missing_exactly}
use Rattle.mask.specs.Mask.{words_of}
use Rattle.refusals.specs.Answer.{accept, refuse, refuse_if, refuse_first, or_next, first_refusal}
use Rattle.refusals.specs.Refusals.{graph_rows, graph_answer, absorbed_row}
use Rattle.refusals.proofs.RowLaws.{rows_append}
use Rattle.founded.specs.declared.CallError.{CallError}
use Rattle.std.specs.Prelude.{Result, Ok}
use Rattle.founded.specs.Answers.{call_of, bad_mask, bad_output, bad_lengths, bad_work, prepare_answer, complete_answer, Prepares, Completes}
use Rattle.founded.proofs.OutcomeLaws.{Answered}
use Rattle.founded.proofs.OutputLaws.{cyclic_list, missing_list}

pub prepares : {ed : Edition} {ws output work output' work' : List ℕ} {r : Result (Unit {0}) CallError}
    → Answered ed ws (bad_output (get_or ws 1 0) (length output)) (bad_work ed ws (length work)) (cyclic (theory_of ws)) output work output' work' (call_of r)
    → ((call_of r).number ≡ 0 → r ≡ Ok (tt {0})) → Prepares ed ws output work output' work' r
unfolding prepare_answer
prepares {ws = ws} {r = r} h d = record {
  answer = h.answer;
  done = d;
  leaves = record {
    output_after = h.output_after;
    work_after = h.work_after;
    closed_walk = λ q a. rw (h.output_after, eq-eqb (call_of r).number 0 q, cyclic_list ws) (cyclic_walk (theory_of ws) a);
  };
}

pub completes : {ed : Edition} {ws never atom_never output work output' work' : List ℕ} {r : Result (Unit {0}) CallError}
    → Answered ed ws (bad_lengths ws (length never) (length atom_never) (length output)) (bad_work ed ws (length work)) (missing (theory_of ws) (bit_at never) (bit_at atom_never)) output work output' work' (call_of r)
    → ((call_of r).number ≡ 0 → r ≡ Ok (tt {0})) → Completes ed ws never atom_never output work output' work' r
unfolding complete_answer
completes {ws = ws} {never = never} {atom_never = atom_never} {r = r} h d = record {
  answer = h.answer;
  done = d;
  leaves = record {
    output_after = h.output_after;
    work_after = h.work_after;
    demand_3 = λ q a. rw (h.output_after, eq-eqb (call_of r).number 0 q, missing_list ws (bit_at never) (bit_at atom_never)) (missing_exactly (theory_of ws) (bit_at never) (bit_at atom_never) a);
  };
}

-- a refusal's number is not that of success
pub not_zero : {A : Type 0} {n : ℕ} → eqb n 0 ≡ false → n ≡ 0 → A
not_zero {n = n} e q = clash (eq-eqb n 0 q) e

-- the test of an output over as many numbers as a count of the header
pub output_tested : {r t : Bool} {count k : ℕ} (words : ℕ) → r ≡ bad_output count words → count ≡ k → r ≡ t → bad_output k words ≡ t
output_tested words e q h = rw (← q) (sym e ∙ h)

pub output_words : (count words : ℕ) → bad_output count words ≡ false → words ≡ words_of count
output_words count words e = eqb-true words (words_of count) (not-false _ e)

-- the output is one of the three
pub output_fits : (ws : List ℕ) (n a o : ℕ) → bad_lengths ws n a o ≡ false → bad_output (get_or ws 1 0) o ≡ false
unfolding bad_lengths
output_fits ws n a o e = is_false _ (λ t. clash (or_right (bad_mask (get_or ws 2 0) n) _ (or_right (bad_mask (get_or ws 1 0) a) _ t)) e)

pub work_fits : (ed : Edition) (ws : List ℕ) (w : ℕ) → w ≡ area_of ed (theory_of ws) → bad_work ed ws w ≡ false
work_fits ed ws w e = rw (eq-eqb w (area_of ed (theory_of ws)) e)

pub work_bad : (ed : Edition) (ws : List ℕ) {w k : ℕ} → w ≢ k → k ≡ area_of ed (theory_of ws) → bad_work ed ws w ≡ true
work_bad ed ws {w} n e = rw (← e, ne_eqb w _ n)

-- row 12 is the last
pub absorbed_last : (th : Theory) → or_next (absorbed_row th) accept ≡ absorbed_row th
unfolding refuse_first
absorbed_last th = go 0 th.nodes
  where
    go : (i count : ℕ) → or_next (refuse_first 12 (absorbed_node th) i count) accept ≡ refuse_first 12 (absorbed_node th) i count
    go i zero = refl
    go i (suc count) = at (absorbed_node th i) (go (suc i) count)
      where
        at : (b : Bool) → or_next (refuse_first 12 (absorbed_node th) (suc i) count) accept ≡ refuse_first 12 (absorbed_node th) (suc i) count
            → or_next (cond b (refuse 12 i) (refuse_first 12 (absorbed_node th) (suc i) count)) accept ≡ cond b (refuse 12 i) (refuse_first 12 (absorbed_node th) (suc i) count)
        at true ih = refl
        at false ih = ih

-- nothing but row 12 is left for the pass to refuse
pub last_row : {ed : Edition} {ws never atom_never output work output' work' : List ℕ} {r : Result (Unit {0}) CallError} → graph_answer ed ws ≡ accept
    → bad_lengths ws (length never) (length atom_never) (length output) ≡ false → bad_work ed ws (length work) ≡ false
    → Completes ed ws never atom_never output work output' work' r → call_of r ≡ absorbed_row (theory_of ws)
unfolding complete_answer graph_answer first_refusal
last_row {ed} {ws} {never} {atom_never} {output} {work} {r = r} ok lengths area h =
    let rest = refuse_if 10 (bad_lengths ws (length never) (length atom_never) (length output)) ∷ refuse_if 11 (bad_work ed ws (length work)) ∷ absorbed_row (theory_of ws) ∷ [] in
    h.answer ∙ rows_append (graph_rows ed ws) rest ∙ rw (ok, lengths, area) (absorbed_last (theory_of ws))
