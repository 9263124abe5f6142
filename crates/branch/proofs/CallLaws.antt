-- The contract of the call: what each refusal leaves, and success; each list is the lone pass's, with demand 3.
use mathlib.Core.Path.{◌≡◌, refl, sym, ap, ◌∙◌}
use mathlib.Core.Logic.{◌↔◌, ◌≢◌}
use mathlib.Core.Bool.{Bool, true, false, not, ◌||◌, cond}
use mathlib.Core.List.{List, [], ◌∷◌}
use Prim.Native.Nat.{ℕ, ◌*◌, ◌≤◌, ◌<◌}
use native.Mathlib.Omega.{arith}
use borrow.Author.Tests.{eq-eqb, ne_eqb, eqb-true, not-false}
use lib.Dec.{eqb, ltb}
use lib.ListN.{length, get_or, replicate}
use Rattle.std.specs.Prelude.{Result, Ok}
use Rattle.theory.specs.Words.{theory_of, bit_at}
use Rattle.theory.specs.Accepted.{edition1}
use Rattle.theory.proofs.UnfoundedLaws.{missing_exactly}
use Rattle.theory.proofs.SetLaws.{clash, is_false, or_left, or_right, is_eq, T_is}
use Rattle.mask.specs.Mask.{words_of}
use Rattle.refusals.specs.Answer.{Answer, accept, refuse, refuse_if, or_next, first_refusal}
use Rattle.refusals.specs.Refusals.{graph_rows, graph_answer, absorbed_row, refused_as}
use Rattle.refusals.specs.declared.Refusal.{Refusal}
use Rattle.refusals.proofs.RowLaws.{rows_append}
use Rattle.founded.specs.Answers.{call_of, work_left, Completes}
use Rattle.founded.proofs.OutcomeLaws.{graph_number}
use Rattle.founded.proofs.OutputLaws.{missing_list}
use Rattle.founded.proofs.CallLaws.{not_zero}
use Rattle.branch.specs.declared.BranchError.{BranchError}
use Rattle.branch.specs.declared.BranchError.TheVariants.{Refused, Pairs, Lengths, Work, Absorbed}
use Rattle.branch.specs.Answers.{branch_of, branch_as, bad_pairs, bad_masks, bad_branch_lengths, bad_branch_work, branch_answer, never_of, atom_never_of, missing_of, end_to_end, lists_left, BranchLeaves, Branches}
use Rattle.branch.specs.Branch.{Fits}
use Rattle.branch.proofs.PartLaws.{part_end}
use Rattle.branch.proofs.ListLaws.{missing_words}

module _ (ws : List ℕ) (pairs : ℕ) (never atom_never output work : List ℕ) where
  abbrev Leaves : (output' work' : List ℕ) → Answer → Type 0
  Leaves output' work' a = BranchLeaves ws pairs never atom_never output work output' work' a.number

  abbrev told : Answer
  told = branch_answer ws pairs (length never) (length atom_never) (length output) (length work)

  -- the lists of a success
  pub lists_leave : {output' work' : List ℕ} {number : ℕ} → output' ≡ lists_left number ws pairs never atom_never output → work' ≡ work_left number work → BranchLeaves ws pairs never atom_never output work output' work' number
  lists_leave {output'} {work'} {number} o w = record {
    output_after = o;
    work_after = w;
    lone = λ z k l out v out' v' r c d. part z k l ∙ sym (c.leaves.output_after ∙ rw (eq-eqb (call_of r).number 0 d));
    demand_3 = λ z k l a. rw (part z k l, missing_list ws (bit_at (never_of ws never atom_never k)) (bit_at (atom_never_of ws never atom_never k))) (missing_exactly (theory_of ws) (bit_at (never_of ws never atom_never k)) (bit_at (atom_never_of ws never atom_never k)) a);
  }
    where
      part : number ≡ 0 → (k : ℕ) → k < pairs → Rattle.branch.specs.Answers.part_of (words_of (get_or ws 1 0)) k output' ≡ missing_of ws never atom_never k
      part z k l = rw (o, eq-eqb number 0 z) (part_end (missing_of ws never atom_never) (words_of (get_or ws 1 0)) (missing_words ws never atom_never) k pairs l)

  -- the rows after the graph's
  late : Answer
  late = or_next (refuse_if 13 (bad_pairs pairs)) (or_next (refuse_if 10 (bad_branch_lengths ws pairs (length never) (length atom_never) (length output))) (or_next (refuse_if 11 (bad_branch_work (length work))) (or_next (absorbed_row (theory_of ws)) accept)))

  rows : told ≡ or_next (graph_answer edition1 ws) late
  unfolding branch_answer graph_answer first_refusal late
  rows =
      rows_append (graph_rows edition1 ws)
      (refuse_if 13 (bad_pairs pairs) ∷ refuse_if 10 (bad_branch_lengths ws pairs (length never) (length atom_never) (length output)) ∷ refuse_if 11 (bad_branch_work (length work)) ∷ absorbed_row (theory_of ws) ∷ [])

  -- a refusal but 12 leaves all as it was
  kept : (r : Result (Unit {0}) BranchError) → branch_of r ≡ told → (eqb (branch_of r).number 0 ≡ false) × (eqb (branch_of r).number 12 ≡ false) → Branches ws pairs never atom_never output work output work r
  kept r e n = record { answer = e; done = not_zero n.0; leaves = lists_leave (rw n.0) (rw (n.0, n.1)) }

  pub graph_turned : (e : Refusal) → refused_as e ≡ graph_answer edition1 ws → Branches ws pairs never atom_never output work output work (Rattle.std.specs.Prelude.Err (Refused e))
  graph_turned e q = let k = graph_number e in kept (Rattle.std.specs.Prelude.Err (Refused e)) (sym (rows ∙ rw (← q, k.0))) k

  module _ (ok : graph_answer edition1 ws ≡ accept) where
    later : told ≡ late
    later = rows ∙ rw ok

    pub pairs_turned : bad_pairs pairs ≡ true → Branches ws pairs never atom_never output work output work (Rattle.std.specs.Prelude.Err Pairs)
    unfolding late
    pairs_turned p = kept (Rattle.std.specs.Prelude.Err Pairs) (sym (later ∙ rw p)) (refl, refl)

    module _ (p : bad_pairs pairs ≡ false) where
      pub lengths_turned : bad_branch_lengths ws pairs (length never) (length atom_never) (length output) ≡ true → Branches ws pairs never atom_never output work output work (Rattle.std.specs.Prelude.Err Lengths)
      unfolding late
      lengths_turned l = kept (Rattle.std.specs.Prelude.Err Lengths) (sym (later ∙ rw (p, l))) (refl, refl)

      module _ (l : bad_branch_lengths ws pairs (length never) (length atom_never) (length output) ≡ false) where
        pub work_turned : length work ≢ 49152 → Branches ws pairs never atom_never output work output work (Rattle.std.specs.Prelude.Err Work)
        unfolding late
        work_turned n = kept (Rattle.std.specs.Prelude.Err Work) (sym (later ∙ rw (p, l, ne_eqb (length work) 49152 n))) (refl, refl)

        module _ (w : length work ≡ 49152) {work' : List ℕ} (z : work' ≡ replicate (length work) 0) where
          pub absorbed_turned : {n : ℕ} → absorbed_row (theory_of ws) ≡ refuse 12 n → Branches ws pairs never atom_never output work output work' (Rattle.std.specs.Prelude.Err (Absorbed n))
          unfolding late
          absorbed_turned {n} h = record { answer = sym (later ∙ rw (p, l, eq-eqb (length work) 49152 w, h)); done = not_zero refl; leaves = lists_leave refl z }

          pub branched : {output' : List ℕ} → absorbed_row (theory_of ws) ≡ accept → output' ≡ end_to_end (missing_of ws never atom_never) pairs → Branches ws pairs never atom_never output work output' work' (Ok (tt {0}))
          unfolding late
          branched h o = record { answer = sym (later ∙ rw (p, l, eq-eqb (length work) 49152 w, h)); done = λ _. refl; leaves = lists_leave o z }

-- ---- what the tests leave

pub pairs_few : (pairs : ℕ) → bad_pairs pairs ≡ false → (1 ≤ pairs) × (pairs ≤ 64)
pairs_few pairs e = (go pairs e, few)
  where
    go : (n : ℕ) → bad_pairs n ≡ false → 1 ≤ n
    go Prim.Native.Nat.zero e = clash refl e
    go (Prim.Native.Nat.suc n) e = omega arith

    few : pairs ≤ 64
    few = by (native.Mathlib.Decide.dec_lt 64 pairs)
      where
        by : Dec (64 < pairs) → pairs ≤ 64
        by (yes l) = clash (or_right (eqb pairs 0) (ltb 64 pairs) (T_is (ltb 64 pairs) (lib.Dec.lt→ltb 64 pairs l))) e
        by (no l) = omega arith

masks_fit : (pairs count words : ℕ) → bad_masks pairs count words ≡ false → words ≡ pairs * words_of count
masks_fit pairs count words e = eqb-true words (pairs * words_of count) (not-false _ e)

pub lengths_fit : (ws : List ℕ) (pairs n a o : ℕ) → bad_branch_lengths ws pairs n a o ≡ false → Fits ws pairs n a o × (o ≡ pairs * words_of (get_or ws 1 0))
unfolding bad_branch_lengths
lengths_fit ws pairs n a o e =
    let x = masks_fit pairs (get_or ws 2 0) n (is_false _ (λ t. clash (or_left (bad_masks pairs (get_or ws 2 0) n) _ t) e)) in
    let y = masks_fit pairs (get_or ws 1 0) a (is_false _ (λ t. clash (or_right (bad_masks pairs (get_or ws 2 0) n) _ (or_left (bad_masks pairs (get_or ws 1 0) a) _ t)) e)) in
    let z = masks_fit pairs (get_or ws 1 0) o (is_false _ (λ t. clash (or_right (bad_masks pairs (get_or ws 2 0) n) _ (or_right (bad_masks pairs (get_or ws 1 0) a) _ t)) e)) in
    (record { nodes = omega arith; atoms = omega arith; lists = omega arith }, z)
