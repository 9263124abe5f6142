-- The call's answers and what each leaves: a refusal of the graph (`graph_refused`), of lengths, of an atom in both masks, of too many undecided atoms, of the work area (`lengths_refused`,
-- `both_refused`, `many_refused`, `work_refused`), of an absorbed node (`absorbed_refused`), and success (`counted_all`).
use mathlib.Core.Path.{◌≡◌, refl, sym, ap, ◌∙◌}
use mathlib.Core.Bool.{Bool, true, false}
use mathlib.Core.List.{List, [], ◌∷◌}
use Prim.Native.Nat.{ℕ, ◌+◌, ◌*◌, ◌≤◌, ◌<◌}
use native.Mathlib.Omega.{arith}
use lib.Dec.{eqb}
use lib.ListN.{length, get_or, replicate}
use lib.Seq.{ext_get_or}
use Rattle.std.specs.Prelude.{Ok, Err}
use borrow.Author.Tests.{eqb-true, not-false, lt-ltb, le-ltb, ltb-false}
use Rattle.theory.specs.Sets.{members}
use Rattle.theory.specs.Words.{theory_of, bit_at}
use Rattle.theory.specs.Accepted.{edition1}
use Rattle.choices.specs.Choices.{choices_below}
use Rattle.theory.proofs.SetLaws.{neither_left, neither_right}
use Rattle.choices.specs.Tallies.{times_missing, times_ruled_out, times_neither, tallies}
use Rattle.choices.proofs.TallyLaws.{tallies_add, tallies_length, tallies_at}
use Rattle.mask.specs.Mask.{words_of}
use Rattle.refusals.specs.Answer.{Answer, accept, refuse_if, or_next, first_refusal}
use Rattle.refusals.specs.Refusals.{graph_rows, graph_answer, absorbed_row, refused_as}
use Rattle.refusals.specs.declared.Refusal.{Refusal}
use Rattle.refusals.proofs.RowLaws.{rows_append}
use Rattle.preparation.specs.Flags.{Refused as AbsorbedFound}
use Rattle.founded.specs.Answers.{bad_mask, bad_work}
use Rattle.founded.proofs.CallLaws.{not_zero}
use Rattle.founded.proofs.OutcomeLaws.{graph_number}
use Rattle.undecided.specs.Answers.{both_below}
use Rattle.tally.specs.declared.TallyError.{TallyError}
use Rattle.tally.specs.declared.TallyError.TheVariants.{Refused, Lengths, Both, Many, Work, Absorbed}
use Rattle.tally.specs.Answers.{tally_as, bad_tally_lengths, many_open, tally_answer, Tallies}
use Rattle.tally.specs.Counting.{EveryChoice}
use Rattle.tally.proofs.CountLaws.{at_three}

module _ (ws never atom_never open_atoms output work : List ℕ) where
  abbrev lengths : Bool
  lengths = bad_tally_lengths ws (length never) (length atom_never) (length open_atoms) (length output)

  abbrev both : Bool
  both = both_below (get_or ws 1 0) (bit_at atom_never) (bit_at open_atoms)

  abbrev many : Bool
  many = many_open ws open_atoms

  abbrev area : Bool
  area = bad_work edition1 ws (length work)

  -- the rows after the graph's
  late : Answer
  late = or_next (refuse_if 10 lengths) (or_next (refuse_if 21 both) (or_next (refuse_if 22 many) (or_next (refuse_if 11 area) (or_next (absorbed_row (theory_of ws)) accept))))

  rows : tally_answer ws never atom_never open_atoms (length output) (length work) ≡ or_next (graph_answer edition1 ws) late
  unfolding tally_answer graph_answer first_refusal late
  rows = rows_append (graph_rows edition1 ws) (refuse_if 10 lengths ∷ refuse_if 21 both ∷ refuse_if 22 many ∷ refuse_if 11 area ∷ absorbed_row (theory_of ws) ∷ [])

  -- a refusal but 12 leaves all as it was
  kept : (e : TallyError) → tally_as e ≡ or_next (graph_answer edition1 ws) late → (eqb (tally_as e).number 0 ≡ false) × (eqb (tally_as e).number 12 ≡ false)
      → Tallies ws never atom_never open_atoms output work output work (Err e)
  kept e q n = record {
    answer = q ∙ sym rows;
    done = not_zero n.0;
    leaves = record { output_after = rw n.0; work_after = rw (n.0, n.1); each = not_zero n.0; add_up = not_zero n.0 };
  }

  pub graph_refused : (e : Refusal) → refused_as e ≡ graph_answer edition1 ws → Tallies ws never atom_never open_atoms output work output work (Err (Refused e))
  graph_refused e q = let k = graph_number e in kept (Refused e) (rw (← q, k.0) refl) k

  module _ (ok : graph_answer edition1 ws ≡ accept) where
    pub lengths_refused : lengths ≡ true → Tallies ws never atom_never open_atoms output work output work (Err Lengths)
    unfolding late
    lengths_refused l = kept Lengths (rw (ok, l) refl) (refl, refl)

    module _ (l : lengths ≡ false) where
      pub both_refused : both ≡ true → Tallies ws never atom_never open_atoms output work output work (Err Both)
      unfolding late
      both_refused b = kept Both (rw (ok, l, b) refl) (refl, refl)

      module _ (b : both ≡ false) where
        pub many_refused : many ≡ true → Tallies ws never atom_never open_atoms output work output work (Err Many)
        unfolding late
        many_refused m = kept Many (rw (ok, l, b, m) refl) (refl, refl)

        module _ (m : many ≡ false) where
          pub work_refused : area ≡ true → Tallies ws never atom_never open_atoms output work output work (Err Work)
          unfolding late
          work_refused r = kept Work (rw (ok, l, b, m, r) refl) (refl, refl)

          module _ (r : area ≡ false) (w : List ℕ) {work' : List ℕ} (z : work' ≡ replicate (length w) 0) where
            pub absorbed_refused : {n : ℕ} → AbsorbedFound ws work w n → Tallies ws never atom_never open_atoms output work output work' (Err (Absorbed n))
            unfolding late
            absorbed_refused {n} h = record {
              answer = rw (rows, ok, l, b, m, r, h.row) refl;
              done = not_zero refl;
              leaves = record { output_after = refl; work_after = z ∙ rw h.size; each = not_zero refl; add_up = not_zero refl };
            }

            pub counted_all : length w ≡ length work → absorbed_row (theory_of ws) ≡ accept → {list w₀ output' : List ℕ} → list ≡ members (get_or ws 1 0) (bit_at open_atoms)
                → EveryChoice ws (bit_at never) (bit_at atom_never) list w₀ output' w → Tallies ws never atom_never open_atoms output work output' work' (Ok (tt {0}))
            unfolding late theory_of times_missing times_ruled_out times_neither choices_below
            counted_all s row {list} {output' = output'} e h = record {
              answer = sym (rows ∙ rw (ok, l, b, m, r, row) refl);
              done = λ q. refl;
              leaves = record {
                output_after = whole;
                work_after = z ∙ rw s refl;
                each = λ q. three;
                add_up = λ q a k. let t = tallies_add (theory_of ws) (bit_at never) (bit_at atom_never) (bit_at open_atoms) a in let x = three a k in rw (x.0, x.1, x.2) t;
              };
            }
              where
                three : (a : ℕ) → a < get_or ws 1 0
                    → (get_or output' (3 * a) 0 ≡ times_missing (theory_of ws) (bit_at never) (bit_at atom_never) (bit_at open_atoms) a)
                    × (get_or output' (3 * a + 1) 0 ≡ times_ruled_out (theory_of ws) (bit_at never) (bit_at atom_never) (bit_at open_atoms) a)
                    × (get_or output' (3 * a + 2) 0 ≡ times_neither (theory_of ws) (bit_at never) (bit_at atom_never) (bit_at open_atoms) a)
                three a k = (rw e at (h.first a k), rw e at (h.second a k), rw e at (h.third a k))

                all : List ℕ
                all = tallies (theory_of ws) (bit_at never) (bit_at atom_never) (bit_at open_atoms)

                whole : output' ≡ tallies (theory_of ws) (bit_at never) (bit_at atom_never) (bit_at open_atoms)
                whole = ext_get_or 0 output' all (h.long ∙ sym (tallies_length (theory_of ws) (bit_at never) (bit_at atom_never) (bit_at open_atoms)))
                    (λ i k. at_three (λ j. get_or output' j 0 ≡ get_or all j 0) (get_or ws 1 0)
                    (λ a u. let t = tallies_at (theory_of ws) (bit_at never) (bit_at atom_never) (bit_at open_atoms) a u in
                    let x = three a u in
                    (x.0 ∙ sym t.0, x.1 ∙ sym t.1, x.2 ∙ sym t.2)) i (let y = h.long in omega arith))

-- what the test of 10 leaves: the output fits, and the atom mask is no longer than 16 words
pub lengths_fit : (ws : List ℕ) (n a q o : ℕ) → get_or ws 1 0 ≤ 1024 → bad_tally_lengths ws n a q o ≡ false → (o ≡ 3 * get_or ws 1 0) × (a ≤ 16)
unfolding bad_tally_lengths
lengths_fit ws n a q o few e =
    let f = neither_right (bad_mask (get_or ws 2 0) n) _ e in
    let g = neither_right (bad_mask (get_or ws 1 0) q) _ (neither_right (bad_mask (get_or ws 1 0) a) _ f) in
    (eqb-true o (3 * get_or ws 1 0) (not-false _ g), let h = ltb-false (words_of (get_or ws 1 0)) a (neither_left (bad_mask (get_or ws 1 0) a) _ f) in omega arith)

-- and that of 22, of the list of the undecided atoms
pub few_found : (ws open_atoms : List ℕ) {k : ℕ} → k ≡ length (members (get_or ws 1 0) (bit_at open_atoms)) → k ≤ 12 → many_open ws open_atoms ≡ false
unfolding many_open
few_found ws open_atoms e l = le-ltb 12 (length (members (get_or ws 1 0) (bit_at open_atoms))) (rw e at l)

pub few_open : (ws open_atoms : List ℕ) {list : List ℕ} → list ≡ members (get_or ws 1 0) (bit_at open_atoms) → length list ≤ 12 → many_open ws open_atoms ≡ false
few_open ws open_atoms e l = few_found ws open_atoms (ap length e) l

pub many_found : (ws open_atoms : List ℕ) {k : ℕ} → k ≡ length (members (get_or ws 1 0) (bit_at open_atoms)) → 12 < k → many_open ws open_atoms ≡ true
unfolding many_open
many_found ws open_atoms e l = lt-ltb 12 (length (members (get_or ws 1 0) (bit_at open_atoms))) (rw e at l)
