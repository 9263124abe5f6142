-- The call's answers and what each leaves: a refusal of the graph (`graph_refused`), of lengths, of a number in both masks, of the work area (`lengths_refused`, `both_refused`,
-- `work_refused`), of an absorbed node (`absorbed_refused`), and success (`listed`), whose two lists are read over all choices.
use mathlib.Core.Path.{◌≡◌, refl, sym, ap, ◌∙◌, fun_ext}
use mathlib.Core.Logic.{◌↔◌}
use mathlib.Core.Bool.{Bool, true, false}
use mathlib.Core.List.{List, [], ◌∷◌}
use Prim.Native.Nat.{ℕ, ◌<◌}
use lib.Dec.{eqb}
use lib.ListN.{length, get_or, replicate}
use Rattle.std.specs.Prelude.{Ok, Err}
use Rattle.theory.specs.Sets.{Set, Is}
use Rattle.theory.specs.Words.{theory_of, bit_at}
use Rattle.theory.specs.Accepted.{edition1}
use Rattle.theory.specs.Founded.{missing}
use Rattle.theory.proofs.SetLaws.{is_false, same_test, and_left}
use Rattle.theory.proofs.UnfoundedLaws.{missing_unfounded}
use Rattle.choices.specs.Undecided.{MissingAlways, MissingSometimes, always_missing, shut, sometimes_missing}
use Rattle.choices.proofs.UndecidedLaws.{always_exactly, undecided_out, sometimes_pass, always_tried, sometimes_tried, all_decided}
use Rattle.mask.specs.Mask.{pack}
use Rattle.refusals.specs.Answer.{Answer, accept, refuse_if, or_next, first_refusal}
use Rattle.refusals.specs.Refusals.{graph_rows, graph_answer, absorbed_row, refused_as}
use Rattle.refusals.specs.declared.Refusal.{Refusal}
use Rattle.refusals.proofs.RowLaws.{rows_append}
use Rattle.refusals.proofs.AcceptedLaws.{accepted}
use Rattle.preparation.specs.Flags.{Refused as AbsorbedFound}
use Rattle.founded.specs.Answers.{bad_work}
use Rattle.founded.proofs.CallLaws.{not_zero}
use Rattle.founded.proofs.OutcomeLaws.{graph_number}
use Rattle.founded.proofs.OutputLaws.{set_list}
use Rattle.undecided.specs.declared.OpenError.{OpenError}
use Rattle.undecided.specs.declared.OpenError.TheVariants.{Refused, Lengths, Both, Work, Absorbed}
use Rattle.undecided.specs.Answers.{open_as, bad_open_lengths, cut_and_open, undecided_answer, Undecides}

module _ (ws never atom_never open_nodes open_atoms always sometimes work : List ℕ) where
  abbrev lengths : Bool
  lengths = bad_open_lengths ws (length never) (length atom_never) (length open_nodes) (length open_atoms) (length always) (length sometimes)

  abbrev both : Bool
  both = cut_and_open ws never atom_never open_nodes open_atoms

  abbrev area : Bool
  area = bad_work edition1 ws (length work)

  -- the rows after the graph's
  late : Answer
  late = or_next (refuse_if 10 lengths) (or_next (refuse_if 21 both) (or_next (refuse_if 11 area) (or_next (absorbed_row (theory_of ws)) accept)))

  rows : undecided_answer ws never atom_never open_nodes open_atoms (length always) (length sometimes) (length work) ≡ or_next (graph_answer edition1 ws) late
  unfolding undecided_answer graph_answer first_refusal late
  rows = rows_append (graph_rows edition1 ws) (refuse_if 10 lengths ∷ refuse_if 21 both ∷ refuse_if 11 area ∷ absorbed_row (theory_of ws) ∷ [])

  -- a refusal but 12 leaves all as it was
  kept : (e : OpenError) → open_as e ≡ or_next (graph_answer edition1 ws) late → (eqb (open_as e).number 0 ≡ false) × (eqb (open_as e).number 12 ≡ false)
      → Undecides ws never atom_never open_nodes open_atoms always sometimes work always sometimes work (Err e)
  kept e q n = record {
    answer = q ∙ sym rows;
    done = not_zero n.0;
    leaves = record {
      always_after = rw n.0;
      sometimes_after = rw n.0;
      work_after = rw (n.0, n.1);
      every = not_zero n.0;
      some = not_zero n.0;
      left_out = not_zero n.0;
      lone = not_zero n.0;
    };
  }

  pub graph_refused : (e : Refusal) → refused_as e ≡ graph_answer edition1 ws → Undecides ws never atom_never open_nodes open_atoms always sometimes work always sometimes work (Err (Refused e))
  graph_refused e q = let k = graph_number e in kept (Refused e) (rw (← q, k.0) refl) k

  module _ (ok : graph_answer edition1 ws ≡ accept) where
    pub lengths_refused : lengths ≡ true → Undecides ws never atom_never open_nodes open_atoms always sometimes work always sometimes work (Err Lengths)
    unfolding late
    lengths_refused l = kept Lengths (rw (ok, l) refl) (refl, refl)

    module _ (l : lengths ≡ false) where
      pub both_refused : both ≡ true → Undecides ws never atom_never open_nodes open_atoms always sometimes work always sometimes work (Err Both)
      unfolding late
      both_refused b = kept Both (rw (ok, l, b) refl) (refl, refl)

      module _ (b : both ≡ false) where
        pub work_refused : area ≡ true → Undecides ws never atom_never open_nodes open_atoms always sometimes work always sometimes work (Err Work)
        unfolding late
        work_refused r = kept Work (rw (ok, l, b, r) refl) (refl, refl)

        module _ (r : area ≡ false) (w : List ℕ) {work' : List ℕ} (z : work' ≡ replicate (length w) 0) where
          pub absorbed_refused : {n : ℕ} → AbsorbedFound ws work w n → Undecides ws never atom_never open_nodes open_atoms always sometimes work always sometimes work' (Err (Absorbed n))
          unfolding late
          absorbed_refused {n} h = record {
            answer = rw (rows, ok, l, b, r, h.row) refl;
            done = not_zero refl;
            leaves = record {
              always_after = refl;
              sometimes_after = refl;
              work_after = z ∙ rw h.size;
              every = not_zero refl;
              some = not_zero refl;
              left_out = not_zero refl;
              lone = not_zero refl;
            };
          }

          module _ (s : length w ≡ length work) (row : absorbed_row (theory_of ws) ≡ accept) {always' sometimes' : List ℕ}
              (f : always' ≡ pack (get_or ws 1 0) (always_missing (theory_of ws) (bit_at never) (bit_at atom_never) (bit_at open_atoms)))
              (g : sometimes' ≡ pack (get_or ws 1 0) (sometimes_missing (theory_of ws) (bit_at never) (bit_at open_nodes) (bit_at atom_never) (bit_at open_atoms))) where
            first : Set
            first = always_missing (theory_of ws) (bit_at never) (bit_at atom_never) (bit_at open_atoms)

            second : Set
            second = sometimes_missing (theory_of ws) (bit_at never) (bit_at open_nodes) (bit_at atom_never) (bit_at open_atoms)

            first_bits : bit_at always' ≡ first
            unfolding always_missing first
            first_bits = rw f (set_list ws first (λ a p. (missing_unfounded (theory_of ws) (bit_at never) (bit_at atom_never)).atom a (and_left (missing (theory_of ws) (bit_at never) (bit_at atom_never) a) _ p)))

            second_bits : bit_at sometimes' ≡ second
            unfolding sometimes_missing second
            second_bits = rw g (set_list ws second (missing_unfounded (theory_of ws) (shut (theory_of ws) (bit_at never) (bit_at open_nodes) (bit_at open_atoms)) (bit_at atom_never)).atom)

            every : (a : ℕ) → Is (bit_at always' a) ↔ MissingAlways (theory_of ws) (bit_at never) (bit_at open_nodes) (bit_at atom_never) (bit_at open_atoms) a
            unfolding first
            every a = let k = always_exactly (theory_of ws) (accepted edition1 ws ok).well_formed (bit_at never) (bit_at open_nodes) (bit_at atom_never) (bit_at open_atoms) a in rw first_bits (k.1, k.0)

            some : (a : ℕ) → Is (bit_at sometimes' a) ↔ MissingSometimes (theory_of ws) (bit_at never) (bit_at open_nodes) (bit_at atom_never) (bit_at open_atoms) a
            unfolding second
            some a = let k = sometimes_pass (theory_of ws) (accepted edition1 ws ok).well_formed (bit_at never) (bit_at open_nodes) (bit_at atom_never) (bit_at open_atoms) a in rw second_bits (k.1, k.0)

            -- with nothing undecided
            plain : ((n : ℕ) → n < get_or ws 2 0 → bit_at open_nodes n ≡ false) → ((a : ℕ) → a < get_or ws 1 0 → bit_at open_atoms a ≡ false)
                → (always' ≡ pack (get_or ws 1 0) (missing (theory_of ws) (bit_at never) (bit_at atom_never))) × (sometimes' ≡ pack (get_or ws 1 0) (missing (theory_of ws) (bit_at never) (bit_at atom_never)))
            unfolding theory_of first second
            plain p q =
                let ok = (accepted edition1 ws ok).well_formed in
                let d = all_decided (theory_of ws) ok (bit_at never) (bit_at open_nodes) (bit_at atom_never) (bit_at open_atoms) p q in (
                  f ∙ ap (pack (get_or ws 1 0)) (fun_ext (λ a. let k = always_exactly (theory_of ws) ok (bit_at never) (bit_at open_nodes) (bit_at atom_never) (bit_at open_atoms) a in
                      same_test (first a) _ (λ m. (d a).0.0 (k.1 m)) (λ m. k.0 ((d a).0.1 m)))),
                  g ∙ ap (pack (get_or ws 1 0)) (fun_ext (λ a. let k = sometimes_pass (theory_of ws) ok (bit_at never) (bit_at open_nodes) (bit_at atom_never) (bit_at open_atoms) a in
                      same_test (second a) _ (λ m. (d a).1.0 (k.1 m)) (λ m. k.0 ((d a).1.1 m)))),
                )

            pub listed : Undecides ws never atom_never open_nodes open_atoms always sometimes work always' sometimes' work' (Ok (tt {0}))
            unfolding late
            listed =
                let wf = (accepted edition1 ws ok).well_formed in
                record {
                  answer = sym (rows ∙ rw (ok, l, b, r, row) refl);
                  done = λ q. refl;
                  leaves = record {
                    always_after = f ∙ ap (pack (get_or ws 1 0)) (fun_ext (always_tried (theory_of ws) wf (bit_at never) (bit_at open_nodes) (bit_at atom_never) (bit_at open_atoms)));
                    sometimes_after = g ∙ ap (pack (get_or ws 1 0)) (fun_ext (sometimes_tried (theory_of ws) wf (bit_at never) (bit_at open_nodes) (bit_at atom_never) (bit_at open_atoms)));
                    work_after = z ∙ rw s refl;
                    every = λ q. every;
                    some = λ q. some;
                    left_out = λ q a p. is_false (bit_at always' a) (λ t. undecided_out (theory_of ws) wf (bit_at never) (bit_at open_nodes) (bit_at atom_never) (bit_at open_atoms) a p ((every a).0 t));
                    lone = λ q p d out w out' w' h. let k = plain p d in (k.0 ∙ sym h.output_after, k.1 ∙ sym h.output_after);
                  };
                }
