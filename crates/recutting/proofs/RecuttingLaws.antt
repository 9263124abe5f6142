-- From the contracts of the calls alone, on one graph: where the atom mask gets a part of the missing list added, the next list is the old one without that part (`part_cut`), and where it gets the whole list, the
-- next is empty (`list_cut`). With more cuts in either mask, no atom that is not cut leaves the list (`stays_missing`). Preparation marks no atom exactly if the loop test says no
-- (`marks_loops`).
use mathlib.Core.Path.{◌≡◌, refl, sym, ap, ◌∙◌, subst}
use mathlib.Core.Logic.{◌↔◌}
use mathlib.Core.Bool.{Bool, true, false, not, ◌&&◌, ◌||◌, cond}
use mathlib.Core.List.{List, [], ◌∷◌, ◌++◌}
use Prim.Native.Nat.{ℕ, ◌<◌}
use lib.Dec.{eqb}
use lib.ListN.{get_or}
use Rattle.theory.specs.Sets.{Is, Set, ◌⊆◌}
use Rattle.theory.specs.Theory.{WellFormed}
use Rattle.theory.specs.Words.{theory_of, bit_at}
use Rattle.theory.specs.Accepted.{Edition}
use Rattle.theory.specs.Founded.{has_cycle, cyclic, missing}
use Rattle.theory.proofs.SetLaws.{clash, is_false, same_test, and_intro, and_left, and_right, not_true, not_false}
use Rattle.theory.proofs.FoundedLaws.{missing_parts}
use Rattle.theory.proofs.CutLaws.{Within, more_cuts, cut_missing}
use Rattle.theory.proofs.LoopLaws.{loop_cyclic}
use Rattle.mask.specs.Mask.{pack}
use Rattle.mask.proofs.MaskLaws.{pack_ext}
use Rattle.refusals.specs.Answer.{Answer, accept, first_refusal}
use Rattle.refusals.specs.Refusals.{graph_rows, graph_answer}
use Rattle.refusals.proofs.AcceptedLaws.{accepted}
use Rattle.cycles.specs.Outcome.{Outcome, loops, refused, refusal}
use Rattle.founded.specs.Answers.{prepare_answer, complete_answer}
use Rattle.founded.proofs.DemandLaws.{list_missing}
use Rattle.founded.proofs.OutputLaws.{cyclic_list}
use Rattle.recutting.specs.Recutting.{Lists, Marks, Says, Empty}

-- where no row of a table refuses, none of its first rows does
first_accept : (rows more : List Answer) → first_refusal (rows ++ more) ≡ accept → first_refusal rows ≡ accept
unfolding first_refusal
first_accept [] more e = refl
first_accept (a ∷ rows) more e = go (eqb a.number 0) refl (first_accept rows more) e
  where
    go : (b : Bool) → eqb a.number 0 ≡ b → (first_refusal (rows ++ more) ≡ accept → first_refusal rows ≡ accept) → cond b (first_refusal (rows ++ more)) a ≡ accept → cond b (first_refusal rows) a ≡ accept
    go true t ih e = ih e
    go false t ih e = e

-- an answer of the loop test is the rule's
told : (ed : Edition) (graph : List ℕ) {reply : Bool} → Says ed graph reply → has_cycle (theory_of graph) ≡ reply
told ed graph {reply} s = go (eqb (refusal ed graph s.0).number 0) s.1
  where
    of : Outcome → Bool
    of (loops b) = b
    of (refused a) = has_cycle (theory_of graph)

    go : (t : Bool) → cond t (loops (has_cycle (theory_of graph))) (refused (refusal ed graph s.0)) ≡ loops reply → has_cycle (theory_of graph) ≡ reply
    go true e = ap of e
    go false e = ap of e

module _ {ed : Edition} {graph : List ℕ} where
  -- the graph of a pass that succeeds, or of such a preparation, is well formed
  listed_formed : {never atom_never list : List ℕ} → Lists ed graph never atom_never list → WellFormed (theory_of graph)
  unfolding graph_answer complete_answer
  listed_formed r = (accepted ed graph (first_accept (graph_rows ed graph) _ (sym r.3.answer))).well_formed

  marked_formed : {list : List ℕ} → Marks ed graph list → WellFormed (theory_of graph)
  unfolding graph_answer prepare_answer
  marked_formed r = (accepted ed graph (first_accept (graph_rows ed graph) _ (sym r.3.answer))).well_formed

  -- its bits are the missing atoms
  list_bits : {never atom_never list : List ℕ} → Lists ed graph never atom_never list → bit_at list ≡ missing (theory_of graph) (bit_at never) (bit_at atom_never)
  list_bits r = list_missing r.3.leaves refl

  module _ {never atom_never list more rest : List ℕ} (one : Lists ed graph never atom_never list) (two : Lists ed graph never more rest) where
    pub part_cut : (part : Set) → part ⊆ bit_at list → ((a : ℕ) → a < (theory_of graph).atoms → bit_at more a ≡ bit_at atom_never a || part a) → rest ≡ pack (get_or graph 1 0) (λ a. bit_at list a && not (part a))
    part_cut part inside cut = two.3.leaves.output_after ∙ pack_ext (get_or graph 1 0) _ _ (λ a l. same_test _ _ (there a) (back a))
      where
        law : (a : ℕ) → Is (missing (theory_of graph) (bit_at never) (bit_at more) a) ↔ (Is (missing (theory_of graph) (bit_at never) (bit_at atom_never) a) × (part a ≡ false))
        law = cut_missing (theory_of graph) (listed_formed one) (bit_at never) (bit_at atom_never) part (bit_at more) (subst (λ (s : Set). part ⊆ s) (list_bits one) inside) cut

        there : (a : ℕ) → Is (missing (theory_of graph) (bit_at never) (bit_at more) a) → Is (bit_at list a && not (part a))
        there a m = let r = (law a).0 m in and_intro (ap (λ (s : Set). s a) (list_bits one) ∙ r.0) (not_false (part a) r.1)

        back : (a : ℕ) → Is (bit_at list a && not (part a)) → Is (missing (theory_of graph) (bit_at never) (bit_at more) a)
        back a m = (law a).1 (sym (ap (λ (s : Set). s a) (list_bits one)) ∙ and_left (bit_at list a) _ m, not_true (part a) (and_right (bit_at list a) _ m))

    pub list_cut : ((a : ℕ) → a < (theory_of graph).atoms → bit_at more a ≡ bit_at atom_never a || bit_at list a) → Empty rest
    list_cut cut a = ap (λ (s : Set). s a) (list_bits two) ∙ is_false _ (λ m. let r = (law a).0 m in clash (ap (λ (s : Set). s a) (list_bits one) ∙ r.0) r.1)
      where
        law : (a : ℕ) → Is (missing (theory_of graph) (bit_at never) (bit_at more) a) ↔ (Is (missing (theory_of graph) (bit_at never) (bit_at atom_never) a) × (bit_at list a ≡ false))
        law = cut_missing (theory_of graph) (listed_formed one) (bit_at never) (bit_at atom_never) (bit_at list) (bit_at more) (subst (λ (s : Set). bit_at list ⊆ s) (list_bits one) (λ b m. m)) cut

  pub stays_missing : {never atom_never list more_never more rest : List ℕ} → Lists ed graph never atom_never list → Lists ed graph more_never more rest
      → Within (theory_of graph).nodes (bit_at never) (bit_at more_never) → Within (theory_of graph).atoms (bit_at atom_never) (bit_at more)
      → (a : ℕ) → Is (bit_at list a) → bit_at more a ≡ false → Is (bit_at rest a)
  stays_missing {never} {atom_never} {list} {more_never} {more} one two nodes atoms a m e =
      let r = (missing_parts (theory_of graph) (bit_at never) (bit_at atom_never) a).0 (sym (ap (λ (s : Set). s a) (list_bits one)) ∙ m) in
      ap (λ (s : Set). s a) (list_bits two)
      ∙ (missing_parts (theory_of graph) (bit_at more_never) (bit_at more) a).1
      (r.0, e, is_false _ (λ f. clash (more_cuts (theory_of graph) (listed_formed one) (bit_at never) (bit_at atom_never) (bit_at more_never) (bit_at more) nodes atoms a f) r.2))

  pub marks_loops : {list : List ℕ} {reply : Bool} → Marks ed graph list → Says ed graph reply → Empty list ↔ (reply ≡ false)
  marks_loops {list} {reply} one two = (there, back)
    where
      law : Is (has_cycle (theory_of graph)) ↔ ((a : ℕ) × Is (cyclic (theory_of graph) a))
      law = loop_cyclic (theory_of graph) (marked_formed one)

      bits : bit_at list ≡ cyclic (theory_of graph)
      bits = ap bit_at one.3.leaves.output_after ∙ cyclic_list graph

      there : Empty list → reply ≡ false
      there h = is_false reply (λ y. let r = law.0 (told ed graph two ∙ y) in clash r.1 (sym (ap (λ (s : Set). s r.0) bits) ∙ h r.0))

      back : reply ≡ false → Empty list
      back y a = ap (λ (s : Set). s a) bits ∙ is_false _ (λ m. clash (law.1 (a, m)) (told ed graph two ∙ y))
