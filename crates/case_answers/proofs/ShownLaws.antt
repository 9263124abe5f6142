-- The contracts of the loop test and of the pass give the outcome of each row of the table of C1 to C12 (`calls`): rows 1 to 10 accept its words and masks
-- (`accepts`, by computing), row 12 refuses at the first absorbed node of the body cone (`row_first`), and the rules give its outcome (`cases` of theory).
use mathlib.Core.Path.{◌≡◌, refl, sym, ap, ◌∙◌, subst}
use mathlib.Core.Bool.{Bool, true, false, cond}
use mathlib.Core.List.{List, [], ◌∷◌, ◌++◌}
use Prim.Native.Nat.{ℕ, zero, suc, ◌+◌}
use native.Mathlib.Omega.{arith}
use borrow.Author.Tests.{eq-eqb}
use lib.ListN.{length, get_or}
use Rattle.theory.specs.Sets.{Set, any, filled, members, sum_below}
use Rattle.theory.specs.Theory.{joins}
use Rattle.theory.specs.Edges.{absorbed_node}
use Rattle.theory.specs.Links.{after, link_after, comes_back}
use Rattle.theory.specs.Words.{kind_of, chain_in, chain, theory_of, bit_at}
use Rattle.theory.specs.Accepted.{edition1}
use Rattle.theory.specs.Founded.{missing}
use Rattle.theory.specs.Cases.{Outcome, told_by, outcome, Case, case, table, Agrees, Every}
use Rattle.theory.proofs.CaseLaws.{cases}
use Rattle.mask.specs.Mask.{words_of}
use Rattle.graph.specs.Kinds.{takes_operand}
use Rattle.refusals.specs.Answer.{Answer, accept, refuse, or_next, refuse_first, first_refusal}
use Rattle.refusals.specs.Refusals.{bad_edition, bad_counts, bad_entries, bad_operand, bad_first, bad_record, bad_body, bad_next, bad_size, graph_rows, graph_answer, absorbed_row}
use Rattle.founded.specs.Answers.{call_of, bad_lengths, Completes}
use Rattle.founded.specs.declared.CallError.{CallError}
use Rattle.std.specs.Prelude.{Result}
use Rattle.founded.proofs.CallLaws.{last_row, work_fits}
use Rattle.founded.proofs.DemandLaws.{list_missing}
use Rattle.case_answers.specs.Shown.{Shows, lent, Shown}

-- rows 1 to 10 accept
unfoldable Accepts : Case → Type 0
Accepts c = (graph_answer edition1 (lent c) ≡ accept) × (bad_lengths (lent c) (length c.never) (length c.atom_never) (words_of (get_or (lent c) 1 0)) ≡ false)

accepts : Every Accepts table
unfolding Every Accepts table case
    any filled sum_below joins kind_of chain_in chain theory_of takes_operand refuse_first first_refusal
    after link_after comes_back bad_edition bad_counts bad_entries bad_operand bad_first bad_record bad_body bad_next bad_size graph_rows graph_answer bad_lengths
accepts =
    ((refl, refl), ((refl, refl), ((refl, refl), ((refl, refl), ((refl, refl), ((refl, refl), ((refl, refl), ((refl, refl), ((refl, refl), ((refl, refl), ((refl, refl), ((refl, refl), ((refl, refl), ((refl, refl), ((refl, refl), tt)))))))))))))))

-- a refusal at the first of a list of places
abbrev at_first : ℕ → List ℕ → Answer
at_first number [] = accept
at_first number (n ∷ later) = refuse number n

first_append : (l k : List ℕ) → at_first 12 (l ++ k) ≡ or_next (at_first 12 l) (at_first 12 k)
first_append [] k = refl
first_append (n ∷ l) k = refl

-- one place more
refuse_more : (s : Set) (i count : ℕ) {end : ℕ} → i + count ≡ end → refuse_first 12 s i (suc count) ≡ or_next (refuse_first 12 s i count) (cond (s end) (refuse 12 end) accept)
unfolding refuse_first
refuse_more s i zero {end} e = let same : i ≡ end = omega arith in rw same refl
refuse_more s i (suc count) {end} e = go (s i) (refuse_more s (suc i) count (omega arith))
  where
    go : (b : Bool) → refuse_first 12 s (suc i) (suc count) ≡ or_next (refuse_first 12 s (suc i) count) (cond (s end) (refuse 12 end) accept)
        → cond b (refuse 12 i) (refuse_first 12 s (suc i) (suc count)) ≡ or_next (cond b (refuse 12 i) (refuse_first 12 s (suc i) count)) (cond (s end) (refuse 12 end) accept)
    go true ih = refl
    go false ih = ih

-- the row is the refusal at the first of the set's members
row_first : (s : Set) (n : ℕ) → refuse_first 12 s 0 n ≡ at_first 12 (members n s)
unfolding refuse_first members
row_first s zero = refl
row_first s (suc n) = refuse_more s 0 n (omega arith) ∙ ap (λ (a : Answer). or_next a (cond (s n) (refuse 12 n) accept)) (row_first s n) ∙ go (s n)
  where
    go : (b : Bool) → or_next (at_first 12 (members n s)) (cond b (refuse 12 n) accept) ≡ at_first 12 (cond b (members n s ++ (n ∷ [])) (members n s))
    go true = sym (first_append (members n s) (n ∷ []))
    go false = last (members n s)
      where
        last : (l : List ℕ) → or_next (at_first 12 l) accept ≡ at_first 12 l
        last [] = refl
        last (x ∷ l) = refl

-- where row 12 alone is left, the pass shows what the rules give
rules_shown : {ws never atom_never output work output' work' : List ℕ} {r : Result (Unit {0}) CallError} → call_of r ≡ absorbed_row (theory_of ws)
    → Completes edition1 ws never atom_never output work output' work' r → Shows (outcome (theory_of ws) (bit_at never) (bit_at atom_never)) (get_or ws 1 0) (call_of r) output output'
unfolding outcome theory_of
rules_shown {ws} {never} {atom_never} {output} {output' = output'} {r = r} row h = go (members (get_or ws 2 0) (absorbed_node (theory_of ws))) (row ∙ row_first (absorbed_node (theory_of ws)) (get_or ws 2 0))
  where
    go : (l : List ℕ) → call_of r ≡ at_first 12 l → Shows (told_by l (members (get_or ws 1 0) (missing (theory_of ws) (bit_at never) (bit_at atom_never)))) (get_or ws 1 0) (call_of r) output output'
    go [] e = (e, rw (list_missing h.leaves (ap (λ (a : Answer). a.number) e)) refl)
    go (n ∷ later) e = (e, h.leaves.output_after ∙ rw (ap (λ (a : Answer). a.number) e) refl)

row_shown : (c : Case) → Agrees c → Accepts c → Shown c
unfolding Agrees Accepts Shown
row_shown c rules ok = (
  λ work hw. rw (ok.0, eq-eqb (length work) 32768 hw, rules.0),
  λ output work output' work' r ho hw h.
      subst (λ (o : Outcome). Shows o (get_or (lent c) 1 0) (call_of r) output output') rules.1
      (rules_shown (last_row ok.0 (ap (bad_lengths (lent c) (length c.never) (length c.atom_never)) ho ∙ ok.1) (work_fits edition1 (lent c) (length work) hw) h) h),
)

every : {P Q R : Case → Type 0} → ((c : Case) → P c → Q c → R c) → (cs : List Case) → Every P cs → Every Q cs → Every R cs
unfolding Every
every f [] p q = tt
every f (c ∷ cs) p q = (f c p.0 q.0, every f cs p.1 q.1)

pub calls : Every Shown table
calls = every row_shown table cases accepts
