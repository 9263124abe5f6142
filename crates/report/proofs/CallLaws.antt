-- What the calls answer on an accepted graph, and the text that their answers make.
use mathlib.Core.Path.{◌≡◌, refl, sym, ap, ◌∙◌}
use mathlib.Core.Logic.{◌⊎◌, inl, inr}
use mathlib.Core.Bool.{Bool, true, false}
use mathlib.Core.List.{List, [], ◌∷◌, ◌++◌}
use Prim.Native.Nat.{ℕ, ◌+◌, ◌*◌, ◌/◌, ◌≤◌, ◌<◌}
use native.Mathlib.Omega.{arith}
use lib.Dec.{eqb}
use lib.ListN.{length, get_or, take, drop, length-take}
use lib.Seq.{length-take-le}
use borrow.Author.Tests.{eq-eqb, le-ltb, ne_eqb, eqb-true, eqb-false, not-false}
use Rattle.std.specs.Prelude.{Result, Ok, Err}
use Rattle.theory.specs.Sets.{members}
use Rattle.theory.specs.Words.{theory_of, bit_at}
use Rattle.theory.specs.Accepted.{edition1}
use Rattle.theory.specs.Founded.{has_cycle, missing}
use Rattle.theory.proofs.SetLaws.{bool_cases}
use Rattle.mask.specs.Mask.{words_of, pack}
use Rattle.refusals.specs.Answer.{Answer, accept, refuse, or_next, first_refusal}
use Rattle.refusals.specs.Refusals.{graph_rows, graph_answer, absorbed_row, refused_as}
use Rattle.refusals.specs.declared.Refusal.{Refusal}
use Rattle.refusals.proofs.AcceptedLaws.{accepted}
use Rattle.founded.specs.Answers.{bad_lengths, call_of, Completes}
use Rattle.founded.specs.declared.CallError.{CallError}
use Rattle.founded.specs.declared.CallError.TheVariants.{Refused, Lengths}
use Rattle.refusals.proofs.RefusedLaws.{number_some}
use Rattle.founded.proofs.OutputLaws.{missing_list}
use Rattle.founded.proofs.CallLaws.{absorbed_last, last_row, work_fits}
use Rattle.input.specs.Bytes.{words}
use Rattle.text.specs.Text.{loops_line, missing_line, refused_line, Appended}
use Rattle.report.specs.Report.{lines, atom_mask, node_mask, bad_masks, answer, text_by, Printed, Split}
use Rattle.report.specs.Answered.{Refuses, Ready, Answered}

-- ---- the pass

-- nothing but row 12 is left for the pass to refuse
pub pass_row : {graph never atom_never output work output' work' : List ℕ} {r : Result (Unit {0}) CallError} → Ready graph never atom_never output → length work ≡ 32768
    → Completes edition1 graph never atom_never output work output' work' r → absorbed_row (theory_of graph) ≡ call_of r
unfolding bad_lengths
pass_row {graph} {never} {atom_never} {output} {work} ready hw done =
    let fit : bad_lengths graph (length never) (length atom_never) (length output) ≡ false =
    rw (le-ltb (words_of (get_or graph 2 0)) (length never) (omega (arith, ready.node_words)), le-ltb (words_of (get_or graph 1 0)) (length atom_never) (omega (arith, ready.atom_words)), eq-eqb (length output) _ ready.output_words) refl in
    sym (last_row ready.accepted fit (work_fits edition1 graph (length work) hw) done)

-- rows 1 to 10 accept, and so the answer is row 12's
pub answer_row : (graph masks : List ℕ) → graph_answer edition1 graph ≡ accept → bad_masks graph masks ≡ false → answer graph masks ≡ absorbed_row (theory_of graph)
unfolding answer first_refusal
answer_row graph masks e h = rw (e, h) (absorbed_last (theory_of graph))

-- ---- what is known before the text is written

pub answered_err : {a : Answer} {graph never atom_never output : List ℕ} {e : CallError} {r : Result Bool CallError} → r ≡ Err e → Refuses a e → Answered a graph never atom_never output r
answered_err k h = rw k record { says = record { ok = tt; err = h }; cycle = tt; listed = tt }

-- the same answer, the same masks and the same output
pub answered_same : {a b : Answer} {graph never atom_never output never' atom_never' output' : List ℕ} {r : Result Bool CallError} → a ≡ b
    → never' ≡ never → atom_never' ≡ atom_never → output ≡ output' → Answered b graph never' atom_never' output' r → Answered a graph never atom_never output r
answered_same e en ea eo t = rw (← en, ← ea, eo, e) t

-- ---- the text

pub refused_text : (a : Answer) (both : List ℕ) (n p : ℕ) → n ≡ a.number → p ≡ a.place → (n ≡ 0 → ⊥) → refused_line n p ≡ text_by a both
refused_text a both n p en ep h = rw (← en, ← ep, ne_eqb n 0 h)

-- what is appended at 0 stands within the buffer
append_within : {old text new : List ℕ} {r : ℕ} → Appended old 0 text new r → r ≤ length new
append_within {text = text} {new = new} {r = r} a = omega (arith, a.end, sym (length-take r new) ∙ ap length a.text_there)

pub print_both : {a : Answer} {graph never atom_never output both old new text : List ℕ} {r : ℕ} {yes : Bool} → Answered a graph never atom_never output (Ok yes) → text ≡ both
    → Appended old 0 text new r → Printed a both old new r
print_both a h t = record { within = append_within t; exact = sym (length-take-le _ _ (append_within t)); text = t.text_there ∙ rw (a.says.ok, h); behind = t.behind }

pub lines_same : (graph never atom_never output : List ℕ) (cycle : Bool) (atoms : ℕ) → cycle ≡ has_cycle (theory_of graph) → atoms ≡ get_or graph 1 0
    → output ≡ pack (get_or graph 1 0) (missing (theory_of graph) (bit_at never) (bit_at atom_never))
    → loops_line cycle ++ missing_line (members atoms (bit_at output)) ≡ lines graph never atom_never
lines_same graph never atom_never output cycle atoms ec ea eo = rw (ec, ea, eo, missing_list graph (bit_at never) (bit_at atom_never))

-- ---- an accepted graph, and a refused one

pub record Few (graph : List ℕ) : Type 0 where
  pub long : 5 ≤ length graph
  pub atoms : get_or graph 1 0 ≤ 1024
  pub nodes : get_or graph 2 0 ≤ 1024

pub accepted_few : (graph : List ℕ) → graph_answer edition1 graph ≡ accept → Few graph
accepted_few graph e = let a = accepted edition1 graph e in record { long = omega (arith, a.size); atoms = a.atoms_few; nodes = a.nodes_few }

-- a table that gives number 0 accepts
accepts : (rows : List Answer) → (first_refusal rows).number ≡ 0 → first_refusal rows ≡ accept
unfolding first_refusal
accepts [] e = refl
accepts (a ∷ rows) e = go (bool_cases (eqb a.number 0)) (accepts rows)
  where
    go : (eqb a.number 0 ≡ true) ⊎ (eqb a.number 0 ≡ false) → ((first_refusal rows).number ≡ 0 → first_refusal rows ≡ accept) → or_next a (first_refusal rows) ≡ accept
    go (inl t) ih = rw t (ih (rw t at e))
    go (inr f) ih = absurd (eqb-false a.number 0 f (rw f at e))

pub graph_accepts : (graph : List ℕ) → (graph_answer edition1 graph).number ≡ 0 → graph_answer edition1 graph ≡ accept
unfolding graph_answer
graph_accepts graph e = accepts (graph_rows edition1 graph) e

-- nothing refuses, and so the graph check does not
pub answer_accepts : (graph masks : List ℕ) → (answer graph masks).number ≡ 0 → graph_answer edition1 graph ≡ accept
unfolding answer first_refusal
answer_accepts graph masks e = go (bool_cases (eqb (graph_answer edition1 graph).number 0))
  where
    go : (eqb (graph_answer edition1 graph).number 0 ≡ true) ⊎ (eqb (graph_answer edition1 graph).number 0 ≡ false) → graph_answer edition1 graph ≡ accept
    go (inl t) = graph_accepts graph (eqb-true _ 0 t)
    go (inr f) = absurd (eqb-false _ 0 f (rw f at e))

pub answer_graph : (graph masks : List ℕ) (a : Answer) → graph_answer edition1 graph ≡ a → (a.number ≡ 0 → ⊥) → answer graph masks ≡ a
unfolding answer first_refusal
answer_graph graph masks a e h = rw (e, ne_eqb a.number 0 h)

pub answer_masks : (graph masks : List ℕ) → graph_answer edition1 graph ≡ accept → bad_masks graph masks ≡ true → answer graph masks ≡ refuse 10 0
unfolding answer first_refusal
answer_masks graph masks e h = rw (e, h)

-- the graph check's refusal is the program's
pub answered_graph : {graph never atom_never output : List ℕ} (masks : List ℕ) (e : Refusal) {r : Result Bool CallError} → r ≡ Err (Refused e) → refused_as e ≡ graph_answer edition1 graph
    → (graph_answer edition1 graph).place < 65536 → Answered (answer graph masks) graph never atom_never output r
answered_graph {graph} masks e k q low =
    answered_err k record { same = answer_graph graph masks (refused_as e) (sym q) (eqb-false _ 0 (number_some e)); place_low = rw q low }

pub answered_masks : {graph never atom_never output : List ℕ} (masks : List ℕ) → graph_answer edition1 graph ≡ accept → bad_masks graph masks ≡ true
    → Answered (answer graph masks) graph never atom_never output (Err Lengths)
answered_masks {graph} masks e h = answered_err refl record { same = answer_masks graph masks e h; place_low = omega arith }

pub answered_few : {graph never atom_never output : List ℕ} {yes : Bool} (masks : List ℕ) → Answered (answer graph masks) graph never atom_never output (Ok yes) → Few graph
answered_few {graph} masks a = accepted_few graph (answer_accepts graph masks a.says.ok)

-- ---- the masks

pub masks_split : (graph masks : List ℕ) (r : ℕ) → graph_answer edition1 graph ≡ accept → bad_masks graph masks ≡ false → r ≡ 8 * words_of (get_or graph 1 0) → Split graph masks r
unfolding bad_masks
masks_split graph masks r e h q =
    let few = accepted_few graph e in
    let total = eqb-true (length masks) (8 * words_of (get_or graph 1 0) + 8 * words_of (get_or graph 2 0)) (not-false _ h) in
    record { atoms = q; nodes = omega arith; atoms_few = omega arith; nodes_few = omega arith }

module _ {graph masks : List ℕ} {r : ℕ} (s : Split graph masks r) where
  -- the words of the first part, and that there is room for them
  pub atom_words : {n : ℕ} → n ≡ r / 8 → n ≡ words_of (get_or graph 1 0)
  atom_words e = omega (arith, e, s.atoms)

  pub atom_room : {n : ℕ} → n ≡ r / 8 → n ≤ 16
  atom_room e = omega (arith, e, s.atoms_few)

  pub atom_mask_lem : words 8 (take r masks) ≡ atom_mask graph masks
  atom_mask_lem = rw s.atoms

  pub node_mask_lem : words 8 (drop r masks) ≡ node_mask graph masks
  node_mask_lem = rw s.atoms
