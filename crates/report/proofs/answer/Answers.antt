use mathlib.Core.Path.{◌≡◌, sym, ap, ◌∙◌}
use native.Mathlib.Omega.{arith}
use Prim.Native.Nat.{ℕ, ◌/◌, ◌<◌}
use lib.ListN.{length, get_or}
use lib.Seq.{take-append_seam, length-take-le}
use Rattle.theory.specs.Accepted.{edition1}
use Rattle.refusals.specs.Refusals.{graph_answer}
use Rattle.refusals.proofs.RefusedLaws.{is_error}
use Rattle.refusals.proofs.PlaceLaws.{graph_place}
use Rattle.founded.specs.declared.CallError.TheVariants.{Refused}
use Rattle.mask.specs.Mask.{words_of}
use Rattle.input.specs.Bytes.{words}
use Rattle.report.proofs.CallLaws.{atom_words, atom_room, answered_graph, answered_masks, answered_same, answer_row, atom_mask_lem, node_mask_lem}
use Rattle.report.proofs.answer.Goals as goal

pub returns-in_err-check : goal.returns-in_err-check
returns-in_err-check c =
    let words = c.type_inv.graph in
    let e = c.in_err-check.field-0.0 in
    let low : (graph_answer edition1 c.args.graph.now).place < 65536 =
    graph_place (omega arith) edition1 c.args.graph.now (omega (arith, words 2)) (omega (arith, words 3)) (omega (arith, words 4)) in
    answered_graph c.args.masks.now e (is_error (Refused e) c.from_residual.result c.from_residual.ensures.1) c.in_err-check.ensures low

pub returns-then-bad_masks : goal.returns-then-bad_masks
returns-then-bad_masks c =
    answered_masks c.args.masks.now (sym c.in_ok-check.ensures) (sym c.bad_masks.ensures ∙ c.if-bad_masks.true)

pub returns : goal.returns
returns c =
    let n = c.words-atoms.ensures.count ∙ ap (λ (k : ℕ). k / 8) c.split_at.ensures.front_len in
    let part : words_of (get_or c.args.graph.now 1 0) ≡ length c.pass.new.output = sym (c.pass.auto.output ∙ length-take-le _ _ (omega (arith, atom_room c.atom_bytes.ensures n)) ∙ atom_words c.atom_bytes.ensures n) in
    answered_same (answer_row c.args.graph.now c.args.masks.now (sym c.in_ok-check.ensures) (sym c.bad_masks.ensures ∙ c.if-bad_masks.false))
    (c.words-nodes.ensures.decoded ∙ ap (words 8) c.split_at.ensures.back ∙ node_mask_lem c.atom_bytes.ensures)
    (c.words-atoms.ensures.decoded ∙ ap (words 8) c.split_at.ensures.front ∙ atom_mask_lem c.atom_bytes.ensures)
    (rw part (take-append_seam c.pass.new.output _)) c.pass.ensures
