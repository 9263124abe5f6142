use native.Mathlib.Omega.{arith}
use mathlib.Core.Path.{◌≡◌, refl, sym, ◌∙◌}
use Prim.Native.Nat.{◌+◌, ◌*◌, ◌≤◌, ◌<◌}
use lib.ListN.{length, get_or, length-append}
use Rattle.mask.specs.Mask.{words_of}
use Rattle.area.specs.Rooms.{edition1_roomy}
use Rattle.branch.specs.Answers.{missing_of}
use Rattle.branch.specs.Branch.{AllPaired}
use Rattle.branch.proofs.PartLaws.{mul_fits, lists_next, lists_none, end_whole}
use Rattle.branch.proofs.ListLaws.{missing_words}
use Rattle.branch.proofs.StageLaws.{again_first, stood, not_stood}
use Rattle.branch.proofs.all_pairs.Goals as goal

pub bases_of-b-requires : goal.bases_of-b-requires
bases_of-b-requires c = (c.requires.accepted.0, edition1_roomy c.requires.accepted.0 refl)

pub stand-requires : goal.stand-requires
stand-requires c = (c.requires.accepted.0, rw c.split_at_mut-lone.ensures.front_len c.bases_of-b.ensures)

pub returns-in_err-c : goal.returns-in_err-c
returns-in_err-c c =
    let k = not_stood _ _ _ _ c.args.never.now c.args.atom_never.now c.args.pairs c.args.output.now c.in_err-c.field-0.0 c.from_residual.result c.from_residual.ensures.1 c.in_err-c.ensures in
    let l = c.requires.accepted.1 in let f = c.split_at_mut-lone.ensures.front_len in let b = c.split_at_mut-lone.ensures.back_len in let z = k.1 in
    (k.0, length-append c.stand.new.work c.split_at_mut-lone.result.1.now ∙ omega arith)

pub first_pair-requires-clause-standing : goal.first_pair-requires-clause-standing
first_pair-requires-clause-standing c = (c.requires.accepted.0, (stood _ _ _ _ _ c.in_ok-c.ensures).2)

pub first_pair-requires-clause-fits : goal.first_pair-requires-clause-fits
first_pair-requires-clause-fits c =
    let r = c.requires.fits in let f = r.2.nodes in let g = r.2.atoms in let h = r.2.lists in
    let m = mul_fits (words_of (get_or c.args.graph.now 2 0)) 0 c.args.pairs (omega arith) in let n = mul_fits (words_of (get_or c.args.graph.now 1 0)) 0 c.args.pairs (omega arith) in
    record { nodes = omega arith; atoms = omega arith; lists = omega arith }

pub later_pairs-requires-clause-sourced : goal.later_pairs-requires-clause-sourced
later_pairs-requires-clause-sourced c = again_first c.requires.accepted.0 (stood _ _ _ _ _ c.in_ok-c.ensures).2 c.first_pair.ensures.outside c.first_pair.ensures.rests

pub returns-then-pairs-gt1 : goal.returns-then-pairs-gt1
unfolding AllPaired
returns-then-pairs-gt1 c =
    let r = c.requires.fits in let s = stood _ _ _ _ _ c.in_ok-c.ensures in
    let m = mul_fits (words_of (get_or c.args.graph.now 1 0)) 0 c.args.pairs (omega arith) in let h = r.2.lists in
    let one = lists_next (missing_of c.args.graph.now c.args.never.now c.args.atom_never.now) (words_of (get_or c.args.graph.now 1 0)) (missing_words c.args.graph.now c.args.never.now c.args.atom_never.now) 0 c.args.output.now (lists_none (missing_of c.args.graph.now c.args.never.now c.args.atom_never.now) (words_of (get_or c.args.graph.now 1 0)) (missing_words c.args.graph.now c.args.never.now c.args.atom_never.now) c.args.output.now) c.first_pair.ensures.list (omega arith) in
    let l = c.requires.accepted.1 in let f = c.split_at_mut-lone.ensures.front_len in let b = c.split_at_mut-lone.ensures.back_len in let z = s.0 in let y = c.first_pair.ensures.outside.size in let u = c.later_pairs.auto.lone in let v = c.later_pairs.auto.rest in
    ((s.1, c.later_pairs.ensures c.args.output.now h one ∙ end_whole (missing_of c.args.graph.now c.args.never.now c.args.atom_never.now) (words_of (get_or c.args.graph.now 1 0)) (missing_words c.args.graph.now c.args.never.now c.args.atom_never.now) c.args.pairs c.args.output.now r.3), length-append c.later_pairs.new.lone c.later_pairs.new.rest ∙ omega arith)

pub returns-else-pairs-gt1 : goal.returns-else-pairs-gt1
unfolding AllPaired
returns-else-pairs-gt1 c =
    let r = c.requires.fits in let s = stood _ _ _ _ _ c.in_ok-c.ensures in
    let m = mul_fits (words_of (get_or c.args.graph.now 1 0)) 0 c.args.pairs (omega arith) in let h = r.2.lists in
    let one = lists_next (missing_of c.args.graph.now c.args.never.now c.args.atom_never.now) (words_of (get_or c.args.graph.now 1 0)) (missing_words c.args.graph.now c.args.never.now c.args.atom_never.now) 0 c.args.output.now (lists_none (missing_of c.args.graph.now c.args.never.now c.args.atom_never.now) (words_of (get_or c.args.graph.now 1 0)) (missing_words c.args.graph.now c.args.never.now c.args.atom_never.now) c.args.output.now) c.first_pair.ensures.list (omega arith) in
    let e : c.args.pairs ≡ 1 = let t = c.if-pairs-gt1.false in omega arith in
    let l = c.requires.accepted.1 in let f = c.split_at_mut-lone.ensures.front_len in let b = c.split_at_mut-lone.ensures.back_len in let z = s.0 in let y = c.first_pair.ensures.outside.size in
    ((s.1, rw e (one ∙ end_whole (missing_of c.args.graph.now c.args.never.now c.args.atom_never.now) (words_of (get_or c.args.graph.now 1 0)) (missing_words c.args.graph.now c.args.never.now c.args.atom_never.now) 1 c.args.output.now (rw e at r.3))), length-append c.first_pair.new.lone c.split_at_mut-lone.result.1.now ∙ omega arith)
