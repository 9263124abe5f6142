use mathlib.Core.Path.{ap}
use native.Mathlib.Omega.{arith}
use Prim.Native.Nat.{◌<◌}
use lib.ListN.{length}
use Rattle.theory.specs.Accepted.{edition1}
use Rattle.refusals.specs.Answer.{Answer}
use Rattle.refusals.proofs.RefusedLaws.{is_error}
use Rattle.founded.specs.Answers.{turned_as}
use Rattle.founded.proofs.PlaceLaws.{completed_place}
use Rattle.report.proofs.CallLaws.{pass_row, answered_err}
use Rattle.report.proofs.pass.Goals as goal

pub returns-in_err-complete : goal.returns-in_err-complete
returns-in_err-complete c =
    let words = c.type_inv.graph in
    let e = c.in_err-complete.field-0.0 in
    let done = c.in_err-complete.ensures in
    let row = pass_row c.requires c.loops-cycle.auto.work done in
    let low : (turned_as e).place < 65536 =
    rw done.answer (completed_place (omega arith) edition1 c.args.graph.now (omega (arith, words 2)) (omega (arith, words 3)) (omega (arith, words 4)) (length c.args.never.now) (length c.args.atom_never.now) (length c.args.output.now) (length c.loops-cycle.new.work)) in
    answered_err (is_error e c.from_residual.result c.from_residual.ensures.1) record { same = row; place_low = low }

pub returns : goal.returns
returns c =
    let done = c.in_ok-complete.ensures in
    let row = pass_row c.requires c.loops-cycle.auto.work done in
    record {
      says = record { ok = ap (λ (x : Answer). x.number) row; err = tt };
      cycle = c.loops-cycle.ensures;
      listed = done.leaves.output_after;
    }
