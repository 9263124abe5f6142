use mathlib.Core.Path.{sym, ◌∙◌}
use Rattle.preparation.proofs.PassLaws.{marked_based, cone_flags, stands}
use Rattle.preparation.proofs.StageLaws.{marked_flags, staged_row, stood_refused, stood_done}
use Rattle.preparation.proofs.stand.Goals as goal

pub returns-in_err-mark : goal.returns-in_err-mark
returns-in_err-mark g c = stood_refused _ _ _ _ _ _ c.in_err-mark.field-0.0 c.from_residual.result c.from_residual.ensures.1 (staged_row _ _ _ _ _ (rw (sym c.requires.1.is) at c.in_err-mark.ensures))

pub cyclic_cone-requires : goal.cyclic_cone-requires
cyclic_cone-requires g c =
    let k = marked_flags _ _ _ _ _ (rw (sym c.requires.1.is) at c.in_ok-mark.ensures) in
    (c.requires.0, marked_based c.requires.1 k.0, cone_flags c.requires.1 k.0)

pub returns : goal.returns
returns g c =
    let k = marked_flags _ _ _ _ _ (rw (sym c.requires.1.is) at c.in_ok-mark.ensures) in
    stood_done _ _ _ _ _ _ _ (c.cyclic_cone.ensures.0.size ∙ k.0.size) k.1 (stands c.requires.1 k.0 c.cyclic_cone.ensures.0 c.cyclic_cone.ensures.1)
