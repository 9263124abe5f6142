use mathlib.Core.Path.{◌∙◌}
use Rattle.cones.specs.Cones.{body_coned}
use Rattle.preparation.proofs.StageLaws.{onward, staged_refused, staged_done}
use Rattle.preparation.proofs.mark_in.Goals as goal

pub returns-in_err-body_cone : goal.returns-in_err-body_cone
unfolding body_coned
returns-in_err-body_cone g c =
    staged_refused _ _ _ _ c.in_err-body_cone.field-0.0 c.from_residual.result c.from_residual.ensures.1 (c.body_cone.ensures.0.size ∙ c.build_rows.ensures.size) c.in_err-body_cone.ensures.1

pub walk-requires : goal.walk-requires
unfolding body_coned
walk-requires g c = (c.requires.0, onward _ _ _ c.requires.1 c.build_rows.ensures c.body_cone.ensures.0 c.in_ok-body_cone.ensures.1.0.found)

pub returns : goal.returns
unfolding body_coned
returns g c = staged_done _ _ _ _ (c.body_cone.ensures.0.size ∙ c.build_rows.ensures.size) c.in_ok-body_cone.ensures.1.1 c.walk.ensures
