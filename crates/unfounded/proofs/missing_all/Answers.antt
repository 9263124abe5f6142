use mathlib.Core.Path.{refl}
use Rattle.theory.specs.Words.{bit_at}
use Rattle.theory.specs.EveryAtom.{missing_all}
use Rattle.theory.proofs.EveryAtomLaws.{body_cone_enough}
use Rattle.preparation.proofs.StageLaws.{stood_standing, listed_refused, listed_done}
use Rattle.unfounded.proofs.missing_all.Goals as goal

pub returns-in_err-c : goal.returns-in_err-c
returns-in_err-c g c = listed_refused _ _ _ _ _ _ _ c.in_err-c.field-0.0 c.from_residual.result c.from_residual.ensures.1 c.in_err-c.ensures

pub pass-requires : goal.pass-requires
pass-requires g c = (c.requires.0, _, _, (stood_standing _ _ _ _ _ _ _ c.in_ok-c.ensures).standing, body_cone_enough _ c.requires.0.well_formed _ _)

pub returns : goal.returns
unfolding missing_all
returns g c = listed_done _ _ _ _ (stood_standing _ _ _ _ _ _ _ c.in_ok-c.ensures) (body_cone_enough _ c.requires.0.well_formed (bit_at c.args.never.now) (bit_at c.args.atom_never.now)) c.pass.ensures _ (λ a. refl)
