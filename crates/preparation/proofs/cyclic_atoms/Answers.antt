use mathlib.Core.Path.{sym}
use Rattle.preparation.proofs.StageLaws.{marked_staged}
use Rattle.preparation.proofs.cyclic_atoms.Goals as goal

pub returns : goal.returns
returns g c = marked_staged _ _ _ _ c.mark.result (rw (sym c.requires.1.is) at c.mark.ensures)
