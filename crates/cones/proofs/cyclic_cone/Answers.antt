use mathlib.Core.Path.{sym}
use Rattle.theory.specs.Founded.{cyclic_cone}
use Rattle.cones.proofs.cyclic_cone.Goals as goal

pub returns : goal.returns
unfolding cyclic_cone
returns g c =
    let f = rw (sym c.requires.1.is) at c.find.ensures in
    (f.1, f.0)
