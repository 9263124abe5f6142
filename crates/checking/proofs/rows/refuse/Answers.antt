use mathlib.Core.Path.{sym, ◌∙◌}
use native.Mathlib.Omega.{arith}
use Rattle.refusals.proofs.SearchLaws.{row_refuses, row_passes}
use Rattle.checking.proofs.rows.refuse.Goals as goal

pub returns-in-None : goal.returns-in-None
returns-in-None g c = λ number bad from count end e makes finds. sym (row_passes bad number from count (rw c.in-None.is at finds) e (omega arith))

pub returns : goal.returns
returns g c = λ number bad from count end e makes finds.
    let f = rw c.in-Some.is at finds in
    makes c.in-Some.i c.refusal.result c.refusal.ensures ∙ sym (row_refuses bad number from count f.1 e f.0)
