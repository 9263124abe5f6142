use mathlib.Core.Path.{refl}
use native.Mathlib.Omega.{arith}
use Rattle.graph.proofs.DecodeLaws.{next_of_lem}
use Rattle.refusals.specs.Refusals.{bad_next}
use Rattle.refusals.proofs.bad_link_at.Goals as goal

pub returns : goal.returns
unfolding bad_next
returns g c = rw (← next_of_lem c.links_from.ensures c.args.l c.next.ensures (omega arith), ← c.links.ensures) refl
