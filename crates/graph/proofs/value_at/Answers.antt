use Rattle.graph.specs.Layout.{value_in}
use Rattle.graph.proofs.value_at.Goals as goal

pub returns : goal.returns
unfolding value_in
returns g c = c.at.ensures.0
