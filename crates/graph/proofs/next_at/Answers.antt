use Rattle.graph.specs.Layout.{next_in}
use Rattle.graph.proofs.next_at.Goals as goal

pub returns : goal.returns
unfolding next_in
returns g c = c.at.ensures.0
