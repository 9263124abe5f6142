use Rattle.area.specs.Layout.{entries_in}
use Rattle.area.proofs.LayoutLaws.{based}
use Rattle.area.proofs.bases_of.Goals as goal

pub returns : goal.returns
unfolding entries_in
returns g c = based c.requires.1 c.atoms-atoms.ensures c.nodes-nodes.ensures c.producers-producers.ensures c.lay_out.ensures
