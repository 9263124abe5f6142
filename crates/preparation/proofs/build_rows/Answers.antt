use Rattle.preparation.proofs.RowsLaws.{rowed}
use Rattle.preparation.proofs.build_rows.Goals as goal

pub returns : goal.returns
returns g c = rowed c.requires.1 c.build_in.ensures c.build_in-2.ensures c.build_in-3.ensures c.build_in-4.ensures
