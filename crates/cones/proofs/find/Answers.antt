use Rattle.words.proofs.NumberLaws.{numbers_length}
use Rattle.area.proofs.LayoutLaws.{room}
use Rattle.cones.proofs.find.Goals as goal

pub bases_of-requires : goal.bases_of-requires
bases_of-requires g c = rw (← numbers_length g.met.W.Word.each c.args.work.now) (c.requires.0, room c.requires.1)

pub find_in-requires : goal.find_in-requires
find_in-requires g c = rw (c.bases_of.ensures.is, ← numbers_length g.met.W.Word.each c.args.work.now) (c.requires)

pub returns : goal.returns
returns g c = rw (c.bases_of.ensures.is, ← numbers_length g.met.W.Word.each c.args.work.now) at c.find_in.ensures
