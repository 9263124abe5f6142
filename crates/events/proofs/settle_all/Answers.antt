use mathlib.Core.Path.{refl}
use Rattle.words.proofs.NumberLaws.{numbers_length}
use Rattle.area.proofs.LayoutLaws.{room}
use Rattle.events.proofs.RunLaws.{graph_abides}
use Rattle.events.proofs.settle_all.Goals as goal

pub bases_of-b-requires : goal.bases_of-b-requires
bases_of-b-requires g c = rw (← numbers_length g.met.W.Word.each c.args.work.now) (c.requires.stand.accepted, room c.requires.stand.based)

pub settle_in-requires-clause-stand : goal.settle_in-requires-clause-stand
settle_in-requires-clause-stand g c = rw (c.bases_of-b.ensures.is, ← numbers_length g.met.W.Word.each c.args.work.now) (refl, graph_abides c.requires.stand)

pub settle_in-requires-clause-runs : goal.settle_in-requires-clause-runs
settle_in-requires-clause-runs g c = rw (c.bases_of-b.ensures.is, ← numbers_length g.met.W.Word.each c.args.work.now) c.requires.runs

pub returns : goal.returns
returns g c = rw (c.bases_of-b.ensures.is, ← numbers_length g.met.W.Word.each c.args.work.now) at c.settle_in.ensures
