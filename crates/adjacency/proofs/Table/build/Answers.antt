use Rattle.adjacency.proofs.TableLaws.{start, to_count, to_sum, to_fill, filled}
use Rattle.adjacency.proofs.Table.build.Goals as goal

pub place_all-requires-clause-follows : goal.place_all-requires-clause-follows
place_all-requires-clause-follows g c = to_count (start g.met.W.Word.each g.met.W.Word.holds c.requires.0 c.args.self c.size-rows.ensures.rows c.clear.ensures c.requires.1)

pub sum-requires : goal.sum-requires
sum-requires g c = to_sum (start g.met.W.Word.each g.met.W.Word.holds c.requires.0 c.args.self c.size-rows.ensures.rows c.clear.ensures c.requires.1) c.place_all.ensures

pub place_all-requires-2-clause-follows : goal.place_all-requires-2-clause-follows
place_all-requires-2-clause-follows g c = to_fill (start g.met.W.Word.each g.met.W.Word.holds c.requires.0 c.args.self c.size-rows.ensures.rows c.clear.ensures c.requires.1) c.place_all.ensures c.sum.ensures

pub returns : goal.returns
returns g c = filled (start g.met.W.Word.each g.met.W.Word.holds c.requires.0 c.args.self c.size-rows.ensures.rows c.clear.ensures c.requires.1) c.place_all.ensures c.sum.ensures c.place_all-2.ensures
