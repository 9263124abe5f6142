use Rattle.std.proofs.Common.{rules}
use Rattle.refusals.proofs.SearchLaws.{finds_later}
use Rattle.refusals.proofs.RowLaws.{upward_passes}
use Rattle.refusals.proofs.bad_link.Goals as goal

pub returns : goal.returns
returns g c =
    let ws = g.W.Word.numbers c.args.graph.now in
    finds_later _ _ (upward_passes ws c.requires.2) c.first.result (search rules)
