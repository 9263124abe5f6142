use mathlib.Core.Path.{sym}
use Rattle.std.proofs.Common.{rules}
use Rattle.compare.proofs.RecordLaws.{counts_differ, nodes_differ, producers_left}
use Rattle.compare.proofs.by_content.Goals as goal

pub returns-then-is_ne : goal.returns-then-is_ne
returns-then-is_ne g c = counts_differ (g.W.Word.numbers c.args.x.now) (g.W.Word.numbers c.args.y.now) c.by_counts-counts.ensures (sym c.if-is_ne.ensures)

pub returns-then-is_ne-2 : goal.returns-then-is_ne-2
returns-then-is_ne-2 g c =
    nodes_differ (g.W.Word.numbers c.args.x.now) (g.W.Word.numbers c.args.y.now) c.by_counts-counts.ensures (sym c.if-is_ne.ensures) _ (search rules) _ (rw c.nodes.ensures at c.in_turn-found.ensures) (sym c.if-is_ne-2.ensures)

pub returns : goal.returns
returns g c =
    producers_left (g.W.Word.numbers c.args.x.now) (g.W.Word.numbers c.args.y.now) c.by_counts-counts.ensures (sym c.if-is_ne.ensures) _ (search rules) _ (rw c.nodes.ensures at c.in_turn-found.ensures) (sym c.if-is_ne-2.ensures) _ (search rules) (rw c.producers.ensures at c.in_turn.ensures)
