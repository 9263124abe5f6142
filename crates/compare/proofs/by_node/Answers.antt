use mathlib.Core.Path.{sym}
use Rattle.compare.proofs.RecordLaws.{node_differs, leaves_left}
use Rattle.compare.proofs.by_node.Goals as goal

pub returns-then-is_ne : goal.returns-then-is_ne
returns-then-is_ne g c =
    let x = g.W.Word.numbers c.args.x.now in let y = g.W.Word.numbers c.args.y.now in
    node_differs x y c.args.n c.by_record-found.ensures (sym c.if-is_ne.ensures)

pub returns : goal.returns
returns g c =
    let x = g.W.Word.numbers c.args.x.now in let y = g.W.Word.numbers c.args.y.now in
    leaves_left x y c.args.n c.by_record-found.ensures (sym c.if-is_ne.ensures) (rw (← c.first_leaf.ensures, ← c.first_leaf-2.ensures) c.by_list.ensures)
