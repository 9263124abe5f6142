use mathlib.Core.Path.{sym}
use Rattle.compare.proofs.RecordLaws.{body_differs, heads_left}
use Rattle.compare.proofs.by_producer.Goals as goal

pub returns-then-is_ne : goal.returns-then-is_ne
returns-then-is_ne g c =
    let x = g.W.Word.numbers c.args.x.now in let y = g.W.Word.numbers c.args.y.now in
    body_differs x y c.args.p (rw (← c.body.ensures, ← c.body-2.ensures) c.cmp-found.ensures) (sym c.if-is_ne.ensures)

pub returns : goal.returns
returns g c =
    let x = g.W.Word.numbers c.args.x.now in let y = g.W.Word.numbers c.args.y.now in
    heads_left x y c.args.p (rw (← c.body.ensures, ← c.body-2.ensures) c.cmp-found.ensures) (sym c.if-is_ne.ensures) (rw (← c.first_head.ensures, ← c.first_head-2.ensures) c.by_list.ensures)
