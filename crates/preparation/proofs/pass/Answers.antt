use mathlib.Core.Path.{sym}
use Rattle.preparation.proofs.PassLaws.{start_prepared, graph_rows, runs, passing}
use Rattle.preparation.proofs.pass.Goals as goal

pub start-first-requires : goal.start-first-requires
start-first-requires g c = let s = c.requires.3 in (c.requires.0, s.based, c.requires.1, c.requires.2, start_prepared c.requires.0 s)

pub settle_all-requires : goal.settle_all-requires
settle_all-requires g c =
    let r = graph_rows c.requires.0 c.requires.3 c.start-first.ensures in
    rw (sym r.based.is) record { stand = r; runs = runs c.requires.0 c.requires.3 c.start-first.ensures g.met.W.Word.holds }

pub returns : goal.returns
returns g c =
    let r = graph_rows c.requires.0 c.requires.3 c.start-first.ensures in
    passing c.requires.0 c.start-first.ensures g.met.W.Word.holds (rw (sym r.based.is) at c.settle_all.ensures)
