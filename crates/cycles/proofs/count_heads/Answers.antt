use Prim.Native.Nat.{◌+◌}
use Rattle.theory.specs.Words.{theory_of}
use Rattle.theory.proofs.DriveLaws.{follows_all, drives_all}
use Rattle.cycles.specs.Held.{Heads}
use Rattle.cycles.proofs.DegreeLaws.{body_none, body_some}
use Rattle.cycles.proofs.LoopLaws.{fact_counted, heads_start}
use Rattle.cycles.proofs.count_heads.Goals as goal

pub body_node-requires : goal.body_node-requires
unfolding theory_of
body_node-requires g c = record { size = c.requires.0.size; below = c.requires.1 }

pub returns-then-is_none : goal.returns-then-is_none
returns-then-is_none g c = fact_counted c.requires.2 c.requires.1 (body_none _ c.body_node.ensures c.is_none.ensures c.if-is_none.true)

pub heads-requires : goal.heads-requires
heads-requires g c =
    let h = heads_start c.requires.2 c.requires.1 (body_some _ c.body_node.ensures c.is_none.ensures c.if-is_none.false) in
    record { accepted = (c.requires.0, c.requires.1); follows = follows_all (Heads g.W.Word.limit c.args.b) {c = record { theory = theory_of (g.W.Word.numbers c.args.graph.now); below = c.args.p + 1 }} h }

pub returns : goal.returns
returns g c =
    let h = heads_start c.requires.2 c.requires.1 (body_some _ c.body_node.ensures c.is_none.ensures c.if-is_none.false) in
    drives_all (Heads g.W.Word.limit c.args.b) {c = record { theory = theory_of (g.W.Word.numbers c.args.graph.now); below = c.args.p + 1 }} h c.heads.ensures
