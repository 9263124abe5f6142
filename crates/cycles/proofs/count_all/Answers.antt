use mathlib.Core.Path.{◌≡◌, sym, ◌∙◌}
use native.Mathlib.Omega.{arith}
use Rattle.theory.specs.Words.{theory_of}
use Rattle.graph.proofs.DecodeLaws.{the_producers}
use Rattle.cycles.proofs.LoopLaws.{count_start}
use Rattle.cycles.proofs.count_all.Goals as goal

pub loop-p-init : goal.loop-p-init
loop-p-init g c = count_start c.count_nodes.ensures

pub count_heads-requires : goal.count_heads-requires
count_heads-requires g c =
    let e = c.producers-p-end.ensures ∙ sym (the_producers (g.W.Word.numbers c.args.graph.now)) in
    (c.requires.0, omega arith, c.loop-p.invariant)

pub returns : goal.returns
returns g c =
    let e = c.producers-p-end.ensures ∙ sym (the_producers (g.W.Word.numbers c.args.graph.now)) in
    let q : c.loop-p.p ≡ (theory_of (g.W.Word.numbers c.args.graph.now)).producers = omega arith in
    rw q at c.loop-p.invariant
