use native.Mathlib.Omega.{arith}
use Rattle.theory.specs.Words.{theory_of}
use Rattle.within.proofs.PayLaws.{heads_turn, heads_end}
use Rattle.within.proofs.pay_heads.Goals as goal

pub returns-in_err-left : goal.returns-in_err-left
unfolding theory_of
returns-in_err-left g c =
    let ws = g.W.Word.numbers c.args.graph.now in
    let turn = heads_turn ws (g.W.Word.numbers c.args.work.now) c.loop-i.i c.args.row.end c.loop-i-test.true c.requires.inside.1 c.at.ensures.0 in
    let n = rw c.first_head-first.ensures at c.entries.ensures in
    let left = c.loop-i.invariant in
    rw c.from_residual.ensures (λ k. c.in_err-left.ensures (omega arith))

pub loop-i-preserved : goal.loop-i-preserved
unfolding theory_of
loop-i-preserved g c =
    let ws = g.W.Word.numbers c.args.graph.now in
    let turn = heads_turn ws (g.W.Word.numbers c.args.work.now) c.loop-i.i c.args.row.end c.loop-i-test.true c.requires.inside.1 c.at.ensures.0 in
    let n = rw c.first_head-first.ensures at c.entries.ensures in
    let left = c.loop-i.invariant in
    let paid = c.in_ok-left.ensures in
    omega (arith, paid.0, paid.1)

pub returns : goal.returns
returns g c =
    let ws = g.W.Word.numbers c.args.graph.now in
    let done = heads_end ws (g.W.Word.numbers c.args.work.now) c.loop-i.i c.args.row.end (omega arith) in
    let left = c.loop-i.invariant in
    (omega arith, omega arith)
