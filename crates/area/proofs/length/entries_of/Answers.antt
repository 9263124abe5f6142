use mathlib.Core.Path.{◌≡◌}
use native.Mathlib.Omega.{arith}
use lib.ListN.{length}
use Rattle.theory.specs.Words.{chain}
use Rattle.theory.proofs.ChainLaws.{chain_few}
use Rattle.area.proofs.SumLaws.{sum_none, sum_turn}
use Rattle.area.proofs.length.entries_of.Goals as goal

pub loop-n-init : goal.loop-n-init
loop-n-init g c = (omega arith, λ link gives. sum_none _)

pub overflow_add-total : goal.overflow_add-total
overflow_add-total g c = omega (arith, c.loop-n.invariant.0, c.entries-total.ensures, chain_few (g.W.Word.numbers c.args.graph.now) c.first.result, c.requires.accepted.0.links_few, c.requires.accepted.1, g.met.W.Word.holds)

pub loop-n-preserved : goal.loop-n-preserved
loop-n-preserved g c =
    let ws = g.W.Word.numbers c.args.graph.now in (
      omega (arith, c.loop-n.invariant.0, c.entries-total.ensures, chain_few ws c.first.result, c.requires.accepted.0.links_few, g.met.W.Word.holds),
      λ link gives. sum_turn (λ n. length (chain ws (link n))) (c.loop-n.invariant.1 link gives)
          (rw (gives c.loop-n.n c.first.result c.loop-n-test.true c.first.ensures) at c.entries-total.ensures),
    )

pub returns : goal.returns
returns g c = λ link gives. let all : c.loop-n.n ≡ c.args.count = omega arith in rw all at (c.loop-n.invariant.1 link gives)
