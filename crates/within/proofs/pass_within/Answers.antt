use native.Mathlib.Omega.{arith}
use Rattle.words.proofs.NumberLaws.{numbers_length}
use Rattle.preparation.proofs.PassLaws.{start_prepared, graph_rows, runs}
use Rattle.within.proofs.PassWithinLaws.{facts_in, facts_due, stops_early, settled}
use Rattle.within.proofs.pass_within.Goals as goal

pub overflow_add-facts : goal.overflow_add-facts
overflow_add-facts g c = omega (arith, (facts_in c.requires.1).1, numbers_length g.met.W.Word.each c.args.work.now)

pub pay_heads-requires-clause-accepted : goal.pay_heads-requires-clause-accepted
pay_heads-requires-clause-accepted g c = (c.requires.0, (facts_in c.requires.1).2)

pub pay_heads-requires-clause-inside : goal.pay_heads-requires-clause-inside
pay_heads-requires-clause-inside g c = let k = facts_in c.requires.1 in (k.0, k.1)

pub returns-in_err-left : goal.returns-in_err-left
returns-in_err-left g c = rw c.from_residual.ensures (stops_early c.requires.1 _ _ c.args.allowance c.in_err-left.ensures)

pub start-first-requires : goal.start-first-requires
start-first-requires g c = (c.requires.0, c.requires.1.based, _, _, start_prepared c.requires.0 c.requires.1)

pub settle_within-requires-clause-stand : goal.settle_within-requires-clause-stand
settle_within-requires-clause-stand g c = graph_rows c.requires.0 c.requires.1 c.start-first.ensures

pub settle_within-requires-clause-runs : goal.settle_within-requires-clause-runs
settle_within-requires-clause-runs g c = runs c.requires.0 c.requires.1 c.start-first.ensures g.met.W.Word.holds

pub returns : goal.returns
returns g c =
    let paid = c.in_ok-left.ensures in
    settled c.requires.1 c.requires.0 g.met.W.Word.holds c.start-first.ensures c.in_ok-left.left (omega (arith, facts_due c.requires.1, paid.0, paid.1)) _ c.settle_within.result c.settle_within.ensures
