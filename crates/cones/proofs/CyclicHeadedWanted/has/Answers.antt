use native.Mathlib.Omega.{arith}
use Rattle.cones.proofs.HeadLaws.{flag_in, heads_next, heads_end}
use Rattle.cones.proofs.CyclicHeadedWanted.has.Goals as goal

pub overflow_add-b : goal.overflow_add-b
overflow_add-b g c = let k = flag_in (rw c.in-Some.ensures.steps at c.loop-a.invariant) c.requires.given.0.1 in omega arith

pub at-requires : goal.at-requires
at-requires g c = let k = flag_in (rw c.in-Some.ensures.steps at c.loop-a.invariant) c.requires.given.0.1 in let e = c.requires.given.0.1.ends in omega arith

pub loop-a-preserved : goal.loop-a-preserved
loop-a-preserved g c = heads_next (rw c.in-Some.ensures.steps at c.loop-a.invariant) c.args.b (g.W.Word.numbers c.args.work.now) c.requires.given.0.2 c.at.ensures.0

pub returns : goal.returns
returns g c = heads_end (rw c.in-None.ensures.steps.0 at c.loop-a.invariant)
