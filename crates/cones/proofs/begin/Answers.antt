use mathlib.Core.Path.{◌≡◌}
use native.Mathlib.Omega.{arith}
use Rattle.theory.specs.Words.{theory_of}
use Rattle.cones.proofs.begin.Goals as goal

pub returns : goal.returns
returns g c = let l = c.loop-p.invariant.0.low in let q = c.loop-p.invariant.0.producers in let e : c.loop-p.p ≡ (theory_of (g.W.Word.numbers c.args.graph.now)).producers = omega arith in (rw e at c.loop-p.invariant.0, c.loop-p.invariant.1)
