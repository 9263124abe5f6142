use mathlib.Core.Logic.{inl}
use native.Mathlib.Omega.{arith}
use Rattle.theory.proofs.ChainLaws.{chain_few}
use Rattle.graph.proofs.entries.Goals as goal

pub count-requires-clause-fits : goal.count-requires-clause-fits
count-requires-clause-fits g c = inl (rw c.follow.ensures.0 (rw c.follow.ensures.1 (omega (arith, chain_few (g.W.Word.numbers c.args.graph.now) c.args.first, c.requires.0.links_few, g.met.W.Word.holds.few_links, g.met.W.Word.holds.low))))
