use mathlib.Core.Path.{◌∙◌}
use native.Mathlib.Omega.{arith}
use Rattle.components.proofs.FlagLaws.{component_of, classified}
use Rattle.components.proofs.classify.Goals as goal

pub flag-requires : goal.flag-requires
flag-requires g c = let s = c.loop-n.invariant in let g = c.gather-tail.ensures in (rw (g.kept.size ∙ s.size) c.requires.1, component_of c.requires.1 g s.flags)

pub returns : goal.returns
returns g c = classified c.requires.1 c.loop-n.invariant (let z = c.loop-n-test.false in omega arith)
