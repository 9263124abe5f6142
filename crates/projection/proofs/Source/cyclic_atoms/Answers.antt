use native.Mathlib.Omega.{arith}
use mathlib.Core.Path.{◌∙◌}
use Rattle.theory.specs.Words.{theory_of}
use Rattle.theory.specs.Founded.{cyclic}
use Rattle.projection.proofs.SourceLaws.{word_flag}
use Rattle.projection.proofs.PartingLaws.{membered_start, membered_next}
use Rattle.projection.proofs.Source.cyclic_atoms.Goals as goal

pub loop-a-init : goal.loop-a-init
loop-a-init c = membered_start (cyclic (theory_of c.args.self.graph.now)) c.args.part.now

pub loop-a-preserved : goal.loop-a-preserved
loop-a-preserved c =
    rw c.put.ensures
    (membered_next (cyclic (theory_of c.args.self.graph.now)) c.loop-a.invariant (let l = c.loop-a-test.true in let r = c.requires.room in omega arith)
    (c.at-count.ensures.0 ∙ (word_flag c.requires.sourced c.loop-a.a c.loop-a-test.true).1))
