use mathlib.Core.Path.{◌∙◌}
use Rattle.refusals.proofs.AcceptedLaws.{accepted}
use Rattle.theory.specs.Accepted.{edition1}
use Rattle.branch.specs.Branch.{AllPaired}
use Rattle.branch.proofs.CallLaws.{pairs_few, lengths_fit, absorbed_turned, branched}
use Rattle.branch.proofs.branch_accepted.Goals as goal

pub all_pairs-requires-clause-accepted : goal.all_pairs-requires-clause-accepted
all_pairs-requires-clause-accepted c = (accepted edition1 c.args.graph.now c.requires.0, c.requires.3)

pub all_pairs-requires-clause-fits : goal.all_pairs-requires-clause-fits
all_pairs-requires-clause-fits c = let p = pairs_few _ c.requires.1 in let l = lengths_fit _ _ _ _ _ c.requires.2 in (p.0, p.1, l.0, l.1)

pub returns-in-Ok : goal.returns-in-Ok
unfolding AllPaired
returns-in-Ok c = let k = c.in-Ok.ensures in branched c.args.graph.now c.args.pairs c.args.never.now c.args.atom_never.now c.args.output.now c.args.work.now c.requires.0 c.requires.1 c.requires.2 c.requires.3 (c.wipe.ensures ∙ rw k.1) k.0.0 k.0.1

pub returns-in-Err : goal.returns-in-Err
unfolding AllPaired
returns-in-Err c = let k = c.in-Err.ensures in rw k.0.1 (absorbed_turned c.args.graph.now c.args.pairs c.args.never.now c.args.atom_never.now c.args.output.now c.args.work.now c.requires.0 c.requires.1 c.requires.2 c.requires.3 (c.wipe-in-Err.ensures ∙ rw k.1) k.0.0)
