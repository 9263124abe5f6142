use native.Mathlib.Omega.{arith}
use Rattle.branch.proofs.ListLaws.{pair_list}
use Rattle.branch.proofs.later_pair.Goals as goal

pub returns : goal.returns
returns c = record {
  outside = c.pass.ensures.outside;
  rests = c.pass.ensures.waiting.rests;
  list = pair_list c.requires.again.standing.based c.args.never.now c.args.atom_never.now c.args.output.now c.words-nodes.ensures c.words-atoms.ensures c.list.ensures c.args.k _ _ (omega arith) (omega arith) c.pass.ensures.waiting;
}
