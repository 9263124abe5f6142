use Rattle.theory.specs.Words.{theory_of}
use Rattle.theory.specs.Founded.{cyclic, cyclic_cone}
use Rattle.theory.proofs.PassLaws.{cyclic_cone_enough}
use Rattle.branch.proofs.ListLaws.{first_list}
use Rattle.branch.proofs.first_pair.Goals as goal

pub pass-requires : goal.pass-requires
pass-requires c = let s = c.requires.standing in (s.0, cyclic (theory_of c.args.graph.now), cyclic_cone (theory_of c.args.graph.now), s.1, cyclic_cone_enough (theory_of c.args.graph.now) s.0.well_formed _ _)

pub returns : goal.returns
returns c =
    let s = c.requires.standing in
    let k = c.pass.ensures.waiting (cyclic (theory_of c.args.graph.now)) (cyclic_cone (theory_of c.args.graph.now)) s.1 (cyclic_cone_enough (theory_of c.args.graph.now) s.0.well_formed _ _) in
    record {
      outside = c.pass.ensures.outside;
      rests = k.rests;
      list = first_list s.1.based c.args.never.now c.args.atom_never.now c.args.output.now c.words-nodes.ensures c.words-atoms.ensures c.list.ensures k;
    }
