use native.Mathlib.Omega.{arith}
use mathlib.Core.Path.{sym, ◌∙◌}
use lib.ListN.{drop}
use lib.Seq.{get_or-drop}
use Rattle.theory.specs.Words.{theory_of}
use Rattle.theory.specs.Founded.{cyclic}
use Rattle.projection.proofs.SourceLaws.{cone_at}
use Rattle.projection.proofs.PartingLaws.{parting_start, parting_room, counter_parted, seed_parted, parting_end}
use Rattle.projection.proofs.Source.partition.Goals as goal
use Rattle.projection.proofs.Source.partition.Goals.{then-is_seed, else-is_seed}

pub loop-i-init : goal.loop-i-init
loop-i-init c = parting_start (theory_of c.args.self.graph.now) (cyclic (theory_of c.args.self.graph.now)) (drop c.args.self.bases.body_nodes c.args.self.work.now) c.args.self.cone.nodes c.requires.lengths.0 c.requires.lengths.1

pub at-n-requires : goal.at-n-requires
at-n-requires c = (cone_at c.requires.sourced c.loop-i.i c.loop-i-test.true).0

pub read-role-requires-clause-is : goal.read-role-requires-clause-is
read-role-requires-clause-is c = rw c.at-n.ensures.0 (cone_at c.requires.sourced c.loop-i.i c.loop-i-test.true).1

pub loop-i-preserved : goal.loop-i-preserved
loop-i-preserved c =
    let e = c.at-n.ensures.0 ∙ sym (get_or-drop c.args.self.bases.body_nodes c.args.self.work.now c.loop-i.i 0) in
    let l = c.loop-i-test.true in
    let r = c.number-number.ensures ∙ c.read-role.ensures.1 in
    elim c.if-is_seed.branch [
      | then-is_seed w ↦ rw (w.nodes-is, w.roles-is, w.counters-is, w.seeds-is, w.put.ensures, w.put-then-is_seed.ensures, r)
          (seed_parted (theory_of c.args.self.graph.now) (cyclic (theory_of c.args.self.graph.now)) (drop c.args.self.bases.body_nodes c.args.self.work.now) c.args.self.cone.nodes c.loop-i.invariant l e (sym c.read-role.ensures.0 ∙ sym c.is_seed.ensures ∙ w.if-is_seed.true))
      | else-is_seed w ↦ rw (w.nodes-is, w.roles-is, w.counters-is, w.seeds-is, w.put-else-is_seed.ensures, w.put-else-is_seed-2.ensures, r)
          (counter_parted (theory_of c.args.self.graph.now) (cyclic (theory_of c.args.self.graph.now)) (drop c.args.self.bases.body_nodes c.args.self.work.now) c.args.self.cone.nodes c.loop-i.invariant l e (sym c.read-role.ensures.0 ∙ sym c.is_seed.ensures ∙ w.if-is_seed.false))
    ]

pub returns : goal.returns
returns c = parting_end (theory_of c.args.self.graph.now) (cyclic (theory_of c.args.self.graph.now)) (drop c.args.self.bases.body_nodes c.args.self.work.now) c.args.self.cone.nodes c.loop-i.invariant (omega arith)
