use native.Mathlib.Omega.{arith}
use mathlib.Core.Path.{◌≡◌}
use lib.Seq.{slice_empty}
use Rattle.theory.specs.Words.{theory_of}
use Rattle.theory.specs.Rows.{flat_map}
use Rattle.theory.proofs.DriveLaws.{drives_none, turn_next, turn_more, turn_done, slice_turn}
use Rattle.rows.proofs.FlatLaws.{flat_cons, flat_none}
use Rattle.projection.specs.Narrowing.{Narrowing}
use Rattle.projection.proofs.producers.Goals as goal

pub loop-i-init : goal.loop-i-init
loop-i-init c = drives_none (Narrowing c.args.work.now c.args.b.cyclic_atoms)

pub heads-t-requires : goal.heads-t-requires
unfolding theory_of
heads-t-requires c = record {
  accepted = (c.requires.accepted.0, rw c.at.ensures.0 (c.requires.accepted.1 c.loop-i.i (omega arith) (omega arith)));
  follows = turn_next (Narrowing c.args.work.now c.args.b.cyclic_atoms) (flat_map (theory_of c.args.graph.now).heads) (theory_of c.args.graph.now).heads (flat_cons (theory_of c.args.graph.now).heads) c.loop-i.invariant
      (slice_turn c.loop-i.i c.args.to c.args.work.now c.loop-i-test.true c.requires.inside.1 c.at.ensures.0) c.requires.follows;
}

pub loop-i-preserved : goal.loop-i-preserved
loop-i-preserved c =
    turn_more (Narrowing c.args.work.now c.args.b.cyclic_atoms) (flat_map (theory_of c.args.graph.now).heads) (theory_of c.args.graph.now).heads (flat_cons (theory_of c.args.graph.now).heads) c.loop-i.invariant
    (slice_turn c.loop-i.i c.args.to c.args.work.now c.loop-i-test.true c.requires.inside.1 c.at.ensures.0) c.heads-t.ensures

pub returns : goal.returns
returns c =
    let e : c.loop-i.i ≡ c.args.to = omega arith in
    turn_done (Narrowing c.args.work.now c.args.b.cyclic_atoms) (flat_map (theory_of c.args.graph.now).heads) (theory_of c.args.graph.now).heads (flat_cons (theory_of c.args.graph.now).heads) c.loop-i.invariant
    (rw e (slice_empty c.args.to c.args.work.now)) (flat_none (theory_of c.args.graph.now).heads)
