use native.Mathlib.Omega.{arith}
use mathlib.Core.Path.{refl, ◌∙◌}
use mathlib.Core.List.{[]}
use lib.ListN.{length}
use lib.Seq.{slice}
use Rattle.theory.specs.Words.{bit_at}
use Rattle.area.proofs.PartLaws.{frame_less, outside_then}
use Rattle.preparation.proofs.PassLaws.{standing_kept}
use Rattle.later.proofs.ReadLaws.{rows_abide}
use Rattle.later.proofs.SeedLaws.{rows_again, facts_follow, facts_met, rebased, seeds_run, later_passed}
use Rattle.later.proofs.Projection.pass.Goals as goal

pub along-facts-requires-clause-follows : goal.along-facts-requires-clause-follows
along-facts-requires-clause-follows c = facts_follow c.requires.again (bit_at c.args.never.now) (bit_at c.args.atom_never.now) (slice c.args.self.seed_start (length c.args.self.body_nodes.now) c.args.self.body_nodes.now) c.reset.ensures (c.requires.projected.head_rows.has c.args.self.bases.nodes (omega arith))

pub replay-first-requires-clause-rows : goal.replay-first-requires-clause-rows
replay-first-requires-clause-rows c =
    let m = facts_met c.requires.again (bit_at c.args.never.now) (bit_at c.args.atom_never.now) (slice c.args.self.seed_start (length c.args.self.body_nodes.now) c.args.self.body_nodes.now) c.reset.ensures (c.requires.projected.head_rows.has c.args.self.bases.nodes (omega arith)) c.along-facts.ensures in
    rows_again c.requires.again c.requires.projected (outside_then c.reset.ensures.outside m.outside)

pub replay-first-requires-clause-seeding : goal.replay-first-requires-clause-seeding
replay-first-requires-clause-seeding c =
    rebased c.args.self.graph.now c.args.self.bases (bit_at c.args.never.now) (bit_at c.args.atom_never.now) (slice c.args.self.seed_start (length c.args.self.body_nodes.now) c.args.self.body_nodes.now) [] (facts_met c.requires.again (bit_at c.args.never.now) (bit_at c.args.atom_never.now) (slice c.args.self.seed_start (length c.args.self.body_nodes.now) c.args.self.body_nodes.now) c.reset.ensures (c.requires.projected.head_rows.has c.args.self.bases.nodes (omega arith)) c.along-facts.ensures)

pub settle_in-requires-clause-stand : goal.settle_in-requires-clause-stand
settle_in-requires-clause-stand c =
    let m = facts_met c.requires.again (bit_at c.args.never.now) (bit_at c.args.atom_never.now) (slice c.args.self.seed_start (length c.args.self.body_nodes.now) c.args.self.body_nodes.now) c.reset.ensures (c.requires.projected.head_rows.has c.args.self.bases.nodes (omega arith)) c.along-facts.ensures in
    (refl, rows_abide (rows_again c.requires.again c.requires.projected (outside_then c.reset.ensures.outside (outside_then m.outside c.replay-first.ensures.outside))))

pub settle_in-requires-clause-runs : goal.settle_in-requires-clause-runs
settle_in-requires-clause-runs c = seeds_run (bit_at c.args.never.now) (bit_at c.args.atom_never.now) (slice c.args.self.seed_start (length c.args.self.body_nodes.now) c.args.self.body_nodes.now) _ c.requires.again.accepted c.requires.again.standing.based c.replay-first.ensures

pub returns : goal.returns
returns c =
    let m = facts_met c.requires.again (bit_at c.args.never.now) (bit_at c.args.atom_never.now) (slice c.args.self.seed_start (length c.args.self.body_nodes.now) c.args.self.body_nodes.now) c.reset.ensures (c.requires.projected.head_rows.has c.args.self.bases.nodes (omega arith)) c.along-facts.ensures in
    later_passed (bit_at c.args.never.now) (bit_at c.args.atom_never.now) (slice c.args.self.seed_start (length c.args.self.body_nodes.now) c.args.self.body_nodes.now) _ c.requires.again.accepted c.requires.again.standing.based c.replay-first.ensures c.requires.again.standing
    (outside_then c.reset.ensures.outside (outside_then m.outside c.replay-first.ensures.outside)) c.settle_in.ensures
