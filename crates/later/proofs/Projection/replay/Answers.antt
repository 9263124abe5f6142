use native.Mathlib.Omega.{arith}
use mathlib.Core.Path.{◌≡◌, sym, ap, ◌∙◌}
use Prim.Native.Nat.{◌+◌, ◌-◌, ◌≤◌, ◌<◌}
use lib.ListN.{length}
use lib.Seq.{slice}
use Rattle.theory.specs.Words.{bit_at}
use Rattle.theory.specs.Roles.{live_role}
use Rattle.area.proofs.PartLaws.{frame_less}
use Rattle.later.specs.Later.{Seeding}
use Rattle.later.proofs.ReadLaws.{rows_abide}
use Rattle.later.proofs.SeedLaws.{seeds_begun, seed_low, seed_role, seed_passed, seed_follows, seed_followed}
use Rattle.later.proofs.Projection.replay.Goals as goal

pub loop-i-init : goal.loop-i-init
loop-i-init c = (let low = c.requires.projected.parted.seeds_low in omega arith, seeds_begun c.args.self.graph.now c.args.self.bases (bit_at c.args.never.now) (bit_at c.args.atom_never.now) (slice c.args.self.seed_start (length c.args.self.body_nodes.now) c.args.self.body_nodes.now) c.args.self.body_nodes.now c.requires.seeding)

pub settle-t-requires : goal.settle-t-requires
settle-t-requires c =
    let h = c.loop-i.invariant.1 in let l = h.laid in let g = c.requires.rows.graph in
    let some = c.loop-i-test.true in let low = c.requires.projected.parted.seeds_low in
    let e : c.loop-i.i - 1 + 1 ≡ c.loop-i.i = omega arith in
    let from : c.args.self.seed_start ≤ c.loop-i.i - 1 = omega arith in
    let to : c.loop-i.i - 1 < length c.args.self.body_nodes.now = omega arith in
    let s : Seeding c.args.self.graph.now c.args.self.bases (bit_at c.args.never.now) (bit_at c.args.atom_never.now) (slice c.args.self.seed_start (length c.args.self.body_nodes.now) c.args.self.body_nodes.now) (slice (c.loop-i.i - 1 + 1) (length c.args.self.body_nodes.now) c.args.self.body_nodes.now) c.args.work.now c.loop-i.work c.loop-i.t = rw e h in
    let r = seed_role c.requires.projected g.accepted g.based (bit_at c.args.never.now) (bit_at c.args.atom_never.now) c.args.work.now (c.loop-i.i - 1) from to c.at-n.ensures.0 s c.at.ensures.0 in
    record {
      stand = (rows_abide c.requires.rows _ (frame_less _ _ _ h.outside.before _ (omega arith)) h.outside.size, (let k = seed_low c.requires.projected g.accepted g.based (bit_at c.args.never.now) (bit_at c.args.atom_never.now) c.args.work.now (c.loop-i.i - 1) from to c.at-n.ensures.0 s in omega arith));
      follows = seed_follows c.requires.projected g.accepted g.based (bit_at c.args.never.now) (bit_at c.args.atom_never.now) c.args.work.now (c.loop-i.i - 1) from to c.at-n.ensures.0 s (sym (sym c.if-live.true ∙ c.live.ensures ∙ ap (live_role (bit_at c.args.never.now) (bit_at c.args.atom_never.now) c.at-n.result) r));
    }

pub loop-i-preserved-then-live : goal.loop-i-preserved-then-live
loop-i-preserved-then-live c =
    let h = c.loop-i.invariant.1 in let l = h.laid in let g = c.requires.rows.graph in
    let some = c.loop-i-test.true in let low = c.requires.projected.parted.seeds_low in
    let e : c.loop-i.i - 1 + 1 ≡ c.loop-i.i = omega arith in
    let from : c.args.self.seed_start ≤ c.loop-i.i - 1 = omega arith in
    let to : c.loop-i.i - 1 < length c.args.self.body_nodes.now = omega arith in
    let s : Seeding c.args.self.graph.now c.args.self.bases (bit_at c.args.never.now) (bit_at c.args.atom_never.now) (slice c.args.self.seed_start (length c.args.self.body_nodes.now) c.args.self.body_nodes.now) (slice (c.loop-i.i - 1 + 1) (length c.args.self.body_nodes.now) c.args.self.body_nodes.now) c.args.work.now c.loop-i.work c.loop-i.t = rw e h in
    let r = seed_role c.requires.projected g.accepted g.based (bit_at c.args.never.now) (bit_at c.args.atom_never.now) c.args.work.now (c.loop-i.i - 1) from to c.at-n.ensures.0 s c.at.ensures.0 in
    (from, seed_followed c.requires.projected g.accepted g.based (bit_at c.args.never.now) (bit_at c.args.atom_never.now) c.args.work.now (c.loop-i.i - 1) from to c.at-n.ensures.0 s (sym (sym c.if-live.true ∙ c.live.ensures ∙ ap (live_role (bit_at c.args.never.now) (bit_at c.args.atom_never.now) c.at-n.result) r)) c.settle-t.ensures)

pub loop-i-preserved : goal.loop-i-preserved
loop-i-preserved c =
    let h = c.loop-i.invariant.1 in let l = h.laid in let g = c.requires.rows.graph in
    let some = c.loop-i-test.true in let low = c.requires.projected.parted.seeds_low in
    let e : c.loop-i.i - 1 + 1 ≡ c.loop-i.i = omega arith in
    let from : c.args.self.seed_start ≤ c.loop-i.i - 1 = omega arith in
    let to : c.loop-i.i - 1 < length c.args.self.body_nodes.now = omega arith in
    let s : Seeding c.args.self.graph.now c.args.self.bases (bit_at c.args.never.now) (bit_at c.args.atom_never.now) (slice c.args.self.seed_start (length c.args.self.body_nodes.now) c.args.self.body_nodes.now) (slice (c.loop-i.i - 1 + 1) (length c.args.self.body_nodes.now) c.args.self.body_nodes.now) c.args.work.now c.loop-i.work c.loop-i.t = rw e h in
    let r = seed_role c.requires.projected g.accepted g.based (bit_at c.args.never.now) (bit_at c.args.atom_never.now) c.args.work.now (c.loop-i.i - 1) from to c.at-n.ensures.0 s c.at.ensures.0 in
    (from, seed_passed c.requires.projected g.accepted g.based (bit_at c.args.never.now) (bit_at c.args.atom_never.now) c.args.work.now (c.loop-i.i - 1) from to c.at-n.ensures.0 s (sym (sym c.if-live.false ∙ c.live.ensures ∙ ap (live_role (bit_at c.args.never.now) (bit_at c.args.atom_never.now) c.at-n.result) r)))

pub returns : goal.returns
returns c =
    let b = c.loop-i.invariant.0 in
    let e : c.loop-i.i ≡ c.args.self.seed_start = omega arith in
    rw e at c.loop-i.invariant.1
