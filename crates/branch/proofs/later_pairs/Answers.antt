use native.Mathlib.Omega.{arith}
use mathlib.Core.Path.{◌≡◌, sym}
use Prim.Native.Nat.{◌+◌, ◌*◌, ◌≤◌, ◌<◌}
use lib.ListN.{get_or}
use lib.Seq.{length-take-le}
use Rattle.mask.specs.Mask.{words_of}
use Rattle.preparation.proofs.PassLaws.{counts}
use Rattle.projection.proofs.RoomLaws.{parents_fit, heads_fit}
use Rattle.branch.specs.Answers.{missing_of}
use Rattle.branch.proofs.PartLaws.{mul_less, mul_fits, lists_next}
use Rattle.branch.proofs.ListLaws.{missing_words}
use Rattle.branch.proofs.StageLaws.{projected, again_next}
use Rattle.branch.proofs.later_pairs.Goals as goal

pub split_at_mut-parents-requires : goal.split_at_mut-parents-requires
split_at_mut-parents-requires c = let s = c.requires.sourced.0 in let x = s.accepted.atoms_few in let y = s.accepted.nodes_few in let p = s.standing.based.atoms in let q = s.standing.based.nodes in let f = s.standing.coned.found.within in let t = counts s.standing.based in let r = c.requires.room in omega arith

pub split_at_mut-heads-requires : goal.split_at_mut-heads-requires
split_at_mut-heads-requires c = let s = c.requires.sourced.0 in let x = s.accepted.atoms_few in let y = s.accepted.nodes_few in let p = s.standing.based.atoms in let q = s.standing.based.nodes in let f = s.standing.coned.found.within in let t = counts s.standing.based in let r = c.requires.room in let a = c.split_at_mut-parents.ensures.back_len in omega arith

pub split_at_mut-body_nodes-requires : goal.split_at_mut-body_nodes-requires
split_at_mut-body_nodes-requires c = let s = c.requires.sourced.0 in let x = s.accepted.atoms_few in let y = s.accepted.nodes_few in let p = s.standing.based.atoms in let q = s.standing.based.nodes in let f = s.standing.coned.found.within in let t = counts s.standing.based in let r = c.requires.room in let a = c.split_at_mut-parents.ensures.back_len in let b = c.split_at_mut-heads.ensures.back_len in omega arith

pub split_at_mut-initial-requires : goal.split_at_mut-initial-requires
split_at_mut-initial-requires c = let s = c.requires.sourced.0 in let x = s.accepted.atoms_few in let y = s.accepted.nodes_few in let p = s.standing.based.atoms in let q = s.standing.based.nodes in let f = s.standing.coned.found.within in let t = counts s.standing.based in let r = c.requires.room in let a = c.split_at_mut-parents.ensures.back_len in let b = c.split_at_mut-heads.ensures.back_len in let d = c.split_at_mut-body_nodes.ensures.back_len in omega arith

pub parents-requires-clause-room : goal.parents-requires-clause-room
parents-requires-clause-room c = let f = parents_fit c.requires.sourced.0 in let l = c.split_at_mut-parents.ensures.front_len in omega arith

pub parents-requires-clause-small : goal.parents-requires-clause-small
parents-requires-clause-small c = let f = parents_fit c.requires.sourced.0 in omega arith

pub heads-requires-clause-room : goal.heads-requires-clause-room
heads-requires-clause-room c = let f = heads_fit c.requires.sourced.0 in let l = c.split_at_mut-heads.ensures.front_len in omega arith

pub heads-requires-clause-small : goal.heads-requires-clause-small
heads-requires-clause-small c = let f = heads_fit c.requires.sourced.0 in omega arith

pub cyclic_atoms-count-requires-clause-room : goal.cyclic_atoms-count-requires-clause-room
cyclic_atoms-count-requires-clause-room c = let s = c.requires.sourced.0 in let x = s.accepted.atoms_few in let y = s.accepted.nodes_few in let p = s.standing.based.atoms in let q = s.standing.based.nodes in let f = s.standing.coned.found.within in let t = counts s.standing.based in let r = c.requires.room in let a = c.split_at_mut-parents.ensures.back_len in let b = c.split_at_mut-heads.ensures.back_len in let d = c.split_at_mut-body_nodes.ensures.back_len in let e = c.split_at_mut-initial.ensures.back_len in omega arith

pub slice_bounds-p-end : goal.slice_bounds-p-end
slice_bounds-p-end c =
    let s = c.requires.sourced.0 in let x = s.accepted.atoms_few in let y = s.accepted.nodes_few in let p = s.standing.based.atoms in let q = s.standing.based.nodes in let f = s.standing.coned.found.within in let t = counts s.standing.based in let r = c.requires.room in let a = c.split_at_mut-parents.ensures.back_len in let b = c.split_at_mut-heads.ensures.back_len in let d = c.split_at_mut-body_nodes.ensures.back_len in let e = c.split_at_mut-initial.ensures.back_len in
    let m = c.cyclic_atoms-count.ensures.0.few in let n = c.cyclic_atoms-count.ensures.1 in
    sym (length-take-le c.cyclic_atoms-count.result c.cyclic_atoms-count.new.part (omega arith))

pub loop-k-init : goal.loop-k-init
loop-k-init c = (c.requires.sourced.1, λ o h e. e)

pub later_pair-requires-clause-projected : goal.later_pair-requires-clause-projected
later_pair-requires-clause-projected c = (projected c.requires.sourced.0 c.parents.ensures.0 c.heads.ensures.0 c.partition-seed_start.ensures c.cyclic_atoms-count.ensures.0)

pub later_pair-requires-clause-fits : goal.later_pair-requires-clause-fits
later_pair-requires-clause-fits c =
    let l = c.loop-k-test.true in let r = c.requires.fits in
    let f = r.2.nodes in let g = r.2.atoms in let h = r.2.lists in let z = c.loop-k.auto.output in
    let m = mul_fits (words_of (get_or c.args.graph.now 2 0)) c.loop-k.k c.args.pairs l in let n = mul_fits (words_of (get_or c.args.graph.now 1 0)) c.loop-k.k c.args.pairs l in
    (omega arith, record { nodes = omega arith; atoms = omega arith; lists = omega arith })

pub loop-k-preserved : goal.loop-k-preserved
loop-k-preserved c = (
  again_next c.loop-k.invariant.0 c.later_pair.ensures.outside c.later_pair.ensures.rests,
  λ o h e. lists_next (missing_of c.args.graph.now c.args.never.now c.args.atom_never.now) (words_of (get_or c.args.graph.now 1 0)) (missing_words c.args.graph.now c.args.never.now c.args.atom_never.now) c.loop-k.k o (c.loop-k.invariant.1 o (let m = mul_fits (words_of (get_or c.args.graph.now 1 0)) c.loop-k.k (c.loop-k.k + 1) (omega arith) in let q = mul_less (words_of (get_or c.args.graph.now 1 0)) c.loop-k.k (c.loop-k.k + 1) (omega arith) in omega arith) e) c.later_pair.ensures.list h,
)

pub returns : goal.returns
returns c =
    let e : c.loop-k.k ≡ c.args.pairs = let q = c.loop-k.auto.k-end c.requires.fits.0 in omega arith in
    rw e at c.loop-k.invariant.1
