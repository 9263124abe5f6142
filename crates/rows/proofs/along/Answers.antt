use Prim.Native.Nat.{◌-◌}
use native.Mathlib.Omega.{arith}
use Rattle.rows.proofs.VertexLaws.{atom_spanned, atom_row, parents_spanned, body_spanned, body_named, parents_next, later, body_next, node_done}
use Rattle.rows.proofs.along.Goals as goal

pub place-row-requires : goal.place-row-requires
place-row-requires g c = (c.args.b.states, atom_spanned c.requires.accepted.1 c.requires.accepted.3 c.args.v c.if-v-b.true)

pub nodes-requires : goal.nodes-requires
nodes-requires g c =
    let holds = g.met.W.Word.holds in
    let few = c.requires.accepted.0.atoms_few in
    let same = c.requires.accepted.1.atoms in
    let s = atom_spanned c.requires.accepted.1 c.requires.accepted.3 c.args.v c.if-v-b.true in
    rw (c.place-row.ensures.0, c.place-row.ensures.1) record {
      fits = omega arith;
      inside = rw c.requires.kept (s.rises, s.ends, s.long);
      follows = rw (atom_row c.requires.accepted.1 c.requires.accepted.3 c.args.v c.if-v-b.true) at c.requires.follows;
    }

pub returns-then-v-b : goal.returns-then-v-b
returns-then-v-b g c =
    rw (atom_row c.requires.accepted.1 c.requires.accepted.3 c.args.v c.if-v-b.true) (rw (c.requires.kept, c.place-row.ensures.0, c.place-row.ensures.1) at c.nodes.ensures)

pub place-parents-requires : goal.place-parents-requires
place-parents-requires g c =
    let k = c.requires.accepted.2 in let l = c.if-v-b.false in
    (c.args.b.states, parents_spanned c.requires.accepted.1 c.requires.accepted.3 (c.args.v - c.args.b.atoms) (omega arith))

pub nodes-t-requires : goal.nodes-t-requires
nodes-t-requires g c =
    let holds = g.met.W.Word.holds in
    let few = c.requires.accepted.0.atoms_few in
    let same = c.requires.accepted.1.atoms in
    let k = c.requires.accepted.2 in let l = c.if-v-b.false in
    let s = parents_spanned c.requires.accepted.1 c.requires.accepted.3 (c.args.v - c.args.b.atoms) (omega arith) in
    rw (c.place-parents.ensures.0, c.place-parents.ensures.1) record {
      fits = omega arith;
      inside = rw c.requires.kept (s.rises, s.ends, s.long);
      follows = parents_next c.requires.accepted.1 c.requires.accepted.3 l k c.requires.follows;
    }

pub place-bodies-requires : goal.place-bodies-requires
place-bodies-requires g c =
    let k = c.requires.accepted.2 in let l = c.if-v-b.false in
    let d = rw (c.requires.kept, c.place-parents.ensures.0, c.place-parents.ensures.1) at c.nodes-t.ensures in
    (c.args.b.states, body_spanned c.requires.accepted.1 (later c.requires.accepted.1 c.requires.accepted.3 l k c.requires.follows d) (c.args.v - c.args.b.atoms) (omega arith))

pub producers-requires : goal.producers-requires
producers-requires g c =
    let k = c.requires.accepted.2 in let l = c.if-v-b.false in
    let d = rw (c.requires.kept, c.place-parents.ensures.0, c.place-parents.ensures.1) at c.nodes-t.ensures in
    let t = later c.requires.accepted.1 c.requires.accepted.3 l k c.requires.follows d in
    let s = body_spanned c.requires.accepted.1 t (c.args.v - c.args.b.atoms) (omega arith) in
    rw (c.place-bodies.ensures.0, c.place-bodies.ensures.1) record {
      accepted = (c.requires.accepted.0, body_named c.requires.accepted.1 t (c.args.v - c.args.b.atoms) (omega arith));
      inside = rw c.requires.kept (s.rises, s.ends, s.long);
      follows = body_next c.requires.accepted.1 c.requires.accepted.3 l k c.requires.follows d;
    }

pub returns : goal.returns
returns g c =
    let k = c.requires.accepted.2 in let l = c.if-v-b.false in
    let d = rw (c.requires.kept, c.place-parents.ensures.0, c.place-parents.ensures.1) at c.nodes-t.ensures in
    node_done c.requires.accepted.1 c.requires.accepted.3 l k c.requires.follows d (rw (c.requires.kept, c.place-bodies.ensures.0, c.place-bodies.ensures.1) at c.producers.ensures)
