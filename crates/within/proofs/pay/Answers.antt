use Prim.Native.Nat.{◌-◌}
use native.Mathlib.Omega.{arith}
use Rattle.rows.proofs.VertexLaws.{atom_spanned, parents_spanned, body_spanned, body_named}
use Rattle.within.proofs.PayLaws.{pays_more, pays_none, atom_charge, node_charge}
use Rattle.within.proofs.pay.Goals as goal

pub place-nodes-requires : goal.place-nodes-requires
place-nodes-requires g c = (c.args.b.states, atom_spanned c.requires.0.based c.requires.0.tables c.args.v c.if-v-b.true)

pub overflow_sub-nodes : goal.overflow_sub-nodes
overflow_sub-nodes g c = let s = (atom_spanned c.requires.0.based c.requires.0.tables c.args.v c.if-v-b.true).rises in omega (arith, c.place-nodes.ensures.0, c.place-nodes.ensures.1)

pub returns-then-v-b : goal.returns-then-v-b
returns-then-v-b g c =
    let e = atom_charge c.requires.0.based c.requires.0.tables c.args.v c.if-v-b.true (atom_spanned c.requires.0.based c.requires.0.tables c.args.v c.if-v-b.true) in
    rw (e, ← c.place-nodes.ensures.0, ← c.place-nodes.ensures.1) c.take.ensures

pub place-parents-requires : goal.place-parents-requires
place-parents-requires g c = let l = c.if-v-b.false in (c.args.b.states, parents_spanned c.requires.0.based c.requires.0.tables (c.args.v - c.args.b.atoms) (omega (arith, c.requires.1)))

pub place-bodies-requires : goal.place-bodies-requires
place-bodies-requires g c = let l = c.if-v-b.false in (c.args.b.states, body_spanned c.requires.0.based c.requires.0.tables (c.args.v - c.args.b.atoms) (omega (arith, c.requires.1)))

pub overflow_sub-parents : goal.overflow_sub-parents
overflow_sub-parents g c =
    let l = c.if-v-b.false in
    let s = (parents_spanned c.requires.0.based c.requires.0.tables (c.args.v - c.args.b.atoms) (omega (arith, c.requires.1))).rises in
    omega (arith, c.place-parents.ensures.0, c.place-parents.ensures.1)

pub returns-in_err-left : goal.returns-in_err-left
returns-in_err-left g c =
    let l = c.if-v-b.false in
    let e = node_charge c.requires.0.based c.requires.0.tables c.args.v l c.requires.1 (parents_spanned c.requires.0.based c.requires.0.tables (c.args.v - c.args.b.atoms) (omega (arith, c.requires.1))) in
    pays_none c.args.allowance _ _ (rw (← c.place-parents.ensures.0, ← c.place-parents.ensures.1) at e) c.from_residual.result c.from_residual.ensures c.in_err-left.ensures

pub pay_heads-requires-clause-accepted : goal.pay_heads-requires-clause-accepted
pay_heads-requires-clause-accepted g c =
    let l = c.if-v-b.false in
    rw (c.place-bodies.ensures.0, c.place-bodies.ensures.1) (c.requires.0.accepted, body_named c.requires.0.based c.requires.0.tables (c.args.v - c.args.b.atoms) (omega (arith, c.requires.1)))

pub pay_heads-requires-clause-inside : goal.pay_heads-requires-clause-inside
pay_heads-requires-clause-inside g c =
    let l = c.if-v-b.false in
    let s = body_spanned c.requires.0.based c.requires.0.tables (c.args.v - c.args.b.atoms) (omega (arith, c.requires.1)) in
    let e = s.ends in let q = s.long in
    rw (c.place-bodies.ensures.0, c.place-bodies.ensures.1) (s.rises, omega arith)

pub returns : goal.returns
returns g c =
    let l = c.if-v-b.false in
    let e = node_charge c.requires.0.based c.requires.0.tables c.args.v l c.requires.1 (parents_spanned c.requires.0.based c.requires.0.tables (c.args.v - c.args.b.atoms) (omega (arith, c.requires.1))) in
    pays_more c.args.allowance _ _ (rw (← c.place-parents.ensures.0, ← c.place-parents.ensures.1, ← c.place-bodies.ensures.0, ← c.place-bodies.ensures.1) at e) c.pay_heads.result c.in_ok-left.ensures c.pay_heads.ensures
