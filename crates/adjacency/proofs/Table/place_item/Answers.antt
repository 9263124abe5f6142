use Rattle.theory.proofs.DriveLaws.{drives_none}
use Rattle.adjacency.proofs.KeyLaws.{atom_edges, atom_no_edges, leaf_edges, head_edges, body_edges, body_no_edges}
use Rattle.adjacency.proofs.PlaceLaws.{keys_follow, keys_driven}
use Rattle.adjacency.proofs.Table.place_item.Goals as goal

pub place-requires : goal.place-requires
place-requires g c = rw (atom_edges _ c.args.i c.in-AtomNodes.is c.node_kind.ensures c.takes_operand.ensures c.if-takes_operand.true c.operand.ensures) at c.requires.follows

pub returns-then-takes_operand : goal.returns-then-takes_operand
returns-then-takes_operand g c = rw (atom_edges _ c.args.i c.in-AtomNodes.is c.node_kind.ensures c.takes_operand.ensures c.if-takes_operand.true c.operand.ensures) c.place.ensures

pub returns-else-takes_operand : goal.returns-else-takes_operand
returns-else-takes_operand g c = rw (atom_no_edges _ c.args.i c.in-AtomNodes.is c.node_kind.ensures c.takes_operand.ensures c.if-takes_operand.false) (drives_none (g.P.Place.building c.args.place))

pub along-requires-clause-follows : goal.along-requires-clause-follows
along-requires-clause-follows g c =
    keys_follow (g.P.Place.building c.args.place) c.args.i (rw (leaf_edges _ c.args.i c.in-Parents.is c.requires.accepted.0 c.requires.accepted.1 c.first_leaf.ensures) at c.requires.follows)

pub returns-in-Parents : goal.returns-in-Parents
returns-in-Parents g c =
    rw (leaf_edges _ c.args.i c.in-Parents.is c.requires.accepted.0 c.requires.accepted.1 c.first_leaf.ensures) (keys_driven (g.P.Place.building c.args.place) c.args.i c.along.ensures)

pub heads-requires-clause-follows : goal.heads-requires-clause-follows
heads-requires-clause-follows g c = keys_follow (g.P.Place.building c.args.place) c.args.i (rw (head_edges _ c.args.i c.in-ByHead.is) at c.requires.follows)

pub returns-in-ByHead : goal.returns-in-ByHead
returns-in-ByHead g c = rw (head_edges _ c.args.i c.in-ByHead.is) (keys_driven (g.P.Place.building c.args.place) c.args.i c.heads.ensures)

pub place-requires-in-Some : goal.place-requires-in-Some
place-requires-in-Some g c = rw (body_edges _ c.args.i c.in-ByBody.is c.in-Some.ensures) at c.requires.follows

pub returns-in-Some : goal.returns-in-Some
returns-in-Some g c = rw (body_edges _ c.args.i c.in-ByBody.is c.in-Some.ensures) c.place-in-Some.ensures

pub returns-in_default : goal.returns-in_default
returns-in_default g c = rw (body_no_edges _ c.args.i c.in-ByBody.is c.in_default.ensures) (drives_none (g.P.Place.building c.args.place))
