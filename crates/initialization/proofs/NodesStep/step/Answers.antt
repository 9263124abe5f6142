use native.Mathlib.Omega.{arith}
use Rattle.initialization.proofs.StartLaws.{cone_low, vertex_ready, vertex_fits, inactive_rests, true_pushes, awaiting_pushes, awaiting_waits, awaiting_fits}
use Rattle.initialization.proofs.NodesStep.step.Goals as goal

pub overflow_add-vertex : goal.overflow_add-vertex
overflow_add-vertex g c = let r = vertex_ready c.requires in omega arith

pub read-requires : goal.read-requires
read-requires g c = record { accepted = (c.requires.held.accepted, c.requires.held.based); low = cone_low c.requires }

pub push-requires : goal.push-requires
push-requires g c =
    let holds = g.met.W.Word.holds in
    let r = vertex_ready c.requires in let k = vertex_fits c.requires in let a = c.requires.held.accepted in let m = c.requires.held.based in omega arith

pub returns-then-count-eq0 : goal.returns-then-count-eq0
returns-then-count-eq0 g c = rw (c.push.ensures.0, c.push.ensures.1) (awaiting_pushes c.requires c.read.ensures c.in-Awaiting.is c.if-count-eq0.true)

pub overflow_add-b : goal.overflow_add-b
overflow_add-b g c = let r = vertex_ready c.requires in omega arith

pub put-requires : goal.put-requires
put-requires g c =
    let holds = g.met.W.Word.holds in
    let r = vertex_ready c.requires in let k = awaiting_fits c.requires c.read.ensures c.in-Awaiting.is in omega arith

pub push-requires-in-True : goal.push-requires-in-True
push-requires-in-True g c =
    let holds = g.met.W.Word.holds in
    let r = vertex_ready c.requires in let k = vertex_fits c.requires in let a = c.requires.held.accepted in let m = c.requires.held.based in omega arith

pub returns-in-Inactive : goal.returns-in-Inactive
returns-in-Inactive g c = inactive_rests c.requires c.read.ensures c.in-Inactive.is

pub returns-else-count-eq0 : goal.returns-else-count-eq0
returns-else-count-eq0 g c = rw c.put.ensures (awaiting_waits c.requires c.read.ensures c.in-Awaiting.is c.if-count-eq0.false)

pub returns-in-True : goal.returns-in-True
returns-in-True g c = rw (c.push-in-True.ensures.0, c.push-in-True.ensures.1) (true_pushes c.requires c.read.ensures c.in-True.is)
