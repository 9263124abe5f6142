use mathlib.Core.Path.{sym, ap, ◌∙◌}
use native.Mathlib.Omega.{arith}
use Prim.Native.Nat.{◌+◌}
use lib.ListN.{length, length-set}
use Rattle.initialization.proofs.StartLaws.{head_ready, head_fits, head_passes, head_pushes}
use Rattle.initialization.proofs.ActivateStep.step.Goals as goal

pub overflow_add-b : goal.overflow_add-b
overflow_add-b g c = let r = head_ready c.requires in omega arith

pub at-requires : goal.at-requires
at-requires g c = let r = head_ready c.requires in omega arith

pub returns-then-at-eq0 : goal.returns-then-at-eq0
returns-then-at-eq0 g c = head_passes (sym c.at.ensures.0 ∙ c.if-at-eq0.true)

pub push-requires : goal.push-requires
push-requires g c =
    let long = ap length c.put.ensures ∙ length-set (g.W.Word.numbers c.args.work.now) (c.args.self.bases.dependencies + c.args.a) 0 in
    let fits = c.requires.held.0 in
    let r = head_ready c.requires in
    let k = head_fits c.requires (let e = c.at.ensures.0 in let n = c.if-at-eq0.false in omega arith) in
    omega arith

pub returns : goal.returns
returns g c = rw (c.push.ensures.0, c.push.ensures.1, c.put.ensures) (head_pushes c.requires (let e = c.at.ensures.0 in let n = c.if-at-eq0.false in omega arith))
