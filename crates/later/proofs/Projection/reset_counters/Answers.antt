use native.Mathlib.Omega.{arith}
use mathlib.Core.Path.{◌≡◌, sym, ap, ◌∙◌}
use mathlib.Core.Logic.{inl}
use mathlib.Core.Bool.{Bool, true, false, cond}
use Prim.Native.Nat.{ℕ, ◌+◌}
use Rattle.theory.specs.Words.{bit_at, theory_of}
use Rattle.theory.specs.Founded.{cyclic}
use Rattle.theory.specs.Roles.{role}
use Rattle.later.proofs.BeginLaws.{counted}
use Rattle.later.proofs.ResetLaws.{reset_next}
use Rattle.later.proofs.Projection.reset_counters.Goals as goal
use Rattle.later.proofs.Projection.reset_counters.Goals.{then-bit, else-bit}

pub loop-i-preserved : goal.loop-i-preserved
loop-i-preserved c =
    let p = c.requires.projected.parted in
    let low = c.requires.low c.loop-i.i (let z = p.seeds_low in let t = c.loop-i-test.true in omega arith) in
    let n = c.at-n.ensures.0 in
    let r = p.numbers c.loop-i.i (inl c.loop-i-test.true) in
    let to = counted (bit_at c.args.never.now) (role (theory_of c.args.self.graph.now) (cyclic (theory_of c.args.self.graph.now))) c.args.self.bases.atoms (lib.ListN.get_or c.args.self.body_nodes.now c.loop-i.i 0) in
    elim c.if-bit.branch [
      | then-bit w ↦ rw c.put.ensures (reset_next c.requires.area.0 c.requires.area.1 c.loop-i.invariant (omega arith) (ap (λ (x : ℕ). c.args.self.bases.atoms + x) n)
          (w.count-is ∙ sym (ap (λ (x : Bool). cond x 0 (role (theory_of c.args.self.graph.now) (cyclic (theory_of c.args.self.graph.now)) (lib.ListN.get_or c.args.self.body_nodes.now c.loop-i.i 0))) (ap (bit_at c.args.never.now) (sym n) ∙ sym c.bit.ensures ∙ w.if-bit.true)) ∙ sym to))
      | else-bit w ↦ rw c.put.ensures (reset_next c.requires.area.0 c.requires.area.1 c.loop-i.invariant (omega arith) (ap (λ (x : ℕ). c.args.self.bases.atoms + x) n)
          (w.count-is ∙ w.at-count.ensures.0 ∙ r ∙ sym (ap (λ (x : Bool). cond x 0 (role (theory_of c.args.self.graph.now) (cyclic (theory_of c.args.self.graph.now)) (lib.ListN.get_or c.args.self.body_nodes.now c.loop-i.i 0))) (ap (bit_at c.args.never.now) (sym n) ∙ sym c.bit.ensures ∙ w.if-bit.false)) ∙ sym to))
    ]
