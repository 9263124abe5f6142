use mathlib.Core.Bool.{cond}
use Prim.Native.Nat.{◌+◌, ◌-◌}
use lib.ListN.{get_or}
use Rattle.theory.specs.Words.{bit_at, theory_of}
use Rattle.theory.specs.Founded.{cyclic}
use Rattle.theory.specs.Roles.{role}
use Rattle.later.specs.Later.{Reset}
use Rattle.later.proofs.Projection.reset_counters.Given as goal

abbrev pub invariant-loop-i : goal.invariant-loop-i
invariant-loop-i l = Reset l.fn.self.bases (λ v. cond (bit_at l.never (v - l.fn.self.bases.atoms)) 0 (role (theory_of l.fn.self.graph.now) (cyclic (theory_of l.fn.self.graph.now)) (v - l.fn.self.bases.atoms))) (λ i. l.fn.self.bases.atoms + get_or l.fn.self.body_nodes.now i 0) l.initial.work l.work l.i
