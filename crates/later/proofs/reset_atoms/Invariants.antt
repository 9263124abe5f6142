use mathlib.Core.Bool.{cond}
use lib.ListN.{get_or}
use Rattle.theory.specs.Words.{bit_at}
use Rattle.later.specs.Later.{Reset}
use Rattle.later.proofs.reset_atoms.Given as goal

abbrev pub invariant-loop-i : goal.invariant-loop-i
invariant-loop-i l = Reset l.fn.b (λ v. cond (bit_at l.atom_never v) 0 1) (λ i. get_or l.atoms i 0) l.initial.work l.work l.i
