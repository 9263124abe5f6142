-- Demand 3 beside its clause: after success the bits of the output, as the pass leaves them, are the missing set (`list_missing`), so the list is itself an
-- unfounded set (`list_unfounded`) and contains every other (`list_largest`).
use mathlib.Core.Path.{◌≡◌, sym, subst}
use mathlib.Core.List.{List}
use Prim.Native.Nat.{ℕ}
use borrow.Author.Tests.{eq-eqb}
use Rattle.theory.specs.Sets.{Set, ◌⊆◌}
use Rattle.theory.specs.Words.{theory_of, bit_at}
use Rattle.theory.specs.Founded.{missing}
use Rattle.theory.specs.Unfounded.{Unfounded}
use Rattle.theory.proofs.UnfoundedLaws.{missing_unfounded, unfounded_missing}
use Rattle.founded.specs.Answers.{CompleteLeaves}
use Rattle.founded.proofs.OutputLaws.{missing_list}

module _ {ws never atom_never output work output' work' : List ℕ} {number : ℕ} (h : CompleteLeaves ws never atom_never output work output' work' number) (success : number ≡ 0) where
  pub list_missing : bit_at output' ≡ missing (theory_of ws) (bit_at never) (bit_at atom_never)
  list_missing = rw (h.output_after, eq-eqb number 0 success) (missing_list ws (bit_at never) (bit_at atom_never))

  pub list_unfounded : Unfounded (theory_of ws) (bit_at never) (bit_at atom_never) (bit_at output')
  list_unfounded = subst (Unfounded (theory_of ws) (bit_at never) (bit_at atom_never)) (sym list_missing) (missing_unfounded (theory_of ws) (bit_at never) (bit_at atom_never))

  pub list_largest : (u : Set) → Unfounded (theory_of ws) (bit_at never) (bit_at atom_never) u → u ⊆ bit_at output'
  list_largest u f = subst (λ (s : Set). u ⊆ s) (sym list_missing) (unfounded_missing (theory_of ws) (bit_at never) (bit_at atom_never) u f)
