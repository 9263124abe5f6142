use native.Mathlib.Omega.{arith}
use mathlib.Core.Path.{refl, sym, ◌∙◌}
use Rattle.theory.specs.Words.{bit_at}
use Rattle.initialization.proofs.FillLaws.{first_past, first_told, flag_few}
use Rattle.initialization.proofs.first_count.Goals as goal
use Rattle.initialization.proofs.first_count.Goals.{then-is_cyclic, else-is_cyclic}

pub returns-then-b-v : goal.returns-then-b-v
returns-then-b-v g c = (λ s f. first_past f (bit_at c.args.atom_never.now) c.if-b-v.true, omega arith)

pub returns : goal.returns
returns g c =
    let cut = bit_at c.args.atom_never.now in
    elim c.if-is_cyclic.branch [
      | then-is_cyclic w ↦ (λ s f. c.from.ensures ∙ first_told s cut c.args.v (rw (w.from-is, sym (c.is_cyclic.ensures s f), w.if-is_cyclic.true, w.bit.ensures) refl), rw c.from.ensures (flag_few _))
      | else-is_cyclic w ↦ (λ s f. c.from.ensures ∙ first_told s cut c.args.v (rw (w.from-is, sym (c.is_cyclic.ensures s f), w.if-is_cyclic.false) refl), rw c.from.ensures (flag_few _))
    ]
