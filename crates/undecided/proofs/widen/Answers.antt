use mathlib.Core.Path.{refl, sym, ◌∙◌}
use native.Mathlib.Omega.{arith}
use native.Mathlib.Numerals.{add-one}
use Rattle.theory.specs.Words.{theory_of, bit_at}
use Rattle.choices.specs.Undecided.{shut}
use Rattle.mask.proofs.MaskLaws.{mask_length}
use Rattle.undecided.proofs.ShutLaws.{bit_none, wider, not_wider}
use Rattle.undecided.proofs.widen.Goals as goal
use Rattle.undecided.proofs.widen.Goals.{then-shuts, else-shuts}

pub loop-n-init : goal.loop-n-init
loop-n-init c = (refl, λ m. bit_none 16 (shut (theory_of c.args.graph.now) (bit_at c.args.never.now) (bit_at c.args.open_nodes.now) (bit_at c.args.open_atoms.now)) m)

pub shuts-requires : goal.shuts-requires
unfolding theory_of
shuts-requires c = (c.requires, let t = c.loop-n-test.true in let e = c.nodes-n-end.ensures in omega arith)

pub loop-n-preserved : goal.loop-n-preserved
loop-n-preserved c =
    let low = c.loop-n-test.true in let same = c.nodes-n-end.ensures in let few = c.requires.nodes_few in let long = c.loop-n.invariant.0 in
    elim c.if-shuts.branch [
      | then-shuts w ↦ rw (w.wide-is, w.set_bit.ensures, add-one c.loop-n.n) (mask_length _ _ ∙ long, wider _ c.loop-n.n _ c.loop-n.invariant.1 (omega arith) (sym c.shuts.ensures ∙ w.if-shuts.true))
      | else-shuts w ↦ rw (w.wide-is, add-one c.loop-n.n) (long, not_wider _ c.loop-n.n _ c.loop-n.invariant.1 (sym c.shuts.ensures ∙ w.if-shuts.false))
    ]
