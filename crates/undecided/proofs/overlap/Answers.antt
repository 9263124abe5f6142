use mathlib.Core.Path.{refl, sym, ◌∙◌}
use native.Mathlib.Numerals.{add-one}
use Rattle.theory.specs.Sets.{any_below}
use Rattle.theory.proofs.SetLaws.{below_holds, and_intro}
use Rattle.undecided.proofs.overlap.Goals as goal
use Rattle.undecided.proofs.overlap.Goals.{else-bit-via-then-bit+else-bit-2, else-bit-via-else-bit}

pub loop-i-init : goal.loop-i-init
unfolding any_below
loop-i-init c = refl

pub returns-then-bit-2 : goal.returns-then-bit-2
returns-then-bit-2 c = sym (below_holds c.args.count _ c.loop-i.i c.loop-i-test.true (and_intro (sym c.bit.ensures ∙ c.if-bit.true) (sym c.bit-then-bit.ensures ∙ c.if-bit-2.true)))

pub loop-i-preserved : goal.loop-i-preserved
unfolding any_below
loop-i-preserved c = elim c.else-bit.branch [
  | else-bit-via-then-bit+else-bit-2 w ↦ rw (add-one c.loop-i.i, sym c.bit.ensures ∙ w.if-bit.true, sym w.bit-then-bit.ensures ∙ w.if-bit-2.false) c.loop-i.invariant
  | else-bit-via-else-bit w ↦ rw (add-one c.loop-i.i, sym c.bit.ensures ∙ w.if-bit.false) c.loop-i.invariant
]
