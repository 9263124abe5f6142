use mathlib.Core.Path.{sym, ◌∙◌}
use native.Mathlib.Omega.{arith}
use Rattle.tally.proofs.CountLaws.{listed_none, listed_put, listed_many, listed_skip}
use Rattle.tally.proofs.list_open.Goals as goal
use Rattle.tally.proofs.list_open.Goals.{then-bit, else-bit, then-open-lt-MOST, else-open-lt-MOST}

pub loop-a-init : goal.loop-a-init
loop-a-init c = listed_none _ _ c.requires.1

pub loop-a-preserved : goal.loop-a-preserved
loop-a-preserved c = elim c.if-bit.branch [
  | then-bit w ↦ elim w.if-open-lt-MOST.branch [
    | then-open-lt-MOST v ↦ rw (w.list-is, v.list-is, w.open-is) (listed_put c.loop-a.invariant (sym c.bit.ensures ∙ w.if-bit.true) v.if-open-lt-MOST.true)
    | else-open-lt-MOST v ↦ rw (w.list-is, v.list-is, w.open-is) (listed_many c.loop-a.invariant (sym c.bit.ensures ∙ w.if-bit.true) (let z = v.if-open-lt-MOST.false in omega arith))
  ]
  | else-bit w ↦ rw (w.list-is, w.open-is) (listed_skip c.loop-a.invariant (sym c.bit.ensures ∙ w.if-bit.false))
]
