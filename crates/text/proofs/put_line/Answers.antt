use native.Mathlib.Omega.{arith}
use lib.ListN.{length-append}
use Rattle.text.proofs.TextLaws.{append_then, line_next, line_room}
use Rattle.text.proofs.put_line.Goals as goal

pub put_number-requires : goal.put_number-requires
put_number-requires g c =
    rw (c.loop-n.invariant, length-append) (omega (arith, c.requires, line_room c.args.word.now c.args.numbers.now c.loop-n.n-index (omega arith)))

pub loop-n-preserved : goal.loop-n-preserved
loop-n-preserved g c =
    rw (line_next c.args.word.now c.args.numbers.now c.loop-n.n-index (omega arith)) (append_then _ _ _ c.loop-n.invariant c.put_number.ensures)
