use mathlib.Core.Path.{ap}
use native.Mathlib.Omega.{arith}
use lib.ListN.{length, length-append}
use Rattle.text.proofs.TextLaws.{append_then, number_text}
use Rattle.text.proofs.put_number.Goals as goal

pub put-requires-2 : goal.put-requires-2
put-requires-2 g c =
    rw (c.put.ensures, length-append) (omega (arith, c.requires, ap length (number_text c.args.n (omega arith) c.as_bytes.ensures.value c.format.ensures.text)))

pub returns : goal.returns
returns g c =
    append_then _ _ _ c.put.ensures (rw (number_text c.args.n (omega arith) c.as_bytes.ensures.value c.format.ensures.text) at c.put-2.ensures)
