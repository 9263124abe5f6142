use mathlib.Core.Path.{sym, ◌∙◌}
use Prim.Native.Nat.{◌*◌, ◌/◌}
use native.Mathlib.Omega.{arith}
use lib.ListN.{length}
use Rattle.input.specs.Bytes.{word_at}
use Rattle.input.proofs.ByteLaws.{tabulate_at, low_high}
use Rattle.input.proofs.header.Goals as goal

pub returns : goal.returns
returns c =
    (c.from.ensures ∙ c.from_le_bytes.ensures ∙ low_high c.args.bytes.now (2 * c.args.i) ∙ sym (tabulate_at (word_at 2 c.args.bytes.now) (length c.args.bytes.now / 2) c.args.i (omega arith)), omega arith)
