use mathlib.Core.Path.{ap, ◌∙◌}
use Prim.Native.Nat.{◌/◌}
use lib.ListN.{length}
use Rattle.std.proofs.Common.{arith}
use Rattle.input.specs.Bytes.{word_at}
use Rattle.input.proofs.ByteLaws.{chunk_word, fill_next}
use Rattle.input.proofs.words.Goals as goal

pub loop-i-preserved : goal.loop-i-preserved
loop-i-preserved g c =
    fill_next (λ j. g.W.LittleEndian.of (word_at g.row.K c.args.bytes.now j)) c.loop-i.words c.loop-i.i c.from_le.result c.loop-i.invariant (omega arith)
    (c.from_le.ensures ∙ ap g.W.LittleEndian.of (chunk_word g.row.K (length c.args.bytes.now / g.row.K) c.loop-i.i c.args.bytes.now _ c.as_chunks.ensures.front (omega arith) c.index-whole-i.is))
