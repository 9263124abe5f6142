use Rattle.std.proofs.Common.{rules, arith}
use Rattle.mask.specs.Mask.{mask_of, flagged}
use Rattle.mask.proofs.MaskLaws.{mask_more}
use Rattle.mask.proofs.pack_flags.Goals as goal

pub loop-w-init : goal.loop-w-init
unfolding mask_of
loop-w-init g c = search rules

pub loop-w-preserved : goal.loop-w-preserved
loop-w-preserved g c = rw c.loop-w.invariant (mask_more c.loop-w.w (flagged (g.W.Word.numbers c.args.flags.now)) c.args.mask.now c.flag_word.result (omega arith) c.flag_word.ensures)
