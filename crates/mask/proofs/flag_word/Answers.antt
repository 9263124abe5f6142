use Rattle.std.proofs.Common.{sym, arith}
use Rattle.words.proofs.NumberLaws.{numbers_length}
use Rattle.mask.specs.Mask.{flagged}
use Rattle.mask.proofs.BitLaws.{bits_down}
use Rattle.mask.proofs.MaskLaws.{flags_past}
use Rattle.mask.proofs.flag_word.Goals as goal

pub loop-i-init : goal.loop-i-init
loop-i-init g c =
    let long = numbers_length g.met.W.Word.each c.args.flags.now in
    (omega arith, sym (flags_past (g.W.Word.numbers c.args.flags.now) _ _ (λ j l u. omega arith)))

pub loop-i-preserved : goal.loop-i-preserved
loop-i-preserved g c =
    let s = flagged (g.W.Word.numbers c.args.flags.now) in
    (omega arith, rw (c.from.ensures, c.at.ensures.0) (bits_down s 64 _ c.loop-i.i c.loop-i.word (omega arith) (omega arith) c.loop-i.invariant.1))
