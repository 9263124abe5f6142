use mathlib.Core.Path.{sym}
use Rattle.theory.specs.Words.{bit_at}
use Rattle.mask.proofs.MaskLaws.{bit_past}
use borrow.Author.Rules.{rules}
use Rattle.mask.proofs.bit.Goals as goal

pub returns-then-mask-w : goal.returns-then-mask-w
returns-then-mask-w c = sym (bit_past _ _ c.if-mask-w.true)

pub returns : goal.returns
unfolding bit_at
returns c = search rules
