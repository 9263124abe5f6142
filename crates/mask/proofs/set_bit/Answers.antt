use native.Mathlib.Omega.{arith}
use Rattle.mask.proofs.MaskLaws.{bit_store}
use borrow.Author.Rules.{rules}
use Rattle.mask.proofs.set_bit.Goals as goal

pub returns : goal.returns
returns c = let a = c.args in bit_store a.mask.now a.i (λ v. search rules) (omega arith)
