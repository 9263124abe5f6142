use Rattle.std.proofs.Common.{◌≡◌, ◌++◌, drop}
use Rattle.mask.specs.Mask.{mask_of, flagged}
use Rattle.mask.proofs.pack_flags.Given as goal

abbrev pub invariant-loop-w : goal.invariant-loop-w
invariant-loop-w g l = l.mask ≡ mask_of l.w (flagged (g.W.Word.numbers l.flags)) ++ drop l.w l.initial.mask
