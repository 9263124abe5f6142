use Rattle.std.proofs.Common.{◌≡◌, ◌*◌, take, replicate}
use Rattle.area.proofs.wipe.Given as goal

abbrev pub invariant-loop-block : goal.invariant-loop-block
invariant-loop-block g l = take (512 * l.block) (g.W.Word.numbers l.words) ≡ replicate (512 * l.block) 0
