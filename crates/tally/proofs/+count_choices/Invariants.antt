use Rattle.std.proofs.Common.{length}
use Rattle.tally.proofs.+count_choices.Given as goal

abbrev pub decreases-count_choices : goal.decreases-count_choices
decreases-count_choices l = length l.left.now
