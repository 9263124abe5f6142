use mathlib.Core.Path.{sym}
use Rattle.theory.specs.Accepted.{edition2}
use Rattle.refusals.proofs.AcceptedLaws.{accepted}
use Rattle.abi.proofs.length.founded_wide_work_words.Goals as goal

pub area_words-requires : goal.area_words-requires
area_words-requires c = accepted edition2 c.args.graph.now (sym c.in-Ok.ensures)
