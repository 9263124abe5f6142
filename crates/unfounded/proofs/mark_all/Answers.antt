use Rattle.area.proofs.FillLaws.{filled_words}
use Rattle.unfounded.proofs.StandLaws.{flags_part}
use Rattle.unfounded.proofs.mark_all.Goals as goal

pub returns : goal.returns
returns g c = rw c.of.ensures at (filled_words g.met.W.Word.each (flags_part c.requires.0 c.requires.1) c.fill.ensures)
