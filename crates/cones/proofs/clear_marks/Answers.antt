use Rattle.area.proofs.FillLaws.{filled_words}
use Rattle.cones.proofs.BeginLaws.{marks_part, cleared_kept, cleared_marks}
use Rattle.cones.proofs.clear_marks.Goals as goal

pub returns : goal.returns
returns g c =
    let f = filled_words g.met.W.Word.each (marks_part c.requires.0 c.requires.1) c.clear.ensures in
    (cleared_kept c.requires.0 f, cleared_marks c.requires.0 f)
