use mathlib.Core.Path.{◌∙◌}
use Rattle.projection.proofs.SourceLaws.{word_mark, told_has}
use Rattle.projection.proofs.Source.has.Goals as goal

pub returns : goal.returns
returns c = told_has c.requires.0 _ (c.at.ensures.0 ∙ (word_mark c.requires.0 c.args.n c.requires.1).1)
