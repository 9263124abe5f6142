use mathlib.Core.Path.{◌∙◌}
use Rattle.projection.proofs.SourceLaws.{word_flag, told_has}
use Rattle.projection.proofs.Source.is_cyclic.Goals as goal

pub returns : goal.returns
returns c = told_has c.requires.0 _ (c.at.ensures.0 ∙ (word_flag c.requires.0 c.args.a c.requires.1).1)
