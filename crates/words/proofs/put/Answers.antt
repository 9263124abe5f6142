use Rattle.std.proofs.Common.{◌∙◌, ap, set}
use Rattle.words.proofs.NumberLaws.{numbers_set}
use Rattle.words.proofs.put.Goals as goal

pub returns : goal.returns
returns g c = numbers_set g.met.W.Word.each c.args.words.now c.args.i c.of.result ∙ ap (set (g.W.Word.numbers c.args.words.now) c.args.i) c.of.ensures
