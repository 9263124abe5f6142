use mathlib.Core.Path.{◌≡◌, sym, ◌∙◌}
use mathlib.Core.List.{[]}
use lib.ListN.{length}
use Rattle.theory.specs.Closure.{every}
use Rattle.words.proofs.NumberLaws.{numbers_length}
use Rattle.events.proofs.RunLaws.{graph_serves}
use Rattle.cycles.proofs.AnswerLaws.{tables_looked, running, answer}
use borrow.Author.Rules.{rules}
use Rattle.cycles.proofs.cyclic.Goals as goal

pub settle_all-n-requires : goal.settle_all-n-requires
settle_all-n-requires g c =
    let e : length (g.W.Word.numbers c.look_all-first.new.work) ≡ length c.args.work.now = numbers_length g.met.W.Word.each _ ∙ search rules in
    let f = c.bases_of-b.ensures in
    rw (e, sym f.is) record {
      stand = record { accepted = c.requires.0; based = rw e f; tables = tables_looked (g.W.Word.numbers c.args.graph.now) c.count_all.ensures c.look_all-first.ensures };
      runs = (_, _, [], graph_serves c.requires.0 f (λ v. every), running (g.W.Word.numbers c.args.graph.now) c.count_all.ensures c.look_all-first.ensures);
    }

pub returns : goal.returns
returns g c =
    let e : length (g.W.Word.numbers c.look_all-first.new.work) ≡ length c.args.work.now = numbers_length g.met.W.Word.each _ ∙ search rules in
    let f = c.bases_of-b.ensures in
    answer (g.W.Word.numbers c.args.graph.now) c.count_all.ensures c.look_all-first.ensures (graph_serves c.requires.0 f (λ v. every)) (rw (e, sym f.is) at c.settle_all-n.ensures)
