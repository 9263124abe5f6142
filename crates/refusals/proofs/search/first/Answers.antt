use Rattle.std.proofs.Common.{rules, ◌≡◌, ◌≤◌, ◌<◌, true, false}
use borrow.Author.Tests.{tests}
use Rattle.std.proofs.lemmas.Iterator.{serves_from_Range, first_from_Range}
use Rattle.refusals.proofs.SearchLaws.{finds_first}
use Rattle.refusals.proofs.search.first.Goals as goal

pub find-requires-clause-callable : goal.find-requires-clause-callable
find-requires-clause-callable g c = serves_from_Range (λ x q k. search (rules, tests)) (λ x low high. search rules)

pub returns : goal.returns
returns g c = λ bad t. finds_first bad c.requires.ordered c.find.result (
    first_from_Range _ _ _ _ (λ i. c.args.from ≤ i → i < c.args.end → bad i ≡ true) (λ i. c.args.from ≤ i → i < c.args.end → bad i ≡ false) c.find.ensures.ran
    (λ x q k p h. search (rules, tests))
    (λ x q k. search (rules, tests)))
