use mathlib.Core.Path.{sym, ◌∙◌}
use native.Mathlib.Omega.{arith}
use lib.ListN.{length-set}
use Rattle.components.proofs.TurnLaws.{root_place, root_known, queue_place, root_followed, root_gathered}
use Rattle.components.proofs.gather.Goals as goal

pub overflow_add-m : goal.overflow_add-m
overflow_add-m g c = let p = root_place c.requires.0 c.requires.1 c.args.n c.requires.2 c.at-root.ensures.0 in omega arith

pub at-requires : goal.at-requires
at-requires g c = let p = root_place c.requires.0 c.requires.1 c.args.n c.requires.2 c.at-root.ensures.0 in omega arith

pub returns-then-at-ne-MET : goal.returns-then-at-ne-MET
returns-then-at-ne-MET g c = root_known c.requires.0 c.requires.1 c.args.n c.requires.2 c.at-root.ensures.0 (rw c.at.ensures.0 at c.if-at-ne-MET.true)

pub overflow_add-b-2 : goal.overflow_add-b-2
overflow_add-b-2 g c = let p = queue_place c.requires.0 c.requires.1 c.args.n c.requires.2 c.at-root.ensures.0 (sym c.at.ensures.0 ∙ c.if-at-ne-MET.false) in omega arith

pub put-requires-2 : goal.put-requires-2
put-requires-2 g c = let p = queue_place c.requires.0 c.requires.1 c.args.n c.requires.2 c.at-root.ensures.0 (sym c.at.ensures.0 ∙ c.if-at-ne-MET.false) in (rw (c.put.ensures, length-set) (omega arith), c.at-root.ensures.1)

pub follow-requires : goal.follow-requires
follow-requires g c =
    let holds = g.met.W.Word.holds in
    rw (c.put-2.ensures, c.put.ensures) (root_followed c.requires.0 c.requires.1 c.args.n c.requires.2 c.at-root.ensures.0 (sym c.at.ensures.0 ∙ c.if-at-ne-MET.false) {lim = g.W.Word.limit} (omega arith))

pub returns : goal.returns
returns g c =
    let holds = g.met.W.Word.holds in
    root_gathered c.requires.0 c.requires.1 c.args.n c.requires.2 c.at-root.ensures.0 (sym c.at.ensures.0 ∙ c.if-at-ne-MET.false) {lim = g.W.Word.limit} (omega arith) (rw (c.put-2.ensures, c.put.ensures) at c.follow.ensures)
