use mathlib.Core.Bool.{true≢false}
use mathlib.Core.Path.{sym, ◌∙◌}
use Rattle.compare.proofs.PassLaws.{beside, walked, not_walked}
use Rattle.compare.proofs.walk.Goals as goal

pub by_content-requires : goal.by_content-requires
by_content-requires g c = beside _ _ _ c.requires (c.walkable.ensures.0 c.if-walkable.true)

pub returns-then-walkable : goal.returns-then-walkable
returns-then-walkable g c = walked _ _ _ c.requires (c.walkable.ensures.0 c.if-walkable.true) c.by_content.ensures

pub returns-else-walkable : goal.returns-else-walkable
returns-else-walkable g c = not_walked _ (g.W.Word.numbers c.args.x.now) _ (λ w. true≢false (sym (c.walkable.ensures.1 w) ∙ c.if-walkable.false))
