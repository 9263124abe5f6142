use mathlib.Core.Path.{refl, sym, ◌∙◌}
use native.Mathlib.Omega.{arith}
use Rattle.refusals.proofs.SearchLaws.{first_clear}
use Rattle.refusals.proofs.RowLaws.{edition_long, sized, upward_passes}
use Rattle.compare.proofs.walkable.Goals as goal

pub bad_counts-requires : goal.bad_counts-requires
bad_counts-requires g c = edition_long _ _ (sym c.bad_edition.ensures ∙ c.if-bad_edition.false)

pub bad_size-requires : goal.bad_size-requires
bad_size-requires g c = edition_long _ _ (sym c.bad_edition.ensures ∙ c.if-bad_edition.false)

pub first_turn-requires : goal.first_turn-requires
first_turn-requires g c = sized _ _ (sym c.bad_counts.ensures ∙ c.if-bad_counts.false) (sym c.bad_size.ensures ∙ c.if-bad_size.false)

pub returns-in_default : goal.returns-in_default
returns-in_default g c = (
  λ t. record {
    edition = sym c.bad_edition.ensures ∙ c.if-bad_edition.false;
    counts = sym c.bad_counts.ensures ∙ c.if-bad_counts.false;
    size = sym c.bad_size.ensures ∙ c.if-bad_size.false;
    links = upward_passes _ (first_clear c.in_default.ensures (omega arith));
  },
  λ w. refl,
)

pub bad_link-requires : goal.bad_link-requires
bad_link-requires g c =
    (sized _ _ (sym c.bad_counts.ensures ∙ c.if-bad_counts.false) (sym c.bad_size.ensures ∙ c.if-bad_size.false), omega (arith, c.in-Some.ensures.0), c.in-Some.ensures.1.before)
