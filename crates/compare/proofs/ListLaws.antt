-- Two chains followed together, of which the second may not end: what is left of them compares as the whole does, and where the first ends with no difference the second does too.
use mathlib.Core.Path.{◌≡◌, refl, sym, ap, ◌∙◌}
use mathlib.Core.Logic.{◌⊎◌, inl, inr}
use mathlib.Core.Bool.{true, false}
use mathlib.Core.List.{List, [], ◌∷◌}
use Prim.Native.Nat.{ℕ, ◌+◌, ◌≤◌, ◌<◌}
use native.Mathlib.Omega.{arith}
use lib.ListN.{get_or}
use Rattle.std.specs.declared.cmp.Ordering.{Ordering}
use Rattle.std.specs.declared.cmp.Ordering.TheVariants.{Less, Equal, Greater}
use Rattle.std.specs.Ordering.{is_ne, nat_cmp, ordering_then}
use Rattle.std.specs.Cmp.Lexicographic.{slice_cmp}
use Rattle.theory.specs.Words.{value_of, next_of, chain}
use Rattle.theory.specs.Links.{link_after, MeetsOnce, comes_back}
use Rattle.theory.proofs.SetLaws.{bool_cases}
use Rattle.theory.proofs.ChainLaws.{after_step, comes_back_lem, back_endless, links_inside, clear_once, once_link, once_next, chain_end, chain_step}
use Rattle.compare.specs.Beside.{Nexts, Beside}
use Rattle.compare.proofs.BesideLaws.{differs, part_differs}
use Rattle.theory.proofs.OrderLaws.{number_same, number_equal}

-- the chain from l ends
abbrev Ends : List ℕ → ℕ → Type 0
Ends ws l = (i : ℕ) × (link_after ws i l ≡ 0)

-- a chain that ends meets no link twice
ends_once : (ws : List ℕ) → Nexts ws → {l : ℕ} → l ≤ get_or ws 4 0 → Ends ws l → MeetsOnce ws l
ends_once ws nexts {l} low e = clear_once ws inside (go (bool_cases (comes_back ws l)))
  where
    inside : (i : ℕ) → link_after ws i l ≤ get_or ws 4 0
    inside = links_inside ws nexts low

    go : (comes_back ws l ≡ true) ⊎ (comes_back ws l ≡ false) → comes_back ws l ≡ false
    go (inl t) = absurd (back_endless ws ((comes_back_lem ws inside).0 t) e.0 e.1)
    go (inr f) = f

-- the first chain, with the entries `whole`, has `rest` left, and the second, from link `other`, has come to link m with no difference
pub record Together (y : List ℕ) (other : ℕ) (whole rest : List ℕ) (m : ℕ) : Type 0 where
  pub low : m ≤ get_or y 4 0
  pub ends : Ends y m → Ends y other
  pub once : MeetsOnce y other → MeetsOnce y m
  pub same : MeetsOnce y other → slice_cmp nat_cmp rest (chain y m) ≡ slice_cmp nat_cmp whole (chain y other)

pub together_first : {y : List ℕ} {other : ℕ} {whole : List ℕ} → other ≤ get_or y 4 0 → Together y other whole whole other
together_first low = record { low = low; ends = λ e. e; once = λ o. o; same = λ o. refl }

-- a first link that is no link of the graph
pub no_link : {y : List ℕ} {other : ℕ} {order : Ordering} → get_or y 4 0 < other → Beside (MeetsOnce y other) order Less
no_link {y} h = differs refl (λ o. absurd (let k = once_link y o in omega arith))

module _ {y : List ℕ} {other : ℕ} {whole rest : List ℕ} {m : ℕ} (t : Together y other whole rest m) where
  abbrev Says : Ordering → Type 0
  Says found = Beside (MeetsOnce y other) (slice_cmp nat_cmp whole (chain y other)) found

  -- what the second has left
  at_end : m ≡ 0 → chain y m ≡ []
  at_end z = ap (chain y) z ∙ chain_end y

  goes_on : (m ≡ 0 → ⊥) → MeetsOnce y other → chain y m ≡ value_of y m ∷ chain y (next_of y m)
  goes_on z o = chain_step y (t.once o) z

  pub together_same : Nexts y → other ≤ get_or y 4 0 → rest ≡ [] → m ≡ 0 → Says Equal
  unfolding link_after
  together_same nexts low e z = record { told = λ o. sym (rw (e, at_end z) refl) ∙ t.same o; good = λ q. ends_once y nexts low (t.ends (0, z)) }

  pub together_less : rest ≡ [] → (m ≡ 0 → ⊥) → Says Less
  together_less e z = differs refl (λ o. sym (rw (e, goes_on z o) refl) ∙ t.same o)

  module _ {v : ℕ} {left : List ℕ} (e : rest ≡ v ∷ left) where
    pub together_greater : m ≡ 0 → Says Greater
    together_greater z = differs refl (λ o. sym (rw (e, at_end z) refl) ∙ t.same o)

    module _ (z : m ≡ 0 → ⊥) {w : ℕ} (f : w ≡ value_of y m) where
      opens : MeetsOnce y other → slice_cmp nat_cmp whole (chain y other) ≡ ordering_then (nat_cmp v w) (slice_cmp nat_cmp left (chain y (next_of y m)))
      opens o = sym (t.same o) ∙ rw (e, goes_on z o, f) refl

      pub together_differ : (v ≡ w → ⊥) → {found : Ordering} → found ≡ nat_cmp v w → Says found
      together_differ d {found} g = record {
        told = λ o. (part_differs {Good = MeetsOnce y other} (slice_cmp nat_cmp left (chain y (next_of y m))) (opens o) (λ o. g) (uneven found g)).told o;
        good = λ q. absurd (d (number_equal v w (sym g ∙ q)));
      }
        where
          uneven : (r : Ordering) → r ≡ nat_cmp v w → is_ne r ≡ true
          uneven Less h = refl
          uneven Equal h = absurd (d (number_equal v w (sym h)))
          uneven Greater h = refl

      pub together_next : Nexts y → v ≡ w → {m' : ℕ} → m' ≡ next_of y m → Together y other whole left m'
      together_next nexts d n = record {
        low = rw n (nexts m (omega arith) t.low);
        ends = λ k. t.ends (k.0 + 1, after_step y k.0 (k.0 + 1) m z refl ∙ ap (link_after y k.0) (sym n) ∙ k.1);
        once = λ o. rw n (once_next y (t.once o) z);
        same = λ o. rw n (sym (opens o ∙ ap (λ (r : Ordering). ordering_then r (slice_cmp nat_cmp left (chain y (next_of y m)))) (number_same d)));
      }
