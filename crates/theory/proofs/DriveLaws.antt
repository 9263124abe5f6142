-- A walk, part after part: where `whole` is p and then the rest, p comes next (`follows_next`), and once p is done the rest is left
-- (`drives_step`); the whole is `follows_all` and `drives_all`. A loop over a list that gives a part an entry goes by `turn_next`, `turn_more` and `turn_done`; the list is a chain
-- (`chain_turn`) or a slice of the words (`slice_turn`).
use mathlib.Core.Path.{◌≡◌, refl, ap, ◌∙◌}
use mathlib.Core.List.{List, [], ◌∷◌, ◌++◌, append_assoc, append-nil}
use Prim.Native.Nat.{ℕ, ◌+◌, ◌≤◌, ◌<◌}
use native.Mathlib.Numerals.{add-one}
use lib.ListN.{length, get_or}
use lib.Seq.{slice, slice-cons}
use Rattle.theory.specs.Words.{value_of, next_of, chain}
use Rattle.theory.specs.Links.{MeetsOnce}
use Rattle.theory.specs.Drive.{Follows, Drives}
use Rattle.theory.proofs.ChainLaws.{chain_step}

module _ {Ctx E : Type 0} (P : Ctx → List ℕ → ℕ → List E → Type 0) where
  pub drives_none : {n : ℕ} {w : List ℕ} {t : ℕ} {l : List E} → Drives P n w t l w t l
  drives_none = record { frame = refl; size = refl; keeps = λ c more h. h }

  -- all that is to do, in one context
  pub follows_all : {c : Ctx} {w : List ℕ} {t : ℕ} {l : List E} → P c w t l → Follows P w t l
  follows_all {c} h = record { ctx = c; more = []; held = rw append-nil h }

  pub drives_all : {c : Ctx} {n : ℕ} {w w' : List ℕ} {t t' : ℕ} {l : List E} → P c w t l → Drives P n w t l w' t' [] → P c w' t' []
  drives_all {c} h d = d.keeps c [] (rw append-nil h)

  module _ {n : ℕ} {w₀ w₁ : List ℕ} {t₀ t₁ : ℕ} {l₀ whole : List E} (p l : List E) (e : whole ≡ p ++ l) (d : Drives P n w₀ t₀ l₀ w₁ t₁ whole) where
    split : (c : Ctx) (more : List E) → P c w₀ t₀ (l₀ ++ more) → P c w₁ t₁ (p ++ (l ++ more))
    split c more h = rw (append_assoc p l more) at (rw e at (d.keeps c more h))

    pub follows_next : Follows P w₀ t₀ l₀ → Follows P w₁ t₁ p
    follows_next f = record { ctx = f.ctx; more = l ++ f.more; held = split f.ctx f.more f.held }

    pub drives_step : {w₂ : List ℕ} {t₂ : ℕ} → Drives P n w₁ t₁ p w₂ t₂ [] → Drives P n w₀ t₀ l₀ w₂ t₂ l
    drives_step s = record { frame = s.frame ∙ d.frame; size = s.size ∙ d.size; keeps = λ c more h. s.keeps c (l ++ more) (split c more h) }

  -- g: what is to do for a list of entries, and part: for one of them
  module _ (g : List ℕ → List E) (part : ℕ → List E) (cons : (x : ℕ) (xs : List ℕ) → g (x ∷ xs) ≡ part x ++ g xs) {n : ℕ} {w₀ w₁ : List ℕ} {t₀ t₁ : ℕ} {l₀ : List E} {xs : List ℕ}
      (d : Drives P n w₀ t₀ l₀ w₁ t₁ (g xs)) where
    pub turn_done : xs ≡ [] → g [] ≡ [] → Drives P n w₀ t₀ l₀ w₁ t₁ []
    turn_done e none = rw (ap g e ∙ none) at d

    module _ {x : ℕ} {rest : List ℕ} (e : xs ≡ x ∷ rest) where
      pub turn_next : Follows P w₀ t₀ l₀ → Follows P w₁ t₁ (part x)
      turn_next f = follows_next (part x) (g rest) (ap g e ∙ cons x rest) d f

      pub turn_more : {w₂ : List ℕ} {t₂ : ℕ} → Drives P n w₁ t₁ (part x) w₂ t₂ [] → Drives P n w₀ t₀ l₀ w₂ t₂ (g rest)
      turn_more s = drives_step (part x) (g rest) (ap g e ∙ cons x rest) d s

-- a chain, at a link: its value and the next link
pub chain_turn : (ws : List ℕ) {l x y : ℕ} → MeetsOnce ws l → (l ≡ 0 → ⊥) → x ≡ value_of ws l → y ≡ next_of ws l → chain ws l ≡ x ∷ chain ws y
chain_turn ws e z ex ey = rw (ex, ey) (chain_step ws e z)

-- a slice, at its first word
pub slice_turn : (from to : ℕ) (w : List ℕ) {x : ℕ} → from < to → to ≤ length w → x ≡ get_or w from 0 → slice from to w ≡ x ∷ slice (from + 1) to w
slice_turn from to w h k ex = rw (ex, add-one from) (slice-cons from to w 0 h k)
