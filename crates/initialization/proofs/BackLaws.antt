-- A list of the work area gone through from its end, i entries left: the last of them comes next (`back_next`), once it is done i - 1 are left
-- (`back_more`), and with none left all is done (`back_done`).
use mathlib.Core.Path.{◌≡◌, refl, sym, ap, ◌∙◌}
use mathlib.Core.List.{List, [], ◌∷◌}
use Prim.Native.Nat.{ℕ, ◌+◌, ◌-◌, ◌<◌}
use lib.ListN.{get_or, drop}
use lib.Seq.{get_or-drop}
use Rattle.theory.specs.Drive.{Follows, Drives}
use Rattle.theory.specs.Prefix.{upto}
use Rattle.theory.proofs.PrefixLaws.{upto_turn}
use Rattle.theory.proofs.DriveLaws.{turn_next, turn_more}
use Rattle.initialization.specs.Start.{Stays}

module _ {Ctx : Type 0} (P : Ctx → List ℕ → ℕ → List ℕ → Type 0) (base count i : ℕ) {n : ℕ} {w₀ w : List ℕ} {t₀ t : ℕ}
    (d : Drives P n w₀ t₀ (upto count (drop base w₀)) w t (upto i (drop base w₀))) where
  module _ (stays : Stays P base) (f : Follows P w₀ t₀ (upto count (drop base w₀))) (some : 0 < i) {x : ℕ} (is : x ≡ get_or w (base + (i - 1)) 0) where
    turn : upto i (drop base w₀) ≡ x ∷ upto (i - 1) (drop base w₀)
    turn =
        let same : drop base w ≡ drop base w₀ = stays f.ctx _ _ _ _ _ _ f.held (d.keeps f.ctx f.more f.held) in
        rw (is ∙ sym (get_or-drop base w (i - 1) 0) ∙ ap (λ l. get_or l (i - 1) 0) same) (upto_turn i (drop base w₀) some)

    pub back_next : Follows P w t (x ∷ [])
    back_next = turn_next P (λ l. l) (λ y. y ∷ []) (λ y ys. refl) d turn f

    pub back_more : {w' : List ℕ} {t' : ℕ} → Drives P n w t (x ∷ []) w' t' [] → Drives P n w₀ t₀ (upto count (drop base w₀)) w' t' (upto (i - 1) (drop base w₀))
    back_more s = turn_more P (λ l. l) (λ y. y ∷ []) (λ y ys. refl) d turn s

  pub back_done : i ≡ 0 → Drives P n w₀ t₀ (upto count (drop base w₀)) w t []
  unfolding upto
  back_done z = rw z at d
