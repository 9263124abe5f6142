-- A row in the tables, entry by entry: it stays as it was while entries are visited, whatever P is kept meanwhile. An entry is a node (`nodes_next`,
-- `nodes_more`, `nodes_done`) or stands for f of it, as a producer for its heads (`flat_next`, `flat_more`, `flat_done`).
use mathlib.Core.Path.{◌≡◌, refl, ◌∙◌}
use mathlib.Core.List.{List, [], ◌∷◌}
use Prim.Native.Nat.{ℕ, ◌+◌, ◌≤◌, ◌<◌}
use native.Mathlib.Omega.{arith}
use lib.ListN.{length, get_or}
use lib.Seq.{slice, slice_empty}
use Rattle.theory.specs.Rows.{flat_map}
use Rattle.theory.specs.Drive.{Follows, Drives}
use Rattle.theory.proofs.DriveLaws.{turn_next, turn_more, turn_done, slice_turn}
use Rattle.area.specs.declared.Bases.{Bases}
use Rattle.area.specs.Layout.{Laid}
use Rattle.area.proofs.PartLaws.{frame_at}
use Rattle.area.specs.Views.{as_vertices}
use Rattle.rows.proofs.FlatLaws.{flat_cons, flat_none}

-- what an entry's step may rely on
pub record Ready (lim : ℕ) (b : Bases) (w : List ℕ) (v : ℕ) : Type 0 where
  pub laid : Laid b
  pub long : b.end ≤ length w
  pub small : b.atoms + b.nodes < lim
  pub low : v < b.atoms + b.nodes

row_end : (i to : ℕ) (w : List ℕ) → to ≤ i → i ≤ to → slice i to w ≡ []
row_end i to w h k = let q : i ≡ to = omega arith in rw q (slice_empty to w)

module _ {Ctx : Type 0} {P : Ctx → List ℕ → ℕ → List ℕ → Type 0} {n : ℕ} {w₀ w : List ℕ} {tail t : ℕ} {l₀ : List ℕ} where
  pub word_same : {l : List ℕ} → Drives P n w₀ tail l₀ w t l → {i : ℕ} → i < n → {x : ℕ} → x ≡ get_or w i 0 → x ≡ get_or w₀ i 0
  word_same d {i} h ex = ex ∙ frame_at n w₀ w d.frame i h

  row_turn : {l : List ℕ} → Drives P n w₀ tail l₀ w t l → n ≤ length w₀ → {i to x : ℕ} → to ≤ n → i < to → x ≡ get_or w i 0 → slice i to w₀ ≡ x ∷ slice (i + 1) to w₀
  row_turn d long {i} {to} below h ex = slice_turn i to w₀ h (omega arith) (word_same d (omega arith) ex)

  module _ (b : Bases) (i to : ℕ) (d : Drives P n w₀ tail l₀ w t (as_vertices b (slice i to w₀))) where
    pub nodes_done : to ≤ i → i ≤ to → Drives P n w₀ tail l₀ w t []
    nodes_done h k = turn_done P (as_vertices b) (λ x. (b.atoms + x) ∷ []) (λ x l. refl) d (row_end i to w₀ h k) refl

    module _ (long : n ≤ length w₀) (below : to ≤ n) (h : i < to) {x : ℕ} (ex : x ≡ get_or w i 0) where
      pub nodes_next : Follows P w₀ tail l₀ → Follows P w t ((b.atoms + x) ∷ [])
      nodes_next f = turn_next P (as_vertices b) (λ x. (b.atoms + x) ∷ []) (λ x l. refl) d (row_turn d long below h ex) f

      pub nodes_more : {w₁ : List ℕ} {t₁ : ℕ} → Drives P n w t ((b.atoms + x) ∷ []) w₁ t₁ [] → Drives P n w₀ tail l₀ w₁ t₁ (as_vertices b (slice (i + 1) to w₀))
      nodes_more s = turn_more P (as_vertices b) (λ x. (b.atoms + x) ∷ []) (λ x l. refl) d (row_turn d long below h ex) s

  module _ (f : ℕ → List ℕ) (i to : ℕ) (d : Drives P n w₀ tail l₀ w t (flat_map f (slice i to w₀))) where
    pub flat_done : to ≤ i → i ≤ to → Drives P n w₀ tail l₀ w t []
    flat_done h k = turn_done P (flat_map f) f (flat_cons f) d (row_end i to w₀ h k) (flat_none f)

    module _ (long : n ≤ length w₀) (below : to ≤ n) (h : i < to) {x : ℕ} (ex : x ≡ get_or w i 0) where
      pub flat_next : Follows P w₀ tail l₀ → Follows P w t (f x)
      flat_next g = turn_next P (flat_map f) f (flat_cons f) d (row_turn d long below h ex) g

      pub flat_more : {w₁ : List ℕ} {t₁ : ℕ} → Drives P n w t (f x) w₁ t₁ [] → Drives P n w₀ tail l₀ w₁ t₁ (flat_map f (slice (i + 1) to w₀))
      flat_more s = turn_more P (flat_map f) f (flat_cons f) d (row_turn d long below h ex) s
