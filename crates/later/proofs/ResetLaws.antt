-- Counts set one after the other.
use mathlib.Core.Path.{◌≡◌, refl, sym, ap, ◌∙◌}
use mathlib.Core.Bool.{Bool, true, false, not, cond}
use mathlib.Core.List.{List}
use Prim.Native.Nat.{ℕ, ◌+◌, ◌≤◌, ◌<◌}
use native.Mathlib.Omega.{arith}
use native.Mathlib.Decide.{ℕ_discrete}
use mir.Val.{bool_byte}
use lib.ListN.{length, set}
use Rattle.area.specs.declared.Bases.{Bases}
use Rattle.area.specs.Layout.{Laid}
use Rattle.area.specs.Views.{count_at}
use Rattle.area.proofs.PartLaws.{outside_none, outside_then, outside_set}
use Rattle.area.proofs.ViewLaws.{count_same, count_other}
use Rattle.later.specs.Later.{Reset}

pub flag_not : (x : Bool) → bool_byte (not x) ≡ cond x 0 1
flag_not true = refl
flag_not false = refl

pub reset_start : {b : Bases} {count vertex : ℕ → ℕ} {w : List ℕ} → Reset b count vertex w w 0
reset_start = record { outside = outside_none; those = λ i h. absurd (omega arith); others = λ v l n. refl }

pub reset_next : {b : Bases} {count vertex : ℕ → ℕ} {w₀ w : List ℕ} {k : ℕ} → Laid b → b.end ≤ length w₀ → Reset b count vertex w₀ w k → vertex k < b.atoms + b.nodes → {v x : ℕ} → v ≡ vertex k → x ≡ count (vertex k)
    → Reset b count vertex w₀ (set w (b.dependencies + v) x) (k + 1)
reset_next {b} {count} {vertex} {w₀} {w} {k} laid long r low {v} {x} ev ex = rw ev (record {
  outside = outside_then r.outside (outside_set b.dependencies b.queue w (b.dependencies + vertex k) x (omega arith) (omega arith));
  those = λ i h. those i h (ℕ_discrete (vertex i) (vertex k));
  others = λ u l n. count_other laid w ends (vertex k) x low u (λ e. n k (omega arith) (sym e)) ∙ r.others u l (λ i h. n i (omega arith));
})
  where
    ends : b.end ≤ length w
    ends = let z = r.outside.size in omega arith

    those : (i : ℕ) → i < k + 1 → Dec (vertex i ≡ vertex k) → count_at b (set w (b.dependencies + vertex k) x) (vertex i) ≡ count (vertex i)
    those i h (yes e) = rw e (count_same laid w ends (vertex k) x low ∙ ex)
    those i h (no n) = count_other laid w ends (vertex k) x low (vertex i) n ∙ r.those i (before (ℕ_discrete i k))
      where
        before : Dec (i ≡ k) → i < k
        before (yes e) = absurd (n (ap vertex e))
        before (no q) = omega arith
