-- The counts before the facts and the nodes are looked at, one after the other, by the flags.
use mathlib.Core.Path.{◌≡◌, refl, sym, ◌∙◌}
use mathlib.Core.Bool.{Bool, true, false, not, ◌&&◌, cond}
use mathlib.Core.List.{List}
use Prim.Native.Nat.{ℕ, ◌+◌, ◌≤◌, ◌<◌}
use native.Mathlib.Omega.{arith}
use native.Mathlib.Decide.{ℕ_discrete}
use mir.Val.{bool_byte}
use lib.ListN.{length, set}
use Rattle.theory.specs.Sets.{Set}
use Rattle.theory.specs.Starting.{first_count}
use Rattle.theory.proofs.SetLaws.{is_false}
use Rattle.theory.proofs.PassStartLaws.{first_none}
use Rattle.area.specs.declared.Bases.{Bases}
use Rattle.area.specs.Layout.{Laid}
use Rattle.area.specs.Views.{count_at}
use Rattle.initialization.specs.Regions.{Flagged}
use Rattle.initialization.specs.Start.{Filled}
use Rattle.area.proofs.ViewLaws.{count_same, count_other}
use Rattle.area.proofs.PartLaws.{behind_more, outside_then, outside_set}
use Rattle.initialization.proofs.RegionLaws.{flagged_kept}

-- ---- a count by its flag

pub first_past : {b : Bases} {w : List ℕ} {s : Set} → Flagged b w s → (cut : Set) {v : ℕ} → b.atoms ≤ v → 0 ≡ first_count s cut v
first_past {s = s} f cut {v} h = sym (first_none s cut v (is_false (s v) (λ p. let k = f.low v p in omega arith)))

pub flag_few : (x : Bool) → bool_byte x ≤ 1
flag_few true = omega arith
flag_few false = omega arith

pub first_told : (s cut : Set) (v : ℕ) {x : Bool} → x ≡ (s v && not (cut v)) → bool_byte x ≡ first_count s cut v
unfolding first_count
first_told s cut v e = rw e (go (s v && not (cut v)))
  where
    go : (x : Bool) → bool_byte x ≡ cond x 1 0
    go true = refl
    go false = refl

-- ---- a turn

pub filled_more : {b : Bases} {cut : Set} {w₀ w : List ℕ} {v : ℕ} → Laid b → b.end ≤ length w → v < b.atoms + b.nodes → Filled b cut w₀ w v → {k : ℕ}
    → ((s : Set) → Flagged b w s → k ≡ first_count s cut v) → Filled b cut w₀ (set w (b.dependencies + v) k) (v + 1)
filled_more {b} {cut} {w₀} {w} {v} laid long l f {k} is = record {
  outside = outside_then f.outside (outside_set b.dependencies b.queue w (b.dependencies + v) k (omega arith) (omega arith));
  counts = λ s g u h. go s g u (ℕ_discrete u v) h;
}
  where
    go : (s : Set) → Flagged b w₀ s → (u : ℕ) → Dec (u ≡ v) → u < v + 1 → count_at b (set w (b.dependencies + v) k) u ≡ first_count s cut u
    go s g u (yes e) h = rw e (count_same laid w long v k l ∙ is s (flagged_kept laid w₀ w (behind_more b.queue w₀ w f.outside.after b.body_nodes (omega arith)) g))
    go s g u (no n) h = count_other laid w long v k l u n ∙ f.counts s g u (omega arith)
