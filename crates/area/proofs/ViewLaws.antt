-- A store in the counts, and one at the end of the queue: what changes, and what stays.
use mathlib.Core.Path.{◌≡◌, ap}
use mathlib.Core.Logic.{◌≢◌}
use mathlib.Core.List.{List, ◌∷◌}
use Prim.Native.Nat.{ℕ, ◌+◌, ◌≤◌, ◌<◌}
use native.Mathlib.Omega.{arith}
use native.Mathlib.Numerals.{add-one}
use lib.ListN.{length, set, drop, length-drop}
use lib.Seq.{get_or-set_same, get_or-set_other, drop-set-lt, drop-set-add}
use Rattle.theory.specs.Prefix.{upto}
use Rattle.theory.proofs.PrefixLaws.{upto_push}
use Rattle.area.specs.declared.Bases.{Bases}
use Rattle.area.specs.Layout.{Laid}
use Rattle.area.specs.Views.{count_at, queued}

module _ {b : Bases} (laid : Laid b) (w : List ℕ) (long : b.end ≤ length w) where
  module _ (v x : ℕ) (l : v < b.atoms + b.nodes) where
    pub count_same : count_at b (set w (b.dependencies + v) x) v ≡ x
    count_same = get_or-set_same w (b.dependencies + v) x 0 (omega arith)

    pub count_other : (u : ℕ) → u ≢ v → count_at b (set w (b.dependencies + v) x) u ≡ count_at b w u
    count_other u n = get_or-set_other w (b.dependencies + v) (b.dependencies + u) x 0 (λ e. n (omega arith))

    pub count_queue : (t : ℕ) → queued b (set w (b.dependencies + v) x) t ≡ queued b w t
    count_queue t = ap (upto t) (drop-set-lt b.queue w (b.dependencies + v) x (omega arith))

  module _ (t x : ℕ) (l : t < b.atoms + b.nodes) where
    pub push_count : (u : ℕ) → u < b.atoms + b.nodes → count_at b (set w (b.queue + t) x) u ≡ count_at b w u
    push_count u k = get_or-set_other w (b.queue + t) (b.dependencies + u) x 0 (λ e. omega arith)

    pub push_queue : queued b (set w (b.queue + t) x) (t + 1) ≡ x ∷ queued b w t
    push_queue = let e = length-drop b.queue w in rw (add-one t, drop-set-add b.queue w t x) (upto_push t x (drop b.queue w) (omega arith))
