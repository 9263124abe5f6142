-- A vertex is met and put on the queue, two stores: what they change, and what stays.
use mathlib.Core.Path.{◌≡◌, ◌∙◌}
use mathlib.Core.Logic.{◌≢◌}
use mathlib.Core.List.{List}
use Prim.Native.Nat.{ℕ, ◌+◌, ◌≤◌, ◌<◌}
use native.Mathlib.Omega.{arith}
use lib.ListN.{length, get_or, set, take, length-set}
use lib.Seq.{get_or-set_same, get_or-set_other, take-set-le}
use Rattle.area.specs.declared.Bases.{Bases}
use Rattle.area.specs.Layout.{Laid}
use Rattle.area.specs.Views.{mark_of}

-- the words once v is met, the queue being t long
abbrev pub met : Bases → List ℕ → (t v : ℕ) → List ℕ
met b w t v = set (set w (mark_of b v) 3) (b.queue + t) v

module _ {b : Bases} (laid : Laid b) (w : List ℕ) (t v : ℕ) (room : t < b.atoms + b.nodes) (low : v < b.atoms + b.nodes) where
  pub met_size : length (met b w t v) ≡ length w
  met_size = length-set (set w (mark_of b v) 3) (b.queue + t) v ∙ length-set w (mark_of b v) 3

  pub met_frame : take b.states (met b w t v) ≡ take b.states w
  met_frame = take-set-le b.states (set w (mark_of b v) 3) (b.queue + t) v (omega arith) ∙ take-set-le b.states w (mark_of b v) 3 (omega arith)

  other : (i : ℕ) → i ≢ mark_of b v → i ≢ b.queue + t → get_or (met b w t v) i 0 ≡ get_or w i 0
  other i p q = get_or-set_other (set w (mark_of b v) 3) (b.queue + t) i v 0 q ∙ get_or-set_other w (mark_of b v) i 3 0 p

  pub met_past : (i : ℕ) → b.body_nodes ≤ i → get_or (met b w t v) i 0 ≡ get_or w i 0
  met_past i l = other i (λ e. omega arith) (λ e. omega arith)

  pub met_before : (i : ℕ) → i < t → get_or (met b w t v) (b.queue + i) 0 ≡ get_or w (b.queue + i) 0
  met_before i l = other (b.queue + i) (λ e. omega arith) (λ e. omega arith)

  module _ (long : b.end ≤ length w) where
    pub met_last : get_or (met b w t v) (b.queue + t) 0 ≡ v
    met_last = get_or-set_same (set w (mark_of b v) 3) (b.queue + t) v 0 (rw length-set (omega arith))

    -- the marks: 3 for v, and as they were for the others
    pub met_mark : get_or (met b w t v) (mark_of b v) 0 ≡ 3
    met_mark = get_or-set_other (set w (mark_of b v) 3) (b.queue + t) (mark_of b v) v 0 (λ e. omega arith) ∙ get_or-set_same w (mark_of b v) 3 0 (omega arith)

    pub met_others : (u : ℕ) → u < b.atoms + b.nodes → u ≢ v → get_or (met b w t v) (mark_of b u) 0 ≡ get_or w (mark_of b u) 0
    met_others u l k = other (mark_of b u) (λ e. k (omega arith)) (λ e. omega arith)
