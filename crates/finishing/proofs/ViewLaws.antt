-- What a store leaves of the marks, the cursors, the stack and the finished vertices: a cursor moved (`look-..`), a vertex met (`found-..`), a vertex
-- finished (`end-..`).
use mathlib.Core.Path.{◌≡◌, sym, ap, ap₂, ◌∙◌}
use mathlib.Core.Logic.{◌≢◌}
use mathlib.Core.Bool.{Bool, cond}
use mathlib.Core.List.{List, ◌∷◌}
use Prim.Native.Nat.{ℕ, ◌+◌, ◌≤◌, ◌<◌}
use native.Mathlib.Omega.{arith}
use native.Mathlib.Decide.{ℕ_discrete}
use borrow.Author.Tests.{eq-eqb, ne_eqb}
use lib.Dec.{eqb}
use lib.ListN.{get_or, set}
use lib.Seq.{get_or-set_same, get_or-set_other}
use Rattle.theory.specs.Words.{theory_of}
use Rattle.theory.specs.Edges.{vertices}
use Rattle.area.specs.declared.Bases.{Bases}
use Rattle.area.specs.Views.{mark_of, mark_in}
use Rattle.finishing.specs.Latest.{latest}
use Rattle.finishing.specs.Cursors.{first_of}
use Rattle.finishing.specs.Finished.{Kept, Ready}
use Rattle.finishing.specs.Walking.{cursor_in, discovered}
use Rattle.finishing.proofs.LatestLaws.{latest_same, latest_aside, latest_push}
use Rattle.finishing.proofs.PlaceLaws.{vertices_are, vertex_low, cursor_place, stack_place, order_place, mark_place, kept_on, kept_set, ready_kept}

module _ (ws : List ℕ) (b : Bases) where
  pub cursor_met : (w : List ℕ) (v : ℕ) → mark_in b w v ≡ 2 → cursor_in ws b w v ≡ get_or w (b.dependencies + v) 0
  unfolding cursor_in
  cursor_met w v e = ap (λ (t : Bool). cond t (get_or w (b.dependencies + v) 0) (first_of ws v)) (eq-eqb (mark_in b w v) 2 e)

  pub cursor_unmet : (w : List ℕ) (v : ℕ) → mark_in b w v ≢ 2 → cursor_in ws b w v ≡ first_of ws v
  unfolding cursor_in
  cursor_unmet w v n = ap (λ (t : Bool). cond t (get_or w (b.dependencies + v) 0) (first_of ws v)) (ne_eqb (mark_in b w v) 2 n)

  cursor_same : (w w' : List ℕ) (v : ℕ) → mark_in b w' v ≡ mark_in b w v → get_or w' (b.dependencies + v) 0 ≡ get_or w (b.dependencies + v) 0 → cursor_in ws b w' v ≡ cursor_in ws b w v
  unfolding cursor_in
  cursor_same w w' v m c = ap₂ (λ (x y : ℕ). cond (eqb x 2) y (first_of ws v)) m c

module _ {ws : List ℕ} {b : Bases} {w : List ℕ} (ready : Ready ws b w) where
  -- a store past the marks changes none
  marks_aside : (i x : ℕ) → b.dependencies ≤ i → (u : ℕ) → u < vertices (theory_of ws) → mark_in b (set w i x) u ≡ mark_in b w u
  marks_aside i x l u k = get_or-set_other w i (mark_of b u) x 0 (λ q. let a = ready.based.laid in let e = vertex_low ready.based u k in omega arith)

  -- ---- the cursor of v moves to c

  module _ (v : ℕ) (low : v < vertices (theory_of ws)) (c : ℕ) where
    under : b.dependencies + v < b.queue
    under = let a = ready.based.laid in let e = vertices_are ready.based in omega arith

    pub look_marks : (u : ℕ) → u < vertices (theory_of ws) → mark_in b (set w (b.dependencies + v) c) u ≡ mark_in b w u
    look_marks = marks_aside (b.dependencies + v) c (omega arith)

    pub look_here : mark_in b w v ≡ 2 → cursor_in ws b (set w (b.dependencies + v) c) v ≡ c
    look_here m = cursor_met ws b (set w (b.dependencies + v) c) v (look_marks v low ∙ m) ∙ get_or-set_same w (b.dependencies + v) c 0 (cursor_place ready.based v low)

    pub look_others : (u : ℕ) → u < vertices (theory_of ws) → u ≢ v → cursor_in ws b (set w (b.dependencies + v) c) u ≡ cursor_in ws b w u
    look_others u l n =
        cursor_same ws b w (set w (b.dependencies + v) c) u (look_marks u l) (get_or-set_other w (b.dependencies + v) (b.dependencies + u) c 0 (λ q. n (omega arith)))

    pub look_list : (base n : ℕ) → b.queue ≤ base → latest (set w (b.dependencies + v) c) base n ≡ latest w base n
    look_list base n h = latest_aside w base n (b.dependencies + v) c (λ j k q. let e = under in omega arith)

    pub look_kept : Kept b w (set w (b.dependencies + v) c)
    look_kept = kept_set (b.dependencies + v) c (let a = ready.based.laid in omega arith)

  -- ---- a store to the stack or to the finished vertices

  module _ (i x : ℕ) (from : b.queue ≤ i) where
    list_marks : (u : ℕ) → u < vertices (theory_of ws) → mark_in b (set w i x) u ≡ mark_in b w u
    list_marks = marks_aside i x (let a = ready.based.laid in omega arith)

    list_cursors : (u : ℕ) → u < vertices (theory_of ws) → cursor_in ws b (set w i x) u ≡ cursor_in ws b w u
    list_cursors u l =
        cursor_same ws b w (set w i x) u (list_marks u l) (get_or-set_other w i (b.dependencies + u) x 0 (λ q. let a = ready.based.laid in let e = vertices_are ready.based in omega arith))

  -- ---- v is finished, after n others

  module _ (v n : ℕ) (room : n < vertices (theory_of ws)) where
    end_from : b.queue ≤ b.body_nodes + n
    end_from = let a = ready.based.laid in omega arith

    pub end_marks : (u : ℕ) → u < vertices (theory_of ws) → mark_in b (set w (b.body_nodes + n) v) u ≡ mark_in b w u
    end_marks = list_marks (b.body_nodes + n) v end_from

    pub end_cursors : (u : ℕ) → u < vertices (theory_of ws) → cursor_in ws b (set w (b.body_nodes + n) v) u ≡ cursor_in ws b w u
    end_cursors = list_cursors (b.body_nodes + n) v end_from

    pub end_stack : (m : ℕ) → m ≤ vertices (theory_of ws) → latest (set w (b.body_nodes + n) v) b.queue m ≡ latest w b.queue m
    end_stack m h = latest_aside w b.queue m (b.body_nodes + n) v (λ j k q. let a = ready.based.laid in let e = vertices_are ready.based in omega arith)

    pub end_order : latest (set w (b.body_nodes + n) v) b.body_nodes (n + 1) ≡ v ∷ latest w b.body_nodes n
    end_order = latest_push w b.body_nodes n v (order_place ready.based n room)

    pub end_kept : Kept b w (set w (b.body_nodes + n) v)
    end_kept = kept_set (b.body_nodes + n) v (let a = ready.based.laid in omega arith)

  -- ---- v is marked

  module _ (v : ℕ) (low : v < vertices (theory_of ws)) (x : ℕ) where
    mark_here : mark_in b (set w (mark_of b v) x) v ≡ x
    mark_here = get_or-set_same w (mark_of b v) x 0 (mark_place ready.based v low)

    mark_others : (u : ℕ) → u < vertices (theory_of ws) → u ≢ v → mark_in b (set w (mark_of b v) x) u ≡ mark_in b w u
    mark_others u l n = get_or-set_other w (mark_of b v) (mark_of b u) x 0 (λ q. n (omega arith))

    mark_word : (i : ℕ) → b.dependencies ≤ i → get_or (set w (mark_of b v) x) i 0 ≡ get_or w i 0
    mark_word i l = get_or-set_other w (mark_of b v) i x 0 (λ q. let a = ready.based.laid in let e = vertex_low ready.based v low in omega arith)

    mark_cursors : (u : ℕ) → u < vertices (theory_of ws) → u ≢ v → cursor_in ws b (set w (mark_of b v) x) u ≡ cursor_in ws b w u
    mark_cursors u l n =
        cursor_same ws b w (set w (mark_of b v) x) u (mark_others u l n) (mark_word (b.dependencies + u) (omega arith))

    mark_list : (base n : ℕ) → b.dependencies ≤ base → latest (set w (mark_of b v) x) base n ≡ latest w base n
    mark_list base n l = latest_same w (set w (mark_of b v) x) base n (λ j k. mark_word (base + j) (omega arith))

    mark_kept : Kept b w (set w (mark_of b v) x)
    mark_kept = kept_set (mark_of b v) x (omega arith)

-- ---- v is met, with n others on the stack

module _ {ws : List ℕ} {b : Bases} {w : List ℕ} (ready : Ready ws b w) (v : ℕ) (low : v < vertices (theory_of ws)) (n : ℕ) (room : n < vertices (theory_of ws)) where
  abbrev w₁ : List ℕ
  w₁ = set w (mark_of b v) 2

  abbrev w₂ : List ℕ
  w₂ = set (set w (mark_of b v) 2) (b.dependencies + v) (first_of ws v)

  ready₁ : Ready ws b w₁
  ready₁ = ready_kept ready (mark_kept ready v low 2)

  ready₂ : Ready ws b w₂
  ready₂ = ready_kept ready₁ (look_kept ready₁ v low (first_of ws v))

  from : b.queue ≤ b.queue + n
  from = omega arith

  to : b.queue + n < b.body_nodes
  to = let a = ready.based.laid in let e = vertices_are ready.based in omega arith

  pub found_here : mark_in b (discovered ws b w v n) v ≡ 2
  found_here = list_marks ready₂ (b.queue + n) v from v low ∙ look_marks ready₁ v low (first_of ws v) v low ∙ mark_here ready v low 2

  pub found_marks : (u : ℕ) → u < vertices (theory_of ws) → u ≢ v → mark_in b (discovered ws b w v n) u ≡ mark_in b w u
  found_marks u l q = list_marks ready₂ (b.queue + n) v from u l ∙ look_marks ready₁ v low (first_of ws v) u l ∙ mark_others ready v low 2 u l q

  pub found_cursors : mark_in b w v ≢ 2 → (u : ℕ) → u < vertices (theory_of ws) → cursor_in ws b (discovered ws b w v n) u ≡ cursor_in ws b w u
  found_cursors m u l = list_cursors ready₂ (b.queue + n) v from u l ∙ go (ℕ_discrete u v)
    where
      go : Dec (u ≡ v) → cursor_in ws b (set (set w (mark_of b v) 2) (b.dependencies + v) (first_of ws v)) u ≡ cursor_in ws b w u
      go (yes e) =
          ap (cursor_in ws b (set (set w (mark_of b v) 2) (b.dependencies + v) (first_of ws v))) e
          ∙ look_here ready₁ v low (first_of ws v) (mark_here ready v low 2) ∙ sym (ap (cursor_in ws b w) e ∙ cursor_unmet ws b w v m)
      go (no q) = look_others ready₁ v low (first_of ws v) u l q ∙ mark_cursors ready v low 2 u l q

  pub found_top : get_or (discovered ws b w v n) (b.queue + n) 0 ≡ v
  found_top = get_or-set_same w₂ (b.queue + n) v 0 (stack_place ready₂.based n room)

  -- at the first of its entries
  pub found_first : get_or (discovered ws b w v n) (b.dependencies + v) 0 ≡ first_of ws v
  found_first =
      get_or-set_other w₂ (b.queue + n) (b.dependencies + v) v 0 (λ e. let a = ready.based.laid in let k = vertex_low ready.based v low in omega arith)
      ∙ get_or-set_same w₁ (b.dependencies + v) (first_of ws v) 0 (cursor_place ready₁.based v low)

  pub found_stack : latest (discovered ws b w v n) b.queue (n + 1) ≡ v ∷ latest w b.queue n
  found_stack =
      latest_push w₂ b.queue n v (stack_place ready₂.based n room)
      ∙ ap (λ (l : List ℕ). v ∷ l) (look_list ready₁ v low (first_of ws v) b.queue n (omega arith) ∙ mark_list ready v low 2 b.queue n (let a = ready.based.laid in omega arith))

  pub found_order : (m : ℕ) → m ≤ vertices (theory_of ws) → latest (discovered ws b w v n) b.body_nodes m ≡ latest w b.body_nodes m
  found_order m h =
      latest_aside w₂ b.body_nodes m (b.queue + n) v (λ j k q. let t = to in omega arith)
      ∙ look_list ready₁ v low (first_of ws v) b.body_nodes m (let a = ready.based.laid in omega arith)
      ∙ mark_list ready v low 2 b.body_nodes m (let a = ready.based.laid in omega arith)

  pub found_kept : Kept b w (discovered ws b w v n)
  found_kept = kept_on (mark_kept ready v low 2) (kept_on (look_kept ready₁ v low (first_of ws v)) (kept_set (b.queue + n) v (let a = ready.based.laid in omega arith)))
