-- What leads to vertices met before, or nowhere, is passed over with the cursor held aside (`passed_none`, `passed_met`, `passed_same`): the walk stands as if the cursor were
-- stored. What is found then is what a look from there finds (`found`, `found_end`), and a step from there is a step (`done_step`, `vertex_step`).
use mathlib.Core.Path.{◌≡◌, refl, sym, ap, ◌∙◌, subst}
use mathlib.Core.Logic.{◌≢◌}
use mathlib.Core.List.{List}
use Rattle.std.specs.Prelude.{Option, Some, None}
use Prim.Native.Nat.{ℕ, ◌+◌, ◌-◌, ◌<◌}
use native.Mathlib.Omega.{arith}
use lib.ListN.{length, get_or, set}
use lib.Seq.{get_or-set_same, get_or-set_other, set-get_or, set-set}
use Rattle.theory.specs.Words.{theory_of}
use Rattle.theory.specs.Edges.{vertices}
use Rattle.theory.specs.Accepted.{Edition, Accepted}
use Rattle.area.specs.declared.Bases.{Bases}
use Rattle.area.specs.Views.{mark_of, mark_in}
use Rattle.finishing.specs.Cursors.{left_of, Linked}
use Rattle.finishing.specs.Finished.{Ready}
use Rattle.finishing.specs.Walking.{Walking, OnTop, Looking, Looked, discovered, Meeting, Onward, Passed, Found, Stepped}
use Rattle.finishing.proofs.PlaceLaws.{vertices_few, cursor_place, order_place, vertex_low}
use Rattle.finishing.proofs.ViewLaws.{look_marks, found_top}
use Rattle.finishing.proofs.StepLaws as step
use Rattle.finishing.proofs.StepLaws.{top_low, top_looking, looked_ready, entry_low, entry_meeting, step_same, step_known, step_new, step_done}
use Rattle.finishing.proofs.DescentLaws.{onward_none, onward_on, onward_step, stepped_onward}

pub as_top : {ws : List ℕ} {b : Bases} {w : List ℕ} {v top done : ℕ} → Walking ws b w top done → 0 < top → v ≡ get_or w (b.queue + (top - 1)) 0 → OnTop ws b w v top done
as_top h s e = record { walking = h; some = s; top_is = e }

module _ {ws : List ℕ} {b : Bases} {w : List ℕ} {v top done : ℕ} (o : OnTop ws b w v top done) where
  pub top_under : v < vertices (theory_of ws)
  top_under = top_low o.walking o.some o.top_is

  pub cursor_under : b.dependencies + v < b.end
  cursor_under = let l = o.walking.ready.based.laid in let u = vertex_low o.walking.ready.based v top_under in omega arith

  pub here : b.dependencies + v < length w
  here = cursor_place o.walking.ready.based v top_under

  pub looking : Looking ws b w v
  looking = top_looking o.walking o.some o.top_is

  -- the mark of any vertex is in the area
  pub mark_here : {x : ℕ} → x < b.atoms + b.nodes → mark_of b x < length w
  mark_here l = let a = o.walking.ready.based.laid in let z = o.walking.ready.based.ends in omega arith

module _ {ws : List ℕ} {b : Bases} {w : List ℕ} {v : ℕ} where
  pub passed_none : {c : ℕ} → c ≡ get_or w (b.dependencies + v) 0 → Passed ws b w v c
  passed_none {c} e = record { onward = λ top done o. rw same (onward_none o.walking) }
    where
      same : set w (b.dependencies + v) c ≡ w
      same = ap (set w (b.dependencies + v)) e ∙ set-get_or w (b.dependencies + v) 0

  module _ {c : ℕ} (p : Passed ws b w v c) where
    -- the words with the cursor stored
    abbrev pub kept : List ℕ
    kept = set w (b.dependencies + v) c

    pub found_end : Looked ws b kept kept v None → Found ws b w kept v None
    found_end k = record { cursor = c; passed = p; looked = k; fresh = tt }

    module _ {top done : ℕ} (o : OnTop ws b w v top done) where
      pub on_top : OnTop ws b kept v top done
      on_top = record {
        walking = (p.onward top done o).walked.walking;
        some = o.some;
        top_is = o.top_is
            ∙ sym (get_or-set_other w (b.dependencies + v) (b.queue + (top - 1)) c 0
            (λ q. let l = o.walking.ready.based.laid in let u = vertex_low o.walking.ready.based v (top_under o) in omega arith));
      }

      pub cursor_is : c ≡ get_or kept (b.dependencies + v) 0
      cursor_is = sym (get_or-set_same w (b.dependencies + v) c 0 (here o))

      pub next_looking : Looking ws b kept v
      next_looking = looking on_top

      -- a word of the tables
      pub word_is : (i : ℕ) → i < b.states → get_or kept i 0 ≡ get_or w i 0
      word_is i l = get_or-set_other w (b.dependencies + v) i c 0 (λ q. let a = o.walking.ready.based.laid in omega arith)

    passed_on : (c' : ℕ) → ((top done : ℕ) → OnTop ws b w v top done → Onward ws b kept (set kept (b.dependencies + v) c') top done done) → Passed ws b w v c'
    passed_on c' s = record {
      onward = λ top done o. onward_on (p.onward top done o) (subst (λ (l : List ℕ). Onward ws b kept l top done done) (set-set w (b.dependencies + v) c c') (s top done o));
    }

    pub passed_same : (c' : ℕ) → Linked ws v c' → left_of ws v (get_or kept (b.dependencies + v) 0) ≡ left_of ws v c' → Passed ws b w v c'
    passed_same c' l e = passed_on c' (λ top done o. step_same (on_top o).walking o.some (on_top o).top_is record { cursor = c'; stored = refl; linked = l } e)

    module _ {ed : Edition} (acc : Accepted ed ws) (c' : ℕ) {x : ℕ} (k : Looked ws b kept (set kept (b.dependencies + v) c') v (Some x)) where
      pub entry_under : {top done : ℕ} → OnTop ws b w v top done → x < vertices (theory_of ws)
      entry_under o = entry_low (on_top o).walking o.some (on_top o).top_is acc k

      pub passed_met : mark_in b w x ≢ 1 → Passed ws b w v c'
      passed_met n =
          passed_on c' (λ top done o.
          stepped_onward (step_known (on_top o).walking o.some (on_top o).top_is acc k (λ q. n (sym (look_marks o.walking.ready v (top_under o) c x (entry_under o)) ∙ q))))

      pub found : {top done : ℕ} → OnTop ws b w v top done → mark_in b w x ≡ 1 → Found ws b w (set w (b.dependencies + v) c') v (Some x)
      found o m = record {
        cursor = c;
        passed = p;
        looked = rw (set-set w (b.dependencies + v) c c') at k;
        fresh = look_marks o.walking.ready v (top_under o) c' x (entry_under o) ∙ m;
      }

-- a look that finds nothing, without passing over anything
pub found_none : {ws : List ℕ} {b : Bases} {w w' : List ℕ} {v : ℕ} → Looked ws b w w' v None → Found ws b w w' v None
found_none {ws} {b} {w} {w'} {v} k = record {
  cursor = get_or w (b.dependencies + v) 0;
  passed = passed_none refl;
  looked = rw (set-get_or w (b.dependencies + v) 0) k;
  fresh = tt;
}

-- a step, from where the look found its entry
module _ {ws : List ℕ} {b : Bases} {w w₁ : List ℕ} {v top done : ℕ} (o : OnTop ws b w v top done) where
  module _ {r : Option ℕ} (f : Found ws b w w₁ v r) where
    there : OnTop ws b (set w (b.dependencies + v) f.cursor) v top done
    there = on_top f.passed o

    from_there : {w₂ : List ℕ} {top' done' : ℕ} → Stepped ws b (set w (b.dependencies + v) f.cursor) w₂ top' done' done → Stepped ws b w w₂ top' done' done
    from_there s = onward_step (f.passed.onward top done o) s

    found_ready : Ready ws b w₁
    found_ready = looked_ready there.walking there.some there.top_is f.looked.moved

  module _ (f : Found ws b w w₁ v None) where
    done_room : done < vertices (theory_of ws)
    done_room = step.done_room (there f).walking o.some (there f).top_is f.looked

    -- what `finish` asks
    pub done_finishing : {lim : ℕ} {ed : Edition} → Accepted ed ws → ed.counts + ed.counts < lim → (b.body_nodes + done < length w₁) × (v < lim) × (0 < top)
    done_finishing acc fits =
        (order_place (found_ready f).based done done_room, (let l = top_under o in let n = vertices_few o.walking.ready.based acc in omega arith), o.some)

    pub done_step : Stepped ws b w (set w₁ (b.body_nodes + done) v) (top - 1) (done + 1) done
    done_step = from_there f (step_done (there f).walking o.some (there f).top_is f.looked)

  module _ {ed : Edition} (acc : Accepted ed ws) {x : ℕ} (f : Found ws b w w₁ v (Some x)) where
    pub vertex_meeting : Meeting ws b w₁ x top
    vertex_meeting = entry_meeting (there f).walking o.some (there f).top_is acc f.looked f.fresh

    pub vertex_step : Stepped ws b w (discovered ws b w₁ x top) (top + 1) done done
    vertex_step = from_there f (step_new (there f).walking o.some (there f).top_is acc f.looked f.fresh)

    pub vertex_top : OnTop ws b (discovered ws b w₁ x top) x (top + 1) done
    vertex_top =
        let m = vertex_meeting in
        let e : top ≡ top + 1 - 1 = omega arith in
        as_top vertex_step.walked.walking (omega arith)
        (sym (found_top m.ready x m.low top m.room) ∙ ap (λ (i : ℕ). get_or (discovered ws b w₁ x top) (b.queue + i) 0) e)
