-- One step of the walk from a look: a top with nothing left is finished (`step_done`), a vertex is passed over (`step_known`) or met (`step_new`).
-- A cursor that leaves what the one before it left changes nothing (`step_same`). And what the reads and stores of a step ask.
use mathlib.Core.Path.{◌≡◌, refl, sym, ap, ◌∙◌, subst}
use mathlib.Core.Logic.{◌⊎◌, inl, inr, ◌≢◌}
use mathlib.Core.List.Memᴰ
use mathlib.Core.List.{List, ◌∷◌}
use Rattle.std.specs.Prelude.{Some, None}
use Prim.Native.Nat.{ℕ, ◌+◌, ◌-◌, ◌≤◌, ◌<◌}
use native.Mathlib.Omega.{arith}
use native.Mathlib.Decide.{ℕ_discrete}
use lib.ListN.{length, get_or, set}
use Rattle.theory.specs.Sets.{Is, Set}
use Rattle.theory.specs.Words.{theory_of}
use Rattle.theory.specs.Edges.{vertices, in_graph, cone_preds}
use Rattle.theory.specs.Search.{Searching}
use Rattle.theory.specs.Accepted.{Edition, Accepted}
use Rattle.theory.proofs.CountLaws.{pigeonhole, sum_le, sum_less}
use Rattle.theory.proofs.ConeLaws.{cone_within}
use Rattle.theory.proofs.SearchLaws.{fin_fits, stack_fits, search_same, entry_edge, search_known, search_new, search_finish}
use Rattle.area.specs.declared.Bases.{Bases}
use Rattle.area.specs.Views.{mark_in}
use Rattle.finishing.specs.Latest.{latest}
use Rattle.finishing.specs.Cursors.{left_of, Linked}
use Rattle.finishing.specs.Finished.{Kept, Ready}
use Rattle.finishing.specs.Walking.{cursor_in, entries_in, Walking, ahead, Looking, Moved, Looked, discovered, Meeting, Walked, Onward, Stepped}
use Rattle.finishing.proofs.LatestLaws.{latest_length, latest_top}
use Rattle.finishing.proofs.CursorLaws.{first_all}
use Rattle.finishing.proofs.PlaceLaws.{stack_place, kept_on, ready_kept}
use Rattle.finishing.proofs.ViewLaws.{cursor_met, cursor_unmet, look_marks, look_here, look_others, look_list, look_kept, end_marks, end_cursors, end_stack, end_order, end_kept, found_here, found_marks, found_cursors, found_stack, found_order, found_kept}

-- the search over the graph of preparation
abbrev Over : List ℕ → (stack fin : List ℕ) → (ℕ → ℕ) → (ℕ → List ℕ) → Type 0
Over ws = Searching (vertices (theory_of ws)) (cone_preds (theory_of ws)) (in_graph (theory_of ws))

pub relist : {n : ℕ} {pred : ℕ → List ℕ} {graph : Set} {stack stack' fin fin' : List ℕ} {mark : ℕ → ℕ} {rest : ℕ → List ℕ} → stack' ≡ stack → fin' ≡ fin
    → Searching n pred graph stack fin mark rest → Searching n pred graph stack' fin' mark rest
relist {n} {pred} {graph} {stack} {stack'} {fin} {fin'} {mark} {rest} p q s =
    subst (λ (l : List ℕ). Searching n pred graph l fin' mark rest) (sym p) (subst (λ (l : List ℕ). Searching n pred graph stack l mark rest) (sym q) s)

module _ {ws : List ℕ} {b : Bases} {w : List ℕ} {top done : ℕ} (h : Walking ws b w top done) where
  pub top_fits : top ≤ vertices (theory_of ws)
  top_fits =
      let p = pigeonhole (vertices (theory_of ws)) (latest w b.queue top) h.search.stack_once (λ v m. h.search.low v (inl m)) in
      let l = latest_length w b.queue top in
      omega arith

  pub done_fits : done ≤ vertices (theory_of ws)
  done_fits = let p = fin_fits h.search in let l = latest_length w b.body_nodes done in omega arith

  -- there is room on the stack for a vertex that is not met
  pub push_fits : (x : ℕ) → x < vertices (theory_of ws) → mark_in b w x ≡ 1 → top < vertices (theory_of ws)
  push_fits x l e =
      let p = stack_fits h.search x l e in
      let l = latest_length w b.queue top in
      omega arith

  module _ (some : 0 < top) where
    pub top_place : b.queue + (top - 1) < length w
    top_place = stack_place h.ready.based (top - 1) (let t = top_fits in omega arith)

    module _ {v : ℕ} (ev : v ≡ get_or w (b.queue + (top - 1)) 0) where
      top_is : latest w b.queue top ≡ v ∷ latest w b.queue (top - 1)
      top_is = latest_top w b.queue top some ∙ ap (λ (x : ℕ). x ∷ latest w b.queue (top - 1)) (sym ev)

      on_top : Over ws (v ∷ latest w b.queue (top - 1)) (latest w b.body_nodes done) (mark_in b w) (λ u. entries_in ws b w u)
      on_top = relist (sym top_is) refl h.search

      pub top_low : v < vertices (theory_of ws)
      top_low = on_top.low v (inl (Memᴰ.head refl))

      top_met : mark_in b w v ≡ 2
      top_met = on_top.marked v (inl (Memᴰ.head refl))

      pub top_looking : Looking ws b w v
      top_looking = record { ready = h.ready; low = top_low; linked = subst (Linked ws v) (cursor_met ws b w v top_met) (h.linked v top_low) }

      before : {l : List ℕ} → left_of ws v (get_or w (b.dependencies + v) 0) ≡ l → entries_in ws b w v ≡ l
      before e = ap (left_of ws v) (cursor_met ws b w v top_met) ∙ e

      -- ---- after its cursor has moved

      module _ {w₁ : List ℕ} (k : Moved ws b w w₁ v) where
        looked_marks : (u : ℕ) → u < vertices (theory_of ws) → mark_in b w₁ u ≡ mark_in b w u
        looked_marks u l = ap (λ (z : List ℕ). mark_in b z u) k.stored ∙ look_marks h.ready v top_low k.cursor u l

        looked_here : cursor_in ws b w₁ v ≡ k.cursor
        looked_here = ap (λ (z : List ℕ). cursor_in ws b z v) k.stored ∙ look_here h.ready v top_low k.cursor top_met

        looked_others : (u : ℕ) → u < vertices (theory_of ws) → u ≢ v → cursor_in ws b w₁ u ≡ cursor_in ws b w u
        looked_others u l n = ap (λ (z : List ℕ). cursor_in ws b z u) k.stored ∙ look_others h.ready v top_low k.cursor u l n

        looked_list : (base n : ℕ) → b.queue ≤ base → latest w₁ base n ≡ latest w base n
        looked_list base n l = ap (λ (z : List ℕ). latest z base n) k.stored ∙ look_list h.ready v top_low k.cursor base n l

        looked_kept : Kept b w w₁
        looked_kept = subst (Kept b w) (sym k.stored) (look_kept h.ready v top_low k.cursor)

        pub looked_ready : Ready ws b w₁
        looked_ready = ready_kept h.ready looked_kept

        -- what every step gives, from where its stores leave the cursors
        module _ {w' : List ℕ} (kept : Kept b w w') (same : (u : ℕ) → u < vertices (theory_of ws) → cursor_in ws b w' u ≡ cursor_in ws b w₁ u) where
          here : entries_in ws b w' v ≡ left_of ws v k.cursor
          here = ap (left_of ws v) (same v top_low ∙ looked_here)

          others : (u : ℕ) → u < vertices (theory_of ws) → u ≢ v → entries_in ws b w' u ≡ entries_in ws b w u
          others u l n = ap (left_of ws u) (same u l ∙ looked_others u l n)

          linked : (u : ℕ) → u < vertices (theory_of ws) → Linked ws u (cursor_in ws b w' u)
          linked u l = go (ℕ_discrete u v)
            where
              go : Dec (u ≡ v) → Linked ws u (cursor_in ws b w' u)
              go (yes e) = subst (λ (z : ℕ). Linked ws z (cursor_in ws b w' z)) (sym e) (subst (Linked ws v) (sym (same v top_low ∙ looked_here)) k.linked)
              go (no n) = subst (Linked ws u) (sym (same u l ∙ looked_others u l n)) (h.linked u l)

          walking : {top' done' : ℕ} → Over ws (latest w' b.queue top') (latest w' b.body_nodes done') (mark_in b w') (λ u. entries_in ws b w' u) → Walking ws b w' top' done'
          walking s = record { ready = ready_kept h.ready kept; linked = linked; search = s }

          fewer : length (entries_in ws b w' v) < length (entries_in ws b w v) → ahead ws b w' done < ahead ws b w done
          unfolding ahead
          fewer l =
              let p = sum_less (vertices (theory_of ws)) (λ u. length (entries_in ws b w u)) (λ u. length (entries_in ws b w' u)) v top_low l (λ u i n. let e = ap length (others u i n) in omega arith) in
              omega arith

          -- where the cursor leaves what was left before
          module _ (level : left_of ws v k.cursor ≡ entries_in ws b w v) where
            entries : (u : ℕ) → u < vertices (theory_of ws) → entries_in ws b w' u ≡ entries_in ws b w u
            entries u l = go (ℕ_discrete u v)
              where
                go : Dec (u ≡ v) → entries_in ws b w' u ≡ entries_in ws b w u
                go (yes e) = subst (λ (z : ℕ). entries_in ws b w' z ≡ entries_in ws b w z) (sym e) (here ∙ level)
                go (no n) = others u l n

            no_more : (done' : ℕ) → done ≤ done' → done' ≤ vertices (theory_of ws) → ahead ws b w' done' + (done' - done) ≤ ahead ws b w done
            unfolding ahead
            no_more done' l f =
                let p = sum_le (vertices (theory_of ws)) (λ u. length (entries_in ws b w' u)) (λ u. length (entries_in ws b w u)) (λ u l. let e = ap length (entries u l) in omega arith) in
                omega arith

        -- nothing new is met
        passed : Over ws (v ∷ latest w b.queue (top - 1)) (latest w b.body_nodes done) (mark_in b w) (λ u. entries_in ws b w₁ u) → Walked ws b w w₁ top done
        passed s = record {
          walking = walking looked_kept (λ u l. refl)
              (relist (looked_list b.queue top (omega arith) ∙ top_is) (looked_list b.body_nodes done (let a = h.ready.based.laid in omega arith))
              (search_same s looked_marks (λ u l m. refl)));
          kept = looked_kept;
          settled = λ u l n q. n (sym (looked_marks u l) ∙ q);
        }

        pub step_same : left_of ws v (get_or w (b.dependencies + v) 0) ≡ left_of ws v k.cursor → Onward ws b w w₁ top done done
        step_same e =
            let level = sym (before e) in
            record {
              walked = passed (search_same on_top (λ u l. refl) (λ u l m. entries looked_kept (λ u l. refl) level u l));
              least = let n = no_more looked_kept (λ u l. refl) level done (omega arith) done_fits in omega arith;
            }

      module _ {ed : Edition} (acc : Accepted ed ws) {w₁ : List ℕ} {x : ℕ} (k : Looked ws b w w₁ v (Some x)) where
        next : entries_in ws b w v ≡ x ∷ left_of ws v k.moved.cursor
        next = before k.took

        shorter : length (left_of ws v k.moved.cursor) < length (entries_in ws b w v)
        shorter = let e = ap length next in omega arith

        inside : Is (in_graph (theory_of ws) x) × (x < vertices (theory_of ws))
        inside = (cone_within (theory_of ws) acc.well_formed).from x v (entry_edge on_top next)

        pub entry_low : x < vertices (theory_of ws)
        entry_low = inside.1

        pub step_known : mark_in b w x ≢ 1 → Stepped ws b w w₁ top done done
        step_known n = record {
          walked = passed k.moved
              (search_known on_top next (here k.moved (looked_kept k.moved) (λ u l. refl))
              (λ u l q m. others k.moved (looked_kept k.moved) (λ u l. refl) u l q) entry_low (met (on_top.unmet x entry_low inside.0)));
          less = fewer k.moved (looked_kept k.moved) (λ u l. refl) (let e = ap length (here k.moved (looked_kept k.moved) (λ u l. refl)) in let s = shorter in omega arith);
        }
          where
            met : (mark_in b w x ≡ 1) ⊎ (mark_in b w x ≡ 2) → mark_in b w x ≡ 2
            met (inl e) = absurd (n e)
            met (inr e) = e

        module _ (new : mark_in b w₁ x ≡ 1) where
          unmet : mark_in b w x ≡ 1
          unmet = sym (looked_marks k.moved x entry_low) ∙ new

          push_room : top < vertices (theory_of ws)
          push_room = push_fits x entry_low unmet

          pub entry_meeting : Meeting ws b w₁ x top
          entry_meeting = record { ready = looked_ready k.moved; low = entry_low; room = push_room }

          pub step_new : Stepped ws b w (discovered ws b w₁ x top) (top + 1) done done
          step_new = record {
            walked = record {
              walking = walking k.moved kept same
                  (relist (found_stack (looked_ready k.moved) x entry_low top push_room ∙ ap (λ (l : List ℕ). x ∷ l) (looked_list k.moved b.queue top (omega arith) ∙ top_is))
                  (found_order (looked_ready k.moved) x entry_low top push_room done done_fits ∙ looked_list k.moved b.body_nodes done (let a = h.ready.based.laid in omega arith))
                  (search_new on_top next (here k.moved kept same)
                  (λ u l q m. others k.moved kept same u l q) entry_low inside.0 unmet (found_here (looked_ready k.moved) x entry_low top push_room) marks
                  (ap (left_of ws x) (same x entry_low ∙ cursor_unmet ws b w₁ x (λ e. omega arith)) ∙ first_all ws acc x inside.0)));
              kept = kept;
              settled = λ u l n q. met u l n q (ℕ_discrete u x);
            };
            less = fewer k.moved kept same (let e = ap length (here k.moved kept same) in let s = shorter in omega arith);
          }
            where
              kept : Kept b w (discovered ws b w₁ x top)
              kept = kept_on (looked_kept k.moved) (found_kept (looked_ready k.moved) x entry_low top push_room)

              same : (u : ℕ) → u < vertices (theory_of ws) → cursor_in ws b (discovered ws b w₁ x top) u ≡ cursor_in ws b w₁ u
              same = found_cursors (looked_ready k.moved) x entry_low top push_room (λ e. omega arith)

              marks : (u : ℕ) → u < vertices (theory_of ws) → u ≢ x → mark_in b (discovered ws b w₁ x top) u ≡ mark_in b w u
              marks u l n = found_marks (looked_ready k.moved) x entry_low top push_room u l n ∙ looked_marks k.moved u l

              met : (u : ℕ) → u < vertices (theory_of ws) → mark_in b w u ≢ 1 → mark_in b (discovered ws b w₁ x top) u ≡ 1 → Dec (u ≡ x) → ⊥
              met u l n q (yes e) = n (ap (mark_in b w) e ∙ unmet)
              met u l n q (no m) = n (sym (marks u l m) ∙ q)

      module _ {w₁ : List ℕ} (k : Looked ws b w w₁ v None) where
        finished : Over ws (latest w b.queue (top - 1)) (v ∷ latest w b.body_nodes done) (mark_in b w) (λ u. entries_in ws b w u)
        finished = search_finish on_top (before k.took.0)

        pub done_room : done < vertices (theory_of ws)
        done_room =
            let p = fin_fits finished in
            let l = latest_length w b.body_nodes done in
            omega arith

        pub step_done : Stepped ws b w (set w₁ (b.body_nodes + done) v) (top - 1) (done + 1) done
        step_done = record {
          walked = record {
            walking = walking k.moved kept same
                (relist (end_stack (looked_ready k.moved) v done done_room (top - 1) (let t = top_fits in omega arith) ∙ looked_list k.moved b.queue (top - 1) (omega arith))
                (end_order (looked_ready k.moved) v done done_room ∙ ap (λ (l : List ℕ). v ∷ l) (looked_list k.moved b.body_nodes done (let a = h.ready.based.laid in omega arith)))
                (search_same finished marks (λ u l m. entries k.moved kept same level u l)));
            kept = kept;
            settled = λ u l n q. n (sym (marks u l) ∙ q);
          };
          less = let n = no_more k.moved kept same level (done + 1) (omega arith) (let r = done_room in omega arith) in omega arith;
        }
          where
            kept : Kept b w (set w₁ (b.body_nodes + done) v)
            kept = kept_on (looked_kept k.moved) (end_kept (looked_ready k.moved) v done done_room)

            same : (u : ℕ) → u < vertices (theory_of ws) → cursor_in ws b (set w₁ (b.body_nodes + done) v) u ≡ cursor_in ws b w₁ u
            same = end_cursors (looked_ready k.moved) v done done_room

            marks : (u : ℕ) → u < vertices (theory_of ws) → mark_in b (set w₁ (b.body_nodes + done) v) u ≡ mark_in b w u
            marks u l = end_marks (looked_ready k.moved) v done done_room u l ∙ looked_marks k.moved u l

            level : left_of ws v k.moved.cursor ≡ entries_in ws b w v
            level = k.took.1 ∙ sym (before k.took.0)
