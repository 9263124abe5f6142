-- One walk after another (`walked_on`, `onward_step`, `step_onward`); the walk from one root (`root_new`, `descended`), and from every root
-- (`walk_start`, `roots_more`, `walk_end`).
use mathlib.Core.Path.{◌≡◌, sym, ap, ◌∙◌, subst}
use mathlib.Core.Logic.{◌⊎◌, inl, inr, ◌≢◌}
use mathlib.Core.Bool.{true, false}
use mathlib.Core.List.{List}
use Prim.Native.Nat.{ℕ, ◌+◌, ◌<◌}
use native.Mathlib.Omega.{arith}
use native.Mathlib.Decide.{ℕ_discrete}
use Rattle.theory.specs.Sets.{Is}
use Rattle.theory.specs.Words.{theory_of}
use Rattle.theory.specs.Edges.{vertices, in_graph}
use Rattle.theory.specs.Prefix.{upto}
use Rattle.theory.specs.Accepted.{Edition, Accepted}
use Rattle.theory.proofs.SetLaws.{bool_cases}
use Rattle.theory.proofs.SearchLaws.{search_start, search_root, search_end}
use Rattle.area.specs.declared.Bases.{Bases}
use Rattle.area.specs.Views.{mark_in}
use Rattle.finishing.specs.Cursors.{left_of, Linked}
use Rattle.finishing.specs.Finished.{Ready, Marked, Finished}
use Rattle.finishing.specs.Walking.{cursor_in, Walking, discovered, Walked, Onward, Stepped, Descended}
use Rattle.finishing.proofs.CursorLaws.{first_all, first_linked}
use Rattle.finishing.proofs.PlaceLaws.{kept_none, kept_on, ready_kept}
use Rattle.finishing.proofs.ViewLaws.{cursor_unmet, found_here, found_marks, found_cursors, found_stack, found_order, found_kept}
use Rattle.finishing.proofs.StepLaws.{relist, done_fits}

module _ {ws : List ℕ} {b : Bases} where
  -- ---- one walk after another

  pub walked_none : {w : List ℕ} {top done : ℕ} → Walking ws b w top done → Walked ws b w w top done
  walked_none h = record { walking = h; kept = kept_none; settled = λ v l n. n }

  pub walked_on : {w₀ w w' : List ℕ} {top done top' done' : ℕ} → Walked ws b w₀ w top done → Walked ws b w w' top' done' → Walked ws b w₀ w' top' done'
  walked_on p q = record { walking = q.walking; kept = kept_on p.kept q.kept; settled = λ v l n. q.settled v l (p.settled v l n) }

  pub onward_none : {w : List ℕ} {top done : ℕ} → Walking ws b w top done → Onward ws b w w top done done
  onward_none h = record { walked = walked_none h; least = omega arith }

  pub stepped_onward : {w w' : List ℕ} {top done done₀ : ℕ} → Stepped ws b w w' top done done₀ → Onward ws b w w' top done done₀
  stepped_onward s = record { walked = s.walked; least = let l = s.less in omega arith }

  module _ {w₀ w w' : List ℕ} {done₀ top done top' done' : ℕ} where
    pub onward_on : Onward ws b w₀ w top done done₀ → Onward ws b w w' top' done' done → Onward ws b w₀ w' top' done' done₀
    onward_on p q = record { walked = walked_on p.walked q.walked; least = let l = p.least in let m = q.least in omega arith }

    pub onward_step : Onward ws b w₀ w top done done₀ → Stepped ws b w w' top' done' done → Stepped ws b w₀ w' top' done' done₀
    onward_step p q = record { walked = walked_on p.walked q.walked; less = let l = p.least in let m = q.less in omega arith }

    pub step_onward : Stepped ws b w₀ w top done done₀ → Onward ws b w w' top' done' done → Stepped ws b w₀ w' top' done' done₀
    step_onward p q = record { walked = walked_on p.walked q.walked; less = let l = p.less in let m = q.least in omega arith }

  -- ---- one root

  module _ {w : List ℕ} {done root : ℕ} (h : Walking ws b w 0 done) (low : root < vertices (theory_of ws)) where
    module _ (unmet : mark_in b w root ≡ 1) where
      room : 0 < vertices (theory_of ws)
      room = omega arith

      inside : Is (in_graph (theory_of ws) root)
      inside = go (bool_cases (in_graph (theory_of ws) root))
        where
          go : (in_graph (theory_of ws) root ≡ true) ⊎ (in_graph (theory_of ws) root ≡ false) → Is (in_graph (theory_of ws) root)
          go (inl e) = e
          go (inr e) = let z = h.search.outside root low e in absurd (omega arith)

      same : (u : ℕ) → u < vertices (theory_of ws) → cursor_in ws b (discovered ws b w root 0) u ≡ cursor_in ws b w u
      same = found_cursors h.ready root low 0 room (λ e. omega arith)

      pub root_new : {ed : Edition} → Accepted ed ws → Walked ws b w (discovered ws b w root 0) 1 done
      unfolding upto
      root_new acc = record {
        walking = record {
          ready = ready_kept h.ready (found_kept h.ready root low 0 room);
          linked = λ u l. subst (Linked ws u) (sym (same u l)) (h.linked u l);
          search =
              relist (found_stack h.ready root low 0 room) (found_order h.ready root low 0 room done (done_fits h))
              (search_root h.search root low inside unmet (found_here h.ready root low 0 room)
              (found_marks h.ready root low 0 room)
              (ap (left_of ws root) (same root low ∙ cursor_unmet ws b w root (λ e. omega arith)) ∙ first_all ws acc root inside));
        };
        kept = found_kept h.ready root low 0 room;
        settled = λ u l n q. met u l n q (ℕ_discrete u root);
      }
        where
          met : (u : ℕ) → u < vertices (theory_of ws) → mark_in b w u ≢ 1 → mark_in b (discovered ws b w root 0) u ≡ 1 → Dec (u ≡ root) → ⊥
          met u l n q (yes e) = n (ap (mark_in b w) e ∙ unmet)
          met u l n q (no m) = n (sym (found_marks h.ready root low 0 room u l m) ∙ q)

    -- the stack is empty again
    pub descended : {ed : Edition} → Accepted ed ws → mark_in b w root ≡ 1 → {w' : List ℕ} {n : ℕ} → Walked ws b (discovered ws b w root 0) w' 0 n → Descended ws b w w' root n
    descended acc m g = record {
      walked = walked_on (root_new m acc) g;
      passed = g.settled root low (λ z. let f = found_here h.ready root low 0 (omega arith) in omega arith);
    }

  -- ---- every root

  pub roots_more : {w₀ w w' : List ℕ} {root done r : ℕ} → root < vertices (theory_of ws) → Walked ws b w₀ w 0 done → ((v : ℕ) → v < root → mark_in b w v ≢ 1) → Descended ws b w w' root r
      → Walked ws b w₀ w' 0 r × ((v : ℕ) → v < root + 1 → mark_in b w' v ≢ 1)
  roots_more {w₀} {w} {w'} {root} low s m d = (walked_on s d.walked, λ v l. go v l (ℕ_discrete v root))
    where
      go : (v : ℕ) → v < root + 1 → Dec (v ≡ root) → mark_in b w' v ≢ 1
      go v l (yes e) = subst (λ (z : ℕ). mark_in b w' z ≢ 1) (sym e) d.passed
      go v l (no n) = d.walked.settled v (omega arith) (m v (omega arith))

  pub walk_start : {ed : Edition} → Accepted ed ws → {w : List ℕ} → Ready ws b w → Marked ws b 1 w → Walking ws b w 0 0
  unfolding upto
  walk_start acc {w} r m = record {
    ready = r;
    linked = λ v l. subst (Linked ws v) (sym (cursor_unmet ws b w v (none v l))) (first_linked ws acc v l);
    search = search_start m.outside m.inside none;
  }
    where
      none : (v : ℕ) → v < vertices (theory_of ws) → mark_in b w v ≢ 2
      none v l q = go (bool_cases (in_graph (theory_of ws) v))
        where
          go : (in_graph (theory_of ws) v ≡ true) ⊎ (in_graph (theory_of ws) v ≡ false) → ⊥
          go (inl e) = let z = m.inside v l e in omega arith
          go (inr e) = let z = m.outside v l e in omega arith

  pub walk_end : {w w' : List ℕ} {done : ℕ} → Walked ws b w w' 0 done → ((v : ℕ) → v < vertices (theory_of ws) → mark_in b w' v ≢ 1) → Finished ws b w w' done
  unfolding upto
  walk_end {w} {w'} {done} s none = record {
    kept = s.kept;
    marks = record { inside = λ v l g. met v l (s.walking.search.unmet v l g); outside = s.walking.search.outside };
    count = done_fits s.walking;
    ordered = search_end s.walking.search none;
  }
    where
      met : (v : ℕ) → v < vertices (theory_of ws) → (mark_in b w' v ≡ 1) ⊎ (mark_in b w' v ≡ 2) → mark_in b w' v ≡ 2
      met v l (inl e) = absurd (none v l e)
      met v l (inr e) = e
