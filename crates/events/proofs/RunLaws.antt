-- A worklist goes on, vertex by vertex, over any rows that serve; at its end what is on the queue or aside is the closure. The rows of the graph serve.
use mathlib.Core.Path.{◌≡◌, refl, sym, ap₂, ◌∙◌}
use mathlib.Core.Logic.{◌⊎◌, inl, inr}
use mathlib.Core.List.Memᴰ
use mathlib.Core.List.{List, [], ◌∷◌, ◌++◌}
use Prim.Native.Nat.{ℕ, ◌+◌, ◌≤◌, ◌<◌}
use native.Mathlib.Omega.{arith}
use native.Mathlib.Numerals.{add-one}
use lib.ListN.{get_or, drop, length-append}
use lib.Seq.{get_or-drop}
use Rattle.theory.specs.Sets.{Is, Mem, everyone}
use Rattle.theory.specs.Words.{theory_of}
use Rattle.theory.specs.Accepted.{Accepted, Edition}
use Rattle.theory.specs.Edges.{vertices, preds}
use Rattle.theory.specs.Closure.{Mode, closure}
use Rattle.theory.specs.Rows.{succs}
use Rattle.theory.specs.Worklist.{Worklist, Serving}
use Rattle.theory.specs.Prefix.{upto}
use Rattle.theory.specs.Drive.{Follows, Drives}
use Rattle.theory.proofs.CountLaws.{pigeonhole}
use Rattle.theory.proofs.ServeLaws.{serves_all, mem_left, distinct_apart, distinct_first}
use Rattle.theory.proofs.WorklistLaws.{worklist_begin, worklist_end, found_live}
use Rattle.theory.proofs.PrefixLaws.{upto_length, upto_same, upto_mem, upto_once}
use Rattle.theory.proofs.DriveLaws.{follows_all, drives_all}
use Rattle.graph.proofs.DecodeLaws.{the_atoms, the_nodes}
use Rattle.area.specs.declared.Bases.{Bases}
use Rattle.area.specs.Layout.{Based}
use Rattle.area.specs.Views.{count_at, queued, Outside}
use Rattle.area.proofs.PartLaws.{outside_none}
use Rattle.rows.proofs.VertexLaws.{tables_same}
use Rattle.events.specs.Held.{Held}
use Rattle.events.specs.Run.{GraphRows, Abides, run_ctx, Running}

-- ---- the rows of the graph

pub graph_abides : {ed : Edition} {ws : List ℕ} {b : Bases} {w : List ℕ} → GraphRows ed ws b w → Abides b w (GraphRows ed ws b)
graph_abides r w' frame size = record { accepted = r.accepted; based = rw size r.based; tables = tables_same frame size r.tables }

pub graph_serves : {ws : List ℕ} {ed : Edition} → Accepted ed ws → {b : Bases} {words : ℕ} → Based ws words b → (mode : ℕ → Mode) → Serving (b.atoms + b.nodes) mode (preds (theory_of ws) everyone) (succs (theory_of ws))
unfolding vertices
graph_serves {ws} acc {b} based mode u l live =
    let x = the_atoms ws in let y = the_nodes ws in let p = based.atoms in let q = based.nodes in
    let e : (theory_of ws).atoms + (theory_of ws).nodes ≡ b.atoms + b.nodes = omega arith in
    rw e at (serves_all (theory_of ws) acc.well_formed mode u)

-- ---- a turn, over rows that serve

module _ {lim : ℕ} {b : Bases} {mode : ℕ → Mode} {pred : ℕ → List ℕ} {aside w : List ℕ} (head tail : ℕ) (r : Running lim b mode pred aside w head tail) where
  list : Worklist (b.atoms + b.nodes) mode pred (queued b w tail ++ aside) (queued b w head ++ aside) [] (count_at b w)
  list = r.held.settling

  pub tail_low : tail ≤ b.atoms + b.nodes
  tail_low =
      let p = pigeonhole (b.atoms + b.nodes) (queued b w tail ++ aside) list.distinct list.low in
      omega (arith, upto_length tail (drop b.queue w), length-append (queued b w tail) aside)

  module _ (h : head < tail) {v : ℕ} (ev : v ≡ get_or w (b.queue + head) 0) where
    at_head : get_or (drop b.queue w) head 0 ≡ v
    at_head = get_or-drop b.queue w head 0 ∙ sym ev

    on_queue : Mem v (queued b w tail)
    on_queue = rw at_head at (upto_mem tail head (drop b.queue w) h)

    found : Mem v (queued b w tail ++ aside)
    found = mem_left (queued b w tail) aside on_queue

    pub head_low : v < b.atoms + b.nodes
    head_low = list.low v found

    -- its row has not been begun
    fresh : Mem v (queued b w head) ⊎ Mem v aside → ⊥
    fresh (inl m) = upto_once tail head (drop b.queue w) (distinct_first (queued b w tail) aside list.distinct) h (rw at_head m)
    fresh (inr m) = distinct_apart (queued b w tail) aside list.distinct on_queue m

    module _ {row : ℕ → List ℕ} (serving : Serving (b.atoms + b.nodes) mode pred row) where
      begun : Held lim b (run_ctx mode pred aside (v ∷ (queued b w head ++ aside)) w tail) w tail (row v)
      begun = record {
        laid = r.held.laid;
        long = r.held.long;
        small = r.held.small;
        fore = omega arith;
        front = λ i l. refl;
        outside = outside_none;
        settling = worklist_begin (b.atoms + b.nodes) mode pred list found (λ m. fresh (Memᴰ.append_cases (queued b w head) m))
            (serving v head_low (found_live (b.atoms + b.nodes) mode pred list v found));
      }

      pub run_follows : Follows (Held lim b) w tail (row v)
      run_follows = follows_all (Held lim b) begun

      module _ {w' : List ℕ} {t' : ℕ} (d : Drives (Held lim b) b.states w tail (row v) w' t' []) where
        after : Held lim b (run_ctx mode pred aside (v ∷ (queued b w head ++ aside)) w tail) w' t' []
        after = drives_all (Held lim b) begun d

        pub run_grows : tail ≤ t'
        run_grows = after.fore

        pub run_outside : Outside b.dependencies b.body_nodes w w'
        run_outside = after.outside

        same : (i : ℕ) → i < tail → get_or (drop b.queue w') i 0 ≡ get_or (drop b.queue w) i 0
        same i l = get_or-drop b.queue w' i 0 ∙ after.front i l ∙ sym (get_or-drop b.queue w i 0)

        -- the followed part of the queue grows by v
        pub run_queue : queued b w' (head + 1) ≡ v ∷ queued b w head
        unfolding upto
        run_queue = rw (add-one head) (ap₂ (λ (x : ℕ) (l : List ℕ). x ∷ l) (same head h ∙ at_head) (upto_same head (drop b.queue w') (drop b.queue w) (λ i l. same i (omega arith))))

        pub run_next : Running lim b mode pred aside w' (head + 1) t'
        run_next = record {
          ahead = let f = after.fore in omega arith;
          held = record {
            laid = after.laid;
            long = after.long;
            small = after.small;
            fore = omega arith;
            front = λ i l. refl;
            outside = outside_none;
            settling = rw run_queue after.settling;
          };
        }

pub run_end : {lim : ℕ} {b : Bases} {mode : ℕ → Mode} {pred : ℕ → List ℕ} {aside w : List ℕ} (t : ℕ) → Running lim b mode pred aside w t t → (v : ℕ) → Is (closure (b.atoms + b.nodes) mode pred v) → Mem v (queued b w t ++ aside)
run_end {b = b} {mode = mode} {pred = pred} t r = worklist_end (b.atoms + b.nodes) mode pred (list t t r)
