-- The worklist of the loop test, in which every vertex waits for all its predecessors: it starts with those that have none (`running`), and at its end all
-- vertices are on the queue exactly if there is no closed walk (`answer`).
use mathlib.Core.Path.{◌≡◌, refl, sym, ◌∙◌}
use mathlib.Core.List.{List, [], append-nil}
use Prim.Native.Nat.{ℕ, ◌+◌, ◌<◌}
use native.Mathlib.Omega.{arith}
use native.Mathlib.Decide.{dec_lt}
use borrow.Author.Tests.{lt-ltb, le-ltb}
use lib.Dec.{ltb}
use lib.ListN.{drop}
use Rattle.theory.specs.Sets.{everyone}
use Rattle.theory.specs.Counts.{count_in}
use Rattle.theory.specs.Walks.{Walk, edge, next}
use Rattle.theory.specs.Words.{theory_of}
use Rattle.theory.specs.Edges.{vertices, preds}
use Rattle.theory.specs.Rows.{succs}
use Rattle.theory.specs.Founded.{has_cycle}
use Rattle.theory.specs.Closure.{every}
use Rattle.theory.specs.Worklist.{Started, Serving, Worklist}
use Rattle.theory.specs.Prefix.{upto}
use Rattle.theory.proofs.SetLaws.{is_false}
use Rattle.theory.proofs.EdgeLaws.{preds_low}
use Rattle.theory.proofs.CycleLaws.{has_cycle_walk}
use Rattle.theory.proofs.RowLaws.{preds_from}
use Rattle.theory.proofs.PrefixLaws.{upto_length}
use Rattle.theory.proofs.WorklistLaws.{worklist_start}
use Rattle.theory.proofs.KahnLaws.{kahn_open, kahn_closed}
use Rattle.area.specs.declared.Bases.{Bases}
use Rattle.area.proofs.PartLaws.{frame_at, frame_less, outside_none}
use Rattle.area.specs.Views.{count_at, queued}
use Rattle.rows.specs.Rows.{Tables}
use Rattle.events.specs.Run.{Running, Ran}
use Rattle.rows.proofs.VertexLaws.{tables_same}
use Rattle.cycles.specs.Held.{Counting, Looked}
use Rattle.cycles.proofs.DegreeLaws.{degree_all}

module _ {lim : ℕ} (ws : List ℕ) {b : Bases} {w w' : List ℕ} {t : ℕ} (c : Counting lim (theory_of ws) b w (theory_of ws).producers []) (k : Looked b w w' (b.atoms + b.nodes) t) where
  pub tables_looked : Tables (theory_of ws) b w'
  tables_looked = let l = c.shape.laid in tables_same (frame_less b.queue w w' k.before b.states (omega arith)) k.size c.shape.tables

  count_same : (v : ℕ) → v < b.atoms + b.nodes → count_at b w' v ≡ count_at b w v
  count_same v h = let l = c.shape.laid in frame_at b.queue w w' k.before (b.dependencies + v) (omega arith)

  started : Started (b.atoms + b.nodes) (λ v. every) (preds (theory_of ws) everyone) (queued b w' t) (count_at b w')
  unfolding count_in
  started = record {
    distinct = k.distinct;
    low = λ v m. ((k.first v).0 m).0;
    dead_count = λ v h e. let z : ◌≡◌ {A = ℕ} 0 1 = cc in absurd (omega arith);
    free_count = λ v h e. let z : ◌≡◌ {A = ℕ} 0 1 = cc in absurd (omega arith);
    single_count = λ v h e. let z : ◌≡◌ {A = ℕ} 0 1 = cc in absurd (omega arith);
    every_count = λ v h e. omega (arith, count_same v h, c.tally v h, degree_all (theory_of ws) v);
    first = λ v h. ((λ m. (count_same v h ∙ ((k.first v).0 m).1, λ e. let z : ◌≡◌ {A = ℕ} 0 1 = cc in omega arith)), λ p. (k.first v).1 (h, sym (count_same v h) ∙ p.0));
  }

  pub running : Running lim b (λ v. every) (preds (theory_of ws) everyone) [] w' 0 t
  unfolding upto
  running =
      let l = c.shape.laid in let g = c.shape.long in let s = c.shape.small in let e = k.size in
      record {
        ahead = omega arith;
        held = record {
          laid = l;
          long = omega arith;
          small = omega arith;
          fore = omega arith;
          front = λ i h. refl;
          outside = outside_none;
          settling = rw (append-nil (queued b w' t)) (worklist_start (b.atoms + b.nodes) (λ v. every) (preds (theory_of ws) everyone) started);
        };
      }

  pub answer : {w'' : List ℕ} {n : ℕ} → Serving (b.atoms + b.nodes) (λ v. every) (preds (theory_of ws) everyone) (succs (theory_of ws)) → Ran lim b (succs (theory_of ws)) w' w'' 0 t n n
      → ltb n (b.atoms + b.nodes) ≡ has_cycle (theory_of ws)
  unfolding vertices
  answer {w''} {n} serving r = go (dec_lt n (b.atoms + b.nodes))
    where
      list : Worklist (b.atoms + b.nodes) (λ v. every) (preds (theory_of ws) everyone) (queued b w'' n) (queued b w'' n) [] (count_at b w'')
      list = rw (append-nil (queued b w'' n)) at (r.runs (λ v. every) (preds (theory_of ws) everyone) [] serving running).held.settling

      -- a vertex of the bases is one of the theory
      bound : b.atoms + b.nodes ≡ (theory_of ws).atoms + (theory_of ws).nodes
      bound = let x = c.shape.atoms in let y = c.shape.nodes in omega arith

      target : {u v : ℕ} → Walk (preds (theory_of ws) everyone) u v → v < (theory_of ws).atoms + (theory_of ws).nodes
      target {u} {v} (edge m) = preds_low (theory_of ws) everyone v u m
      target {u} {v} (next {w = x} p m) = preds_low (theory_of ws) everyone v x m

      go : Dec (n < b.atoms + b.nodes) → ltb n (b.atoms + b.nodes) ≡ has_cycle (theory_of ws)
      go (yes l) =
          let x = kahn_closed (b.atoms + b.nodes) (preds (theory_of ws) everyone) list (λ u v m. rw bound (preds_from (theory_of ws) c.shape.ok u v m)) (omega (arith, upto_length n (drop b.queue w''))) in
          lt-ltb n (b.atoms + b.nodes) l ∙ sym ((has_cycle_walk (theory_of ws)).1 (x.0, target x.1, x.1))
      go (no l) =
          le-ltb n (b.atoms + b.nodes) (omega arith)
          ∙ sym (is_false (has_cycle (theory_of ws)) (λ p. let x = (has_cycle_walk (theory_of ws)).0 p in
          kahn_open (b.atoms + b.nodes) (preds (theory_of ws) everyone) list (omega (arith, upto_length n (drop b.queue w''))) x.0 (rw bound x.1) x.2))
