-- The pass within an allowance, from what stands: its facts are listed, and their heads are as many as are counted (`facts_in`, `facts_due`); the work exceeds the allowance on the facts
-- (`stops_early`) or on the queue, or the worklist comes to its end and the work is paid for (`settled`).
use mathlib.Core.Path.{◌≡◌, refl, ap, ◌∙◌}
use mathlib.Core.List.{List, [], append-nil}
use Prim.Native.Nat.{ℕ, ◌+◌, ◌-◌, ◌≤◌}
use native.Mathlib.Omega.{arith}
use lib.ListN.{length, get_or, drop}
use Rattle.std.proofs.lemmas.List.{drop-take}
use Rattle.std.specs.Prelude.{Option, Some, None, MatchOption}
use Rattle.theory.specs.Sets.{Set, everyone}
use Rattle.theory.specs.Words.{theory_of}
use Rattle.theory.specs.Accepted.{Accepted, Edition}
use Rattle.theory.specs.Rows.{flat_map, succs}
use Rattle.theory.specs.Edges.{vertices, preds}
use Rattle.theory.specs.Founded.{cyclic, cyclic_cone, missing}
use Rattle.theory.specs.Pass.{pass_mode}
use Rattle.theory.specs.Worklist.{Worklist}
use Rattle.theory.specs.Work.{work, fact_heads}
use Rattle.theory.proofs.PassLaws.{cyclic_cone_enough}
use Rattle.theory.proofs.WorkLaws.{facts_members, worklist_done, queue_work}
use Rattle.words.specs.Words.{Holds}
use Rattle.graph.proofs.DecodeLaws.{the_producers}
use Rattle.area.specs.declared.Bases.{Bases}
use Rattle.area.specs.Views.{count_at, queued}
use Rattle.area.proofs.ListLaws.{list_entry}
use Rattle.rows.specs.Rows.{Named}
use Rattle.events.specs.Run.{Ran}
use Rattle.events.proofs.RunLaws.{graph_serves}
use Rattle.cones.specs.declared.Cone.{Cone}
use Rattle.cones.proofs.FactLaws.{fact_mem}
use Rattle.initialization.specs.Regions as start
use Rattle.preparation.specs.Stages.{Standing}
use Rattle.preparation.proofs.PassLaws.{counts, bound, running, waiting}
use Rattle.within.specs.Within.{heads_in, Followed, Stopped, PassedWithin, Exceeded}

module _ {ws : List ℕ} {b : Bases} {w : List ℕ} {c : Cone} (s : Standing ws b (cyclic (theory_of ws)) (cyclic_cone (theory_of ws)) w c) where
  pub facts_in : (b.fact_rows ≤ b.fact_rows + c.facts) × (b.fact_rows + c.facts ≤ length w) × Named ws w b.fact_rows (b.fact_rows + c.facts)
  facts_in = (omega arith, long, named)
    where
      long : b.fact_rows + c.facts ≤ length w
      long = let l = s.based.laid in let g = s.based.ends in let f = s.coned.few in let q = counts s.based in omega arith

      named : Named ws w b.fact_rows (b.fact_rows + c.facts)
      named i f t =
          let z : b.fact_rows + (i - b.fact_rows) ≡ i = omega arith in
          let m = rw z at (list_entry b.fact_rows c.facts w (i - b.fact_rows) (omega arith) long) in
          let p = ((fact_mem s.coned (get_or w i 0)).0 m).0 in let e = the_producers ws in omega arith

  pub facts_due : heads_in ws w b.fact_rows (b.fact_rows + c.facts) ≡ fact_heads (theory_of ws)
  facts_due = ap (λ (l : List ℕ). length (flat_map (theory_of ws).heads l)) (drop-take b.fact_rows c.facts w ∙ s.coned.lists) ∙ facts_members (theory_of ws)

  pub stops_early : (never atom_never : Set) (allowance : ℕ) → (heads_in ws w b.fact_rows (b.fact_rows + c.facts) ≤ allowance → ⊥) → Exceeded ws never atom_never w w allowance
  unfolding work
  stops_early never atom_never allowance h = record { size = refl; beyond = let f = facts_due in omega (arith, h) }

  module _ {ed : Edition} (acc : Accepted ed ws) {lim : ℕ} (holds : Holds ed lim) {never atom_never : Set} {w₁ : List ℕ} {t : ℕ} (g : start.Begun ws never atom_never b w w₁ c.nodes c.facts t) where
    list : {w₂ : List ℕ} (h u : ℕ) → Ran lim b (succs (theory_of ws)) w₁ w₂ 0 t h u
        → Worklist (vertices (theory_of ws)) (λ v. pass_mode (theory_of ws) (cyclic_cone (theory_of ws)) never atom_never v) (preds (theory_of ws) everyone) (queued b w₂ u) (queued b w₂ h) [] (count_at b w₂)
    list {w₂} h u r = rw (bound s.based) (rw (append-nil (queued b w₂ u), append-nil (queued b w₂ h)) at (r.runs _ _ [] (graph_serves acc s.based _) (running acc s g holds)).held.settling)

    module _ {allowance : ℕ} (left : ℕ) (paid : left + fact_heads (theory_of ws) ≡ allowance) where
      ends : {w₂ : List ℕ} {l : ℕ} → Followed lim ws b w₁ w₂ t left l → PassedWithin ws never atom_never b w w₂ allowance l
      unfolding missing
      ends f = record {
        size = f.ran.outside.size ∙ g.outside.size;
        flags = (waiting acc s g holds f.ran (cyclic_cone_enough (theory_of ws) acc.well_formed never atom_never)).flags;
        paid = let d = worklist_done (theory_of ws) acc.well_formed never atom_never (list f.end f.end f.ran) in let e = f.paid in omega arith;
      }

      stops : {w₂ : List ℕ} → Stopped lim ws b w₁ w₂ t left → Exceeded ws never atom_never w w₂ allowance
      stops {w₂} f = record {
        size = f.ran.outside.size ∙ g.outside.size;
        beyond =
            let k = f.ahead in
            let d = queue_work (theory_of ws) acc.well_formed never atom_never (drop b.queue w₂) (f.head + 1) f.tail (omega arith) (list f.head f.tail f.ran) in
            let e = f.beyond in
            omega arith;
      }

      pub settled : (w₂ : List ℕ) (r : Option ℕ) → MatchOption r (Stopped lim ws b w₁ w₂ t left) (λ l. Followed lim ws b w₁ w₂ t left l) → MatchOption r (Exceeded ws never atom_never w w₂ allowance) (λ l. PassedWithin ws never atom_never b w w₂ allowance l)
      settled w₂ None f = stops f
      settled w₂ (Some l) f = ends f
