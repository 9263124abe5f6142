-- A pass from what stands (`stands`): it is what the start needs (`start_prepared`), the worklist runs, and at its end an atom still waits exactly if it is missing (`passing`). What stands
-- is left as it was (`standing_kept`).
use mathlib.Core.Path.{◌≡◌, refl, sym, ap, ◌∙◌}
use mathlib.Core.Logic.{◌↔◌}
use mathlib.Core.Bool.{Bool, true, false, ◌&&◌, cond}
use mathlib.Core.List.{List, [], append-nil}
use Prim.Native.Nat.{ℕ, ◌+◌, ◌≤◌, ◌<◌}
use native.Mathlib.Omega.{arith}
use lib.Dec.{eqb}
use lib.ListN.{length, get_or, take, drop, length-drop}
use lib.Seq.{get_or-drop}
use Rattle.theory.specs.Sets.{Set, Is, everyone, any}
use Rattle.theory.specs.Words.{theory_of}
use Rattle.theory.specs.Accepted.{Accepted, Edition}
use Rattle.theory.specs.Edges.{vertices, preds}
use Rattle.theory.specs.Rows.{succs}
use Rattle.theory.specs.Founded.{cyclic, cyclic_cone}
use Rattle.theory.specs.Worklist.{Worklist}
use Rattle.theory.specs.Pass.{pass_mode_among, EnoughAmong}
use Rattle.theory.specs.Prefix.{upto}
use Rattle.theory.proofs.SetLaws.{clash, eq_is, is_eq, and_intro, and_left, and_right}
use Rattle.theory.proofs.CycleLaws.{cyclic_walk}
use Rattle.theory.proofs.EdgeLaws.{cone_bound}
use Rattle.theory.proofs.RoleLaws.{among_end, pass_rests}
use Rattle.theory.proofs.TurnedLaws.{same_members, apart, upto_distinct}
use Rattle.theory.proofs.WorklistLaws.{worklist_start}
use Rattle.words.specs.Words.{Holds}
use Rattle.graph.proofs.DecodeLaws.{the_atoms, the_nodes, the_producers}
use Rattle.area.specs.declared.Bases.{Bases}
use Rattle.area.specs.Layout.{Based}
use Rattle.area.specs.Views.{count_at, queued, Outside}
use Rattle.area.proofs.PartLaws.{frame_less, frame_at, behind_more, outside_none, outside_then}
use Rattle.rows.proofs.VertexLaws.{tables_same}
use Rattle.events.specs.Run.{GraphRows, Running, Ran, Runs}
use Rattle.events.proofs.RunLaws.{graph_serves}
use Rattle.cones.specs.Cones as cones
use Rattle.cones.specs.declared.Cone.{Cone}
use Rattle.cones.proofs.FactLaws.{fact_mem}
use Rattle.initialization.specs.Regions as start
use Rattle.initialization.proofs.RegionLaws.{flagged_kept}
use Rattle.preparation.specs.Stages.{Marking, Standing, Waiting, Passing}

pub counts : {ws : List ℕ} {words : ℕ} {b : Bases} → Based ws words b → (b.atoms ≡ (theory_of ws).atoms) × (b.nodes ≡ (theory_of ws).nodes) × (b.producers ≡ (theory_of ws).producers)
counts {ws} based =
    let x = the_atoms ws in let y = the_nodes ws in let z = the_producers ws in
    let p = based.atoms in let q = based.nodes in let r = based.producers in
    (omega arith, omega arith, omega arith)

pub bound : {ws : List ℕ} {words : ℕ} {b : Bases} → Based ws words b → vertices (theory_of ws) ≡ b.atoms + b.nodes
unfolding vertices
bound based = let q = counts based in omega arith

pub cone_low : (ws : List ℕ) (n : ℕ) → Is (cyclic_cone (theory_of ws) n) → n < (theory_of ws).nodes
unfolding cyclic_cone
cone_low ws n i = cone_bound (theory_of ws) (λ p. any (cyclic (theory_of ws)) ((theory_of ws).heads p)) n i

-- ---- from the flags to what stands

module _ {ws : List ℕ} {b : Bases} {w₀ w : List ℕ} (based₀ : Based ws (length w₀) b) (m : Marking ws b w₀ w) where
  pub marked_based : Based ws (length w) b
  marked_based = rw m.size based₀

  pub cone_flags : cones.Flagged (theory_of ws) b w
  cone_flags a l = let c = counts based₀ in go (cyclic (theory_of ws) a) (m.flags a (omega arith))
    where
      go : (y : Bool) → get_or w (b.cyclic_atoms + a) 0 ≡ cond y 1 0 → (get_or w (b.cyclic_atoms + a) 0 ≡ 1) ↔ Is y
      go true e = (λ _. refl, λ _. e)
      go false e = ((λ k. absurd (omega arith)), λ k. absurd (clash k refl))

  pub stands : {w₁ : List ℕ} {c : Cone} → cones.Kept b w w₁ → cones.cyclic_coned (theory_of ws) b w₁ c → Standing ws b (cyclic (theory_of ws)) (cyclic_cone (theory_of ws)) w₁ c
  stands {w₁} k h = record {
    based = rw k.size marked_based;
    tables = tables_same k.tables k.size m.tables;
    low = cone_low ws;
    flagged = record {
      low = λ a y. let q = counts based₀ in let l = ((cyclic_walk (theory_of ws) a).0 y).0 in omega arith;
      flag = λ a l. sym (get_or-drop b.cyclic_atoms w₁ a 0) ∙ ap (λ (x : List ℕ). get_or x a 0) k.flags ∙ get_or-drop b.cyclic_atoms w a 0 ∙ m.flags a l;
    };
    coned = h;
  }

-- ---- what stands is left by whatever writes counts and queue alone

module _ {ws : List ℕ} {b : Bases} {marked cone : Set} {w w' : List ℕ} {c : Cone} (s : Standing ws b marked cone w c) (o : Outside b.dependencies b.body_nodes w w') where
  pub standing_kept : Standing ws b marked cone w' c
  standing_kept = let l = s.based.laid in let q = counts s.based in record {
    based = rw o.size s.based;
    tables = tables_same (frame_less b.dependencies w w' o.before b.states (omega arith)) o.size s.tables;
    flagged = flagged_kept s.based.laid w w' o.after s.flagged;
    low = s.low;
    coned = record {
      found = record {
        marks = λ n h. frame_at b.dependencies w w' o.before (b.states + (b.atoms + n)) (omega arith) ∙ s.coned.found.marks n h;
        within = s.coned.found.within;
        once = rw o.after s.coned.found.once;
        lists = λ n. rw o.after (s.coned.found.lists n);
      };
      few = s.coned.few;
      lists = ap (take c.facts) (behind_more b.body_nodes w w' o.after b.fact_rows (omega arith)) ∙ s.coned.lists;
    };
  }

-- ---- from what stands to the start

module _ {ws : List ℕ} {ed : Edition} (acc : Accepted ed ws) {b : Bases} {marked cone : Set} {w : List ℕ} {c : Cone} (s : Standing ws b marked cone w c) where
  nodes_long : c.nodes ≤ length (drop b.body_nodes w)
  nodes_long = let l = s.based.laid in let g = s.based.ends in let f = s.coned.found.within in let q = counts s.based in simp length-drop (omega arith)

  facts_long : c.facts ≤ length (drop b.fact_rows w)
  facts_long = let l = s.based.laid in let g = s.based.ends in let f = s.coned.few in let q = counts s.based in simp length-drop (omega arith)

  both : (p : ℕ) → Is (any marked ((theory_of ws).heads p)) → (theory_of ws).body p ≡ 0 → Is (eqb ((theory_of ws).body p) 0 && any marked ((theory_of ws).heads p))
  both p y e = and_intro (is_eq ((theory_of ws).body p) 0 e) y

  pub start_prepared : start.Prepared ws b w c.nodes c.facts marked cone
  start_prepared = record {
    flagged = s.flagged;
    nodes_few = let f = s.coned.found.within in let q = counts s.based in omega arith;
    listed = record {
      low = s.low;
      once = upto_distinct c.nodes (drop b.body_nodes w) (λ i j a g. let n = nodes_long in apart c.nodes (drop b.body_nodes w) s.coned.found.once i j a g (omega arith));
      are = λ n. (λ y. (s.coned.found.lists n).0 ((same_members c.nodes (drop b.body_nodes w) nodes_long n).0 y), λ y. (same_members c.nodes (drop b.body_nodes w) nodes_long n).1 ((s.coned.found.lists n).1 y));
    };
    facts_few = let f = s.coned.few in let q = counts s.based in omega arith;
    stated = record {
      are = λ p. (
        (λ y. let r = (fact_mem s.coned p).0 ((same_members c.facts (drop b.fact_rows w) facts_long p).0 y) in
            (r.0, eq_is ((theory_of ws).body p) 0 (and_left (eqb ((theory_of ws).body p) 0) _ r.1), and_right (eqb ((theory_of ws).body p) 0) _ r.1)),
        λ y. (same_members c.facts (drop b.fact_rows w) facts_long p).1 ((fact_mem s.coned p).1 (y.0, both p y.2 y.1)),
      );
    };
  }

  pub small : {lim : ℕ} → Holds ed lim → b.atoms + b.nodes < lim
  small holds = let q = counts s.based in let a = acc.atoms_few in let n = acc.nodes_few in let e = holds.small in let f = holds.few_counts in omega arith

  -- ---- the end of a worklist of the pass, whatever it started from

  module _ {never atom_never : Set} {order : List ℕ} {w' : List ℕ} (list : Worklist (b.atoms + b.nodes) (pass_mode_among (theory_of ws) marked cone never atom_never) (preds (theory_of ws) everyone) order order [] (count_at b w')) where
    pub ended : EnoughAmong (theory_of ws) marked cone never atom_never → Waiting ws marked cone never atom_never b w'
    ended enough = let same : Worklist (vertices (theory_of ws)) (λ v. pass_mode_among (theory_of ws) marked cone never atom_never v) (preds (theory_of ws) everyone) order order [] (count_at b w') = rw (bound s.based) list in record {
      flags = λ a l. among_end (theory_of ws) acc.well_formed marked cone never atom_never s.low same enough a (let q = counts s.based in omega arith);
      rests = pass_rests (theory_of ws) acc.well_formed marked cone never atom_never s.low same;
    }

  -- ---- the lone pass

  module _ {never atom_never : Set} {w₁ : List ℕ} {t : ℕ} (g : start.Begun ws never atom_never b w w₁ c.nodes c.facts t) where
    pub graph_rows : GraphRows ed ws b w₁
    graph_rows = let k = standing_kept s g.outside in record { accepted = acc; based = k.based; tables = k.tables }

    pub running : {lim : ℕ} → Holds ed lim → Running lim b (pass_mode_among (theory_of ws) marked cone never atom_never) (preds (theory_of ws) everyone) [] w₁ 0 t
    unfolding upto
    running holds = let e = graph_rows.based in record {
      ahead = omega arith;
      held = record {
        laid = s.based.laid;
        long = e.ends;
        small = small holds;
        fore = omega arith;
        front = λ i l. refl;
        outside = outside_none;
        settling = rw (append-nil (queued b w₁ t)) (rw (bound s.based) at (worklist_start (vertices (theory_of ws)) (pass_mode_among (theory_of ws) marked cone never atom_never) (preds (theory_of ws) everyone) (g.started marked cone start_prepared)));
      };
    }

    pub runs : {lim : ℕ} → Holds ed lim → Runs lim b (succs (theory_of ws)) w₁ t
    runs holds = (_, _, [], graph_serves acc s.based _, running holds)

    pub waiting : {lim : ℕ} {w₂ : List ℕ} {u : ℕ} → Holds ed lim → Ran lim b (succs (theory_of ws)) w₁ w₂ 0 t u u → EnoughAmong (theory_of ws) marked cone never atom_never → Waiting ws marked cone never atom_never b w₂
    waiting {w₂ = w₂} {u = u} holds r = ended (rw (append-nil (queued b w₂ u)) at (r.runs _ _ [] (graph_serves acc s.based _) (running holds)).held.settling)

pub passing : {ws : List ℕ} {ed : Edition} → Accepted ed ws → {b : Bases} {w w₁ w₂ : List ℕ} {c : Cone} {never atom_never : Set} {t u lim : ℕ} → start.Begun ws never atom_never b w w₁ c.nodes c.facts t → Holds ed lim
    → Ran lim b (succs (theory_of ws)) w₁ w₂ 0 t u u → Passing ws never atom_never b w w₂ c
passing acc g holds r = record { outside = outside_then g.outside r.outside; waiting = λ marked cone s enough. waiting acc s g holds r enough }
