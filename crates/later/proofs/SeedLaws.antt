-- The heads of the facts are met, the seeds' rows followed one after the other, and the worklist runs to its end.
use mathlib.Core.Path.{◌≡◌, refl, sym, ap, ◌∙◌, subst}
use mathlib.Core.Logic.{◌⊎◌, inl, inr, ◌↔◌}
use mathlib.Core.Bool.{Bool, true, false}
use mathlib.Core.List.Memᴰ
use mathlib.Core.List.{List, [], ◌∷◌, ◌++◌, map}
use Prim.Native.Nat.{ℕ, ◌+◌, ◌-◌, ◌≤◌, ◌<◌}
use native.Mathlib.Omega.{arith}
use native.Mathlib.Numerals.{add-one}
use lib.ListN.{length, get_or, take, drop}
use lib.Seq.{slice, slice_empty, drop-drop}
use Rattle.std.specs.Prelude.{filter}
use Rattle.std.proofs.lemmas.List.{take-append-drop}
use Rattle.theory.specs.Sets.{Set, Is, Mem, everyone}
use Rattle.theory.specs.Counts.{Distinct}
use Rattle.theory.specs.Words.{theory_of}
use Rattle.theory.specs.Accepted.{Accepted, edition1}
use Rattle.theory.specs.Edges.{preds}
use Rattle.theory.specs.Founded.{cyclic, cyclic_cone}
use Rattle.theory.specs.Pass.{pass_mode}
use Rattle.theory.specs.Prefix.{upto}
use Rattle.theory.specs.Roles.{live_role, live_seed, role}
use Rattle.theory.specs.Drive.{Follows, Drives}
use Rattle.theory.specs.Worklist.{Worklist}
use Rattle.theory.proofs.SetLaws.{clash}
use Rattle.theory.proofs.DriveLaws.{follows_all, drives_all, slice_turn}
use Rattle.theory.proofs.ServeLaws.{kept_in, kept_out, kept_mem, kept_there, mem_right}
use Rattle.theory.proofs.WorklistLaws.{worklist_begin, found_live}
use Rattle.area.specs.declared.Bases.{Bases}
use Rattle.area.specs.Layout.{Based}
use Rattle.area.specs.Views.{count_at, queued, as_vertices, Outside}
use Rattle.area.proofs.PartLaws.{outside_none, outside_then}
use Rattle.events.specs.Held.{Held}
use Rattle.events.specs.Run.{GraphRows, Running, Runs, Ran}
use Rattle.cones.specs.declared.Cone.{Cone}
use Rattle.preparation.specs.Stages.{Standing}
use Rattle.theory.proofs.PassLaws.{cyclic_cone_enough}
use Rattle.preparation.proofs.PassLaws.{counts, small, ended, standing_kept, cone_low}
use Rattle.words.specs.Words.{holds1}
use Rattle.projection.specs.Narrowed.{RowTable, parents_of, heads_of}
use Rattle.later.specs.Later.{later_row, Projected, LaterRows, Again, PassedAgain, Restarted, live_of, seed_ctx, Seeding}
use Rattle.later.proofs.ServeLaws.{later_serves}
use Rattle.later.proofs.BeginLaws.{seed_is, seeds_once}

distinct_last : (k l : List ℕ) → Distinct (k ++ l) → Distinct l
distinct_last [] l d = d
distinct_last (x ∷ k) l d = distinct_last k l d.1

suffix_once : (f i t : ℕ) (l : List ℕ) → f ≤ i → Distinct (slice f t l) → Distinct (slice i t l)
suffix_once f i t l h d =
    let e : f + (i - f) ≡ i = omega arith in
    rw (drop-drop (i - f) f (take t l) ∙ ap (λ (k : ℕ). drop k (take t l)) e) at
    (distinct_last (take (i - f) (slice f t l)) (drop (i - f) (slice f t l)) (rw (take-append-drop (i - f) (slice f t l)) d))

suffix_mem : (f i t : ℕ) (l : List ℕ) {x : ℕ} → f ≤ i → Mem x (slice i t l) → Mem x (slice f t l)
suffix_mem f i t l {x} h m =
    let e : f + (i - f) ≡ i = omega arith in
    rw (take-append-drop (i - f) (slice f t l)) at
    (mem_right (take (i - f) (slice f t l)) (drop (i - f) (slice f t l)) (rw (sym (drop-drop (i - f) f (take t l) ∙ ap (λ (k : ℕ). drop k (take t l)) e)) at m))

-- ---- the facts

module _ {ws : List ℕ} {b : Bases} {w₀ : List ℕ} (g : Again ws b w₀) (never atom_never : Set) (seeds : List ℕ) {w : List ℕ} (r : Restarted ws b never atom_never seeds w₀ w) where
  begun : Held 65536 b (seed_ctx ws b never atom_never (live_of ws b never atom_never seeds) [] w) w 0 (heads_of ws b.nodes)
  unfolding upto
  begun = let k = standing_kept g.standing r.outside in record {
    laid = g.standing.based.laid;
    long = k.based.ends;
    small = small g.accepted g.standing holds1;
    fore = omega arith;
    front = λ i l. refl;
    outside = outside_none;
    settling = r.list;
  }

  pub facts_follow : {l : List ℕ} → l ≡ heads_of ws b.nodes → Follows (Held 65536 b) w 0 l
  facts_follow e = rw e (follows_all (Held 65536 b) begun)

  pub facts_met : {l : List ℕ} → l ≡ heads_of ws b.nodes → {w' : List ℕ} {t : ℕ} → Drives (Held 65536 b) b.states w 0 l w' t [] → Seeding ws b never atom_never seeds [] w w' t
  facts_met e d = drives_all (Held 65536 b) begun (rw e at d)

-- the rows can be read all along
pub rows_again : {ws : List ℕ} {b : Bases} {w₀ w : List ℕ} → Again ws b w₀ → {parents heads nodes roles : List ℕ} {start : ℕ} {atoms : List ℕ} → Projected ws b parents heads nodes roles start atoms → Outside b.dependencies b.body_nodes w₀ w → LaterRows ws b parents heads w
rows_again g p o = let k = standing_kept g.standing o in record { graph = record { accepted = g.accepted; based = k.based; tables = k.tables }; parent_rows = p.parent_rows; head_rows = p.head_rows }

-- from here on
pub rebased : (ws : List ℕ) (b : Bases) (never atom_never : Set) (seeds done : List ℕ) {base w : List ℕ} {t : ℕ} → Seeding ws b never atom_never seeds done base w t → Seeding ws b never atom_never seeds done w w t
rebased ws b never atom_never seeds done h = record { laid = h.laid; long = h.long; small = h.small; fore = h.fore; front = λ i l. refl; outside = outside_none; settling = h.settling }

-- no seed has been followed
pub seeds_begun : (ws : List ℕ) (b : Bases) (never atom_never : Set) (seeds nodes : List ℕ) {w : List ℕ} {t : ℕ} → Seeding ws b never atom_never seeds [] w w t → Seeding ws b never atom_never seeds (slice (length nodes) (length nodes) nodes) w w t
seeds_begun ws b never atom_never seeds nodes h = rw (slice_empty (length nodes) nodes) h

-- ---- a seed

module _ {ws : List ℕ} {b : Bases} {parents heads nodes roles : List ℕ} {start : ℕ} {atoms : List ℕ} (p : Projected ws b parents heads nodes roles start atoms) (acc : Accepted edition1 ws) {words : ℕ} (based : Based ws words b)
    (never atom_never : Set) (base : List ℕ) {w : List ℕ} {t : ℕ} (i : ℕ) (high : start ≤ i) (l : i < length nodes) {n : ℕ} (en : n ≡ get_or nodes i 0)
    (h : Seeding ws b never atom_never (slice start (length nodes) nodes) (slice (i + 1) (length nodes) nodes) base w t) where
  turn : slice i (length nodes) nodes ≡ n ∷ slice (i + 1) (length nodes) nodes
  turn = slice_turn i (length nodes) nodes l (omega arith) en

  abbrev lives : Set
  lives = live_seed (theory_of ws) (cyclic (theory_of ws)) never atom_never

  listed : Mem n (slice start (length nodes) nodes)
  listed = suffix_mem start i (length nodes) nodes high (subst (λ (x : List ℕ). Mem n x) (sym turn) (Memᴰ.head refl))

  pub seed_low : n < b.nodes
  seed_low = let q = counts based in let c = cone_low ws n ((seed_is p n).0 listed).0 in omega arith

  pub seed_role : {r : ℕ} → r ≡ get_or roles i 0 → r ≡ role (theory_of ws) (cyclic (theory_of ws)) n
  seed_role e = e ∙ p.parted.numbers i (inr (high, l)) ∙ ap (role (theory_of ws) (cyclic (theory_of ws))) (sym en)

  -- one that is not true is passed over
  pub seed_passed : live_role never atom_never n (role (theory_of ws) (cyclic (theory_of ws)) n) ≡ false → Seeding ws b never atom_never (slice start (length nodes) nodes) (slice i (length nodes) nodes) base w t
  seed_passed e = rw (turn, kept_out lives n (slice (i + 1) (length nodes) nodes) e) h

  module _ (e : Is (live_role never atom_never n (role (theory_of ws) (cyclic (theory_of ws)) n))) where
    found : Mem (b.atoms + n) (queued b w t ++ live_of ws b never atom_never (slice start (length nodes) nodes))
    found = mem_right (queued b w t) _ (Memᴰ.map (λ m. b.atoms + m) (kept_there lives listed e))

    fresh : Mem (b.atoms + n) (live_of ws b never atom_never (slice (i + 1) (length nodes) nodes)) → ⊥
    fresh m =
        let r = Memᴰ.of_map (λ x. b.atoms + x) _ m in
        let q : b.atoms + r.0 ≡ b.atoms + n = r.2 in
        let z : r.0 ≡ n = omega arith in
        let k = (kept_mem lives r.0 (slice (i + 1) (length nodes) nodes) r.1).0 in
        let d : Distinct (n ∷ slice (i + 1) (length nodes) nodes) = rw turn at (suffix_once start i (length nodes) nodes high (seeds_once p)) in
        d.0 (subst (λ (x : ℕ). Mem x (slice (i + 1) (length nodes) nodes)) z k)

    begun_seed : Held 65536 b (seed_ctx ws b never atom_never (live_of ws b never atom_never (slice start (length nodes) nodes)) ((b.atoms + n) ∷ live_of ws b never atom_never (slice (i + 1) (length nodes) nodes)) base) w t (later_row ws b (b.atoms + n))
    begun_seed = record {
      laid = h.laid;
      long = h.long;
      small = h.small;
      fore = h.fore;
      front = h.front;
      outside = h.outside;
      settling =
          worklist_begin (b.atoms + b.nodes) (pass_mode (theory_of ws) (cyclic_cone (theory_of ws)) never atom_never) (preds (theory_of ws) everyone) h.settling found fresh
          (later_serves acc based never atom_never (b.atoms + n) (let s = seed_low in omega arith) (found_live (b.atoms + b.nodes) (pass_mode (theory_of ws) (cyclic_cone (theory_of ws)) never atom_never) (preds (theory_of ws) everyone) h.settling (b.atoms + n) found));
    }

    pub seed_follows : Follows (Held 65536 b) w t (later_row ws b (b.atoms + n))
    seed_follows = follows_all (Held 65536 b) begun_seed

    pub seed_followed : {w' : List ℕ} {t' : ℕ} → Drives (Held 65536 b) b.states w t (later_row ws b (b.atoms + n)) w' t' [] → Seeding ws b never atom_never (slice start (length nodes) nodes) (slice i (length nodes) nodes) base w' t'
    seed_followed d = rw (turn, kept_in lives n (slice (i + 1) (length nodes) nodes) e) (drives_all (Held 65536 b) begun_seed d)

-- ---- the queue, and the end

module _ {ws : List ℕ} {b : Bases} (never atom_never : Set) (seeds base : List ℕ) {w : List ℕ} {t : ℕ} (acc : Accepted edition1 ws) {words : ℕ} (based : Based ws words b) (h : Seeding ws b never atom_never seeds seeds base w t) where
  running : Running 65536 b (pass_mode (theory_of ws) (cyclic_cone (theory_of ws)) never atom_never) (preds (theory_of ws) everyone) (live_of ws b never atom_never seeds) w 0 t
  unfolding upto
  running = record {
    ahead = omega arith;
    held = record { laid = h.laid; long = h.long; small = h.small; fore = omega arith; front = λ i l. refl; outside = outside_none; settling = h.settling };
  }

  pub seeds_run : Runs 65536 b (later_row ws b) w t
  seeds_run = (_, _, _, later_serves acc based never atom_never, running)

  pub later_passed : {w₀ w' : List ℕ} {u : ℕ} {c : Cone} → Standing ws b (cyclic (theory_of ws)) (cyclic_cone (theory_of ws)) w₀ c → Outside b.dependencies b.body_nodes w₀ w → Ran 65536 b (later_row ws b) w w' 0 t u u → PassedAgain ws never atom_never b w₀ w'
  later_passed s o r = record {
    outside = outside_then o r.outside;
    waiting = ended acc s (r.runs _ _ _ (later_serves acc based never atom_never) running).held.settling (cyclic_cone_enough (theory_of ws) acc.well_formed never atom_never);
  }
