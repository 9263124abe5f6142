-- The start over the work area: a head of a fact (`head_passes`, `head_pushes`), a fact (`fact_accepted`, `fact_follows`, `fact_drives`), a node of the cone by its start state (`inactive_rests`,
-- `true_pushes`, `awaiting_pushes`, `awaiting_waits`), and the parts one after the other (`facts_follow`, `nodes_follow`, `begun`).
use mathlib.Core.Path.{◌≡◌, refl, sym, ap, ◌∙◌, subst}
use mathlib.Core.List.Memᴰ
use mathlib.Core.List.{List, [], ◌∷◌, map}
use Prim.Native.Nat.{ℕ, ◌+◌, ◌≤◌, ◌<◌}
use native.Mathlib.Omega.{arith}
use lib.ListN.{length, set, drop, length-set}
use Rattle.theory.specs.Sets.{Set, Is, everyone}
use Rattle.theory.specs.Edges.{vertices, preds}
use Rattle.theory.specs.Closure.{Mode, dead}
use Rattle.theory.specs.Words.{theory_of}
use Rattle.theory.specs.Accepted.{Edition, Accepted}
use Rattle.theory.specs.Rows.{flat_map}
use Rattle.theory.specs.Drive.{Follows, Drives}
use Rattle.theory.specs.Prefix.{upto}
use Rattle.theory.specs.Pass.{pass_mode_among}
use Rattle.theory.specs.Starting.{waits, first_count, Starting}
use Rattle.theory.proofs.DriveLaws.{follows_all, drives_all}
use Rattle.theory.proofs.PrefixLaws.{upto_length}
use Rattle.theory.proofs.PassStartLaws.{among_begin}
use Rattle.theory.proofs.StartingLaws.{head_passed, head_room, head_found, node_low, node_room, node_idle, node_found, starting_end}
use Rattle.words.specs.Words.{Holds}
use Rattle.area.specs.declared.Bases.{Bases}
use Rattle.area.specs.Layout.{Laid, Based}
use Rattle.initialization.specs.declared.Initial.{Initial}
use Rattle.initialization.specs.declared.Initial.TheVariants.{Inactive, Awaiting, True}
use Rattle.area.specs.Views.{count_at, queued, as_vertices, Outside}
use Rattle.initialization.specs.Regions.{cone_nodes, fact_rows, Flagged, Prepared, Begun}
use Rattle.initialization.specs.Start.{initial_at, Filled, Context, At, Fitting, AtFacts, Coning, pass_context, AtNodes, AtCone, Stays}
use Rattle.area.proofs.ViewLaws.{count_same, count_other, count_queue, push_count, push_queue}
use Rattle.area.proofs.PartLaws.{behind_more, outside_none, outside_set, outside_then}
use Rattle.initialization.proofs.RegionLaws.{flagged_kept, cone_same, prepared_kept}
use Rattle.initialization.proofs.InitialLaws.{told_dead, told_true, told_waits, told_fits}

-- what a step goes by: vertex v has a count
pub record Ready (b : Bases) (w : List ℕ) (v : ℕ) : Type 0 where
  pub laid : Laid b
  pub low : v < b.atoms + b.nodes
  pub long : b.end ≤ length w

-- ---- a head of a fact

module _ {lim : ℕ} {b : Bases} {w : List ℕ} {t a : ℕ} where
  pub head_ready : Follows (Fitting lim b) w t (a ∷ []) → Ready b w a
  head_ready f =
      let h = f.held.1 in
      let e = h.bound in
      let l = (h.starting.named a (Memᴰ.head refl)).0 in
      record { laid = h.laid; low = omega arith; long = h.long }

  pub head_fits : Follows (Fitting lim b) w t (a ∷ []) → 0 < count_at b w a → t < b.atoms + b.nodes
  head_fits f p =
      let h = f.held.1 in
      let e = h.bound in
      let l = head_room f.ctx.bound f.ctx.mode f.ctx.pred h.starting p in
      let k = upto_length t (drop b.queue w) in
      omega arith

  pub head_passes : {n : ℕ} → count_at b w a ≡ 0 → Drives (Fitting lim b) n w t (a ∷ []) w t []
  head_passes z = record {
    frame = refl;
    size = refl;
    keeps = λ c more q. let h = q.1 in (q.0, record { laid = h.laid; bound = h.bound; long = h.long; kept = h.kept; starting = head_passed c.bound c.mode c.pred h.starting z });
  }

  pub head_pushes : Follows (Fitting lim b) w t (a ∷ []) → 0 < count_at b w a
      → Drives (Fitting lim b) b.dependencies w t (a ∷ []) (set (set w (b.dependencies + a) 0) (b.queue + t) a) (t + 1) []
  head_pushes f p = record {
    frame = out.before;
    size = out.size;
    keeps = λ c more q. let h = q.1 in (
      q.0,
      record {
        laid = h.laid;
        bound = h.bound;
        long = let e = out.size in let k = h.long in omega arith;
        kept = out.after ∙ h.kept;
        starting = let e = h.bound in
            rw (push_queue laid one long t a fits, count_queue laid w r.long a 0 r.low t)
            (head_found c.bound c.mode c.pred h.starting p
            (push_count laid one long t a fits a r.low ∙ count_same laid w r.long a 0 r.low)
            (λ u l n. push_count laid one long t a fits u (omega arith) ∙ count_other laid w r.long a 0 r.low u n));
      },
    );
  }
    where
      r : Ready b w a
      r = head_ready f

      laid : Laid b
      laid = r.laid

      fits : t < b.atoms + b.nodes
      fits = head_fits f p

      one : List ℕ
      one = set w (b.dependencies + a) 0

      long : b.end ≤ length one
      long = let e = length-set w (b.dependencies + a) 0 in let k = r.long in omega arith

      out : Outside b.dependencies b.body_nodes w (set one (b.queue + t) a)
      out =
          let k = r.low in
          let m = laid in
          let j = fits in
          outside_then (outside_set b.dependencies b.body_nodes w (b.dependencies + a) 0 (omega arith) (omega arith)) (outside_set b.dependencies b.body_nodes one (b.queue + t) a (omega arith) (omega arith))

-- ---- a fact

-- the vertices fit a word
fits_word : {ed : Edition} {lim : ℕ} {ws : List ℕ} {b : Bases} {words : ℕ} → Holds ed lim → Accepted ed ws → Based ws words b → b.atoms + b.nodes ≤ lim
fits_word holds acc based = omega arith

-- the words behind the queue stay, and the facts with them, whatever is met
facts_behind : {ed : Edition} {lim : ℕ} {ws : List ℕ} {b : Bases} → Stays (AtFacts ed lim ws b) b.body_nodes
facts_behind c w w' t t' l l' h h' = h'.at.1.kept ∙ sym h.at.1.kept

pub facts_stay : {ed : Edition} {lim : ℕ} {ws : List ℕ} {b : Bases} → Laid b → Stays (AtFacts ed lim ws b) b.fact_rows
facts_stay {b = b} laid c w w' t t' l l' h h' = behind_more b.body_nodes w w' (facts_behind c w w' t t' l l' h h') b.fact_rows (omega arith)

module _ {ed : Edition} {lim : ℕ} {ws : List ℕ} {b : Bases} {w : List ℕ} {t p : ℕ} (f : Follows (AtFacts ed lim ws b) w t (p ∷ [])) where
  pub fact_accepted : Accepted ed ws × (p < (theory_of ws).producers)
  fact_accepted = (f.held.accepted, f.held.low p (Memᴰ.head refl))

  pub fact_follows : Follows (Fitting lim b) w t ((theory_of ws).heads p)
  unfolding flat_map
  fact_follows = record { ctx = f.ctx; more = flat_map (theory_of ws).heads f.more; held = f.held.at }

pub fact_drives : {ed : Edition} {lim : ℕ} {ws : List ℕ} {b : Bases} {n : ℕ} {w w' : List ℕ} {t t' p : ℕ}
    → Drives (Fitting lim b) n w t ((theory_of ws).heads p) w' t' [] → Drives (AtFacts ed lim ws b) n w t (p ∷ []) w' t' []
unfolding flat_map
fact_drives {ws = ws} d = record {
  frame = d.frame;
  size = d.size;
  keeps = λ c more h. record { accepted = h.accepted; low = λ q m. h.low q (Memᴰ.tail m); at = d.keeps c (flat_map (theory_of ws).heads more) h.at };
}

-- ---- a node

module _ {ws : List ℕ} {never atom_never : Set} {b : Bases} {k : Coning} {w : List ℕ} {t v : ℕ} {more : List ℕ} (h : AtNodes ws never atom_never b k w t (v ∷ more)) where
  abbrev mode : ℕ → Mode
  mode u = pass_mode_among (theory_of ws) k.marked k.cone never atom_never u

  abbrev pred : ℕ → List ℕ
  pred u = preds (theory_of ws) everyone u

  pub node_ready : Ready b w v
  node_ready =
      let e = h.at.bound in
      let l = node_low (vertices (theory_of ws)) mode pred h.at.starting in
      record { laid = h.at.laid; low = omega arith; long = h.at.long }

  pub node_fits : t < b.atoms + b.nodes
  node_fits =
      let e = h.at.bound in
      let l = node_room (vertices (theory_of ws)) mode pred h.at.starting in
      let u = upto_length t (drop b.queue w) in
      omega arith

  -- a store outside the tables and the lists, after which the nodes but v are still to be started
  after : {w' : List ℕ} {t' : ℕ} → Outside b.dependencies b.body_nodes w w' → Starting (vertices (theory_of ws)) mode pred [] more (queued b w' t') (count_at b w') → AtNodes ws never atom_never b k w' t' more
  after out s = record { at = record { laid = h.at.laid; bound = h.at.bound; long = let e = out.size in let l = h.at.long in omega arith; kept = out.after ∙ h.at.kept; starting = s } }

  node_rests : mode v ≡ dead → AtNodes ws never atom_never b k w t more
  unfolding waits
  node_rests d =
      after outside_none
      (node_idle (vertices (theory_of ws)) mode pred h.at.starting ((h.at.starting.new v (Memᴰ.head refl)).1 ∙ sym (ap (λ (m : Mode). waits m (length (pred v))) d)) (λ z. d) (λ u l n. refl))

  node_awaits : {n : ℕ} → waits (mode v) (length (pred v)) ≡ n → 0 < n → Outside b.dependencies b.body_nodes w (set w (b.dependencies + v) n) → AtNodes ws never atom_never b k (set w (b.dependencies + v) n) t more
  node_awaits {n} e p out =
      let r = node_ready in
      let same = count_same r.laid w r.long v n r.low in
      after out
      (rw (count_queue r.laid w r.long v n r.low t)
      (node_idle (vertices (theory_of ws)) mode pred h.at.starting (same ∙ sym e) (λ z. absurd (omega arith)) (λ u l d. count_other r.laid w r.long v n r.low u d)))

  node_pushes : waits (mode v) (length (pred v)) ≡ 0 → (mode v ≡ dead → ⊥) → Outside b.dependencies b.body_nodes w (set w (b.queue + t) v) → AtNodes ws never atom_never b k (set w (b.queue + t) v) (t + 1) more
  node_pushes e n out =
      let r = node_ready in
      let q = h.at.bound in
      after out
      (rw (push_queue r.laid w r.long t v node_fits)
      (node_found (vertices (theory_of ws)) mode pred h.at.starting e n (λ u l. push_count r.laid w r.long t v node_fits u (omega arith))))

-- ---- a node of the cone, by its start state i

-- the words behind the queue stay, whatever is started
pub nodes_stay : {ed : Edition} {ws : List ℕ} {never atom_never : Set} {b : Bases} → Stays (AtCone ed ws never atom_never b) b.body_nodes
nodes_stay k w w' t t' l l' h h' = h'.at.at.kept ∙ sym h.at.at.kept

module _ {ed : Edition} {ws : List ℕ} {never atom_never : Set} {b : Bases} {w : List ℕ} {t n : ℕ} (f : Follows (AtCone ed ws never atom_never b) w t (n ∷ [])) where
  pub cone_low : n < (theory_of ws).nodes
  cone_low = f.held.low n (f.held.cone n (Memᴰ.head refl))

  pub vertex_ready : Ready b w (b.atoms + n)
  vertex_ready = node_ready f.held.at

  pub vertex_fits : t < b.atoms + b.nodes
  vertex_fits = node_fits f.held.at

  abbrev Does : List ℕ → ℕ → Type 0
  Does w' t' = Drives (AtCone ed ws never atom_never b) b.dependencies w t (n ∷ []) w' t' []

  does : {w' : List ℕ} {t' : ℕ} → Outside b.dependencies b.body_nodes w w'
      → ((k : Coning) (more : List ℕ) → AtCone ed ws never atom_never b k w t (n ∷ more) → AtNodes ws never atom_never b k w' t' (as_vertices b more)) → Does w' t'
  does {w'} {t'} out step = record {
    frame = out.before;
    size = out.size;
    keeps = λ k more h. record {
      accepted = h.accepted;
      based = rw out.size h.based;
      flagged = flagged_kept h.based.laid w w' out.after h.flagged;
      low = h.low;
      cone = λ m i. h.cone m (Memᴰ.tail i);
      at = step k more h;
    };
  }

  waits_out : (c : ℕ) → Outside b.dependencies b.body_nodes w (set w (b.dependencies + (b.atoms + n)) c)
  waits_out c = let r = vertex_ready in let l = r.laid in let i = r.low in outside_set b.dependencies b.body_nodes w (b.dependencies + (b.atoms + n)) c (omega arith) (omega arith)

  push_out : Outside b.dependencies b.body_nodes w (set w (b.queue + t) (b.atoms + n))
  push_out = let r = vertex_ready in let l = r.laid in let i = vertex_fits in outside_set b.dependencies b.body_nodes w (b.queue + t) (b.atoms + n) (omega arith) (omega arith)

  -- whatever is marked, and whatever the cone: i is the start state by it
  module _ {i : Initial} (is : (marked cone : Set) → Flagged b w marked → Is (cone n) → i ≡ initial_at ws marked cone never atom_never n) where
    by : (k : Coning) (more : List ℕ) → AtCone ed ws never atom_never b k w t (n ∷ more) → i ≡ initial_at ws k.marked k.cone never atom_never n
    by k more h = is k.marked k.cone h.flagged (h.cone n (Memᴰ.head refl))

    pub inactive_rests : i ≡ Inactive → Does w t
    inactive_rests e = does outside_none (λ k more h. node_rests h.at (told_dead h.accepted k.marked k.cone never atom_never h.based n cone_low (by k more h) e))

    pub true_pushes : i ≡ True → Does (set w (b.queue + t) (b.atoms + n)) (t + 1)
    true_pushes e = does push_out (λ k more h. let r = told_true h.accepted k.marked k.cone never atom_never h.based n cone_low (by k more h) e in node_pushes h.at r.0 r.1 push_out)

    pub awaiting_pushes : {c : ℕ} → i ≡ Awaiting c → c ≡ 0 → Does (set w (b.queue + t) (b.atoms + n)) (t + 1)
    awaiting_pushes e z = does push_out (λ k more h. let r = told_waits h.accepted k.marked k.cone never atom_never h.based n cone_low (by k more h) e in node_pushes h.at (r.0 ∙ z) r.1 push_out)

    pub awaiting_waits : {c : ℕ} → i ≡ Awaiting c → (c ≡ 0 → ⊥) → Does (set w (b.dependencies + (b.atoms + n)) c) t
    awaiting_waits {c} e z = does (waits_out c) (λ k more h. node_awaits h.at (told_waits h.accepted k.marked k.cone never atom_never h.based n cone_low (by k more h) e).0 (omega arith) (waits_out c))

    pub awaiting_fits : {c : ℕ} → i ≡ Awaiting c → c ≤ 1 + ed.entries
    awaiting_fits e = let h = f.held in told_fits h.accepted f.ctx.marked f.ctx.cone never atom_never h.based n cone_low (by f.ctx f.more h) e

-- ---- the beginning, from one part to the next, and the end

starts : {ed : Edition} {ws : List ℕ} → Accepted ed ws → (never atom_never : Set) {b : Bases} {w : List ℕ} {nodes facts : ℕ} {marked cone : Set} → Based ws (length w) b → Prepared ws b w nodes facts marked cone
    → ((v : ℕ) → v < b.atoms + b.nodes → count_at b w v ≡ first_count marked atom_never v)
    → At b (pass_context ws never atom_never (record { marked = marked; cone = cone; behind = drop b.body_nodes w }) (as_vertices b (cone_nodes b w nodes))) w 0 (flat_map (theory_of ws).heads (fact_rows b w facts))
unfolding upto vertices theory_of
starts {ws = ws} acc never atom_never {b} {w} {nodes} {facts} {marked} {cone} base p filled = record {
  laid = base.laid;
  bound = let x = base.atoms in let y = base.nodes in omega arith;
  long = base.ends;
  kept = refl;
  starting =
      subst (λ (l : List ℕ). Starting (vertices (theory_of ws)) (pass_mode_among (theory_of ws) marked cone never atom_never) (preds (theory_of ws) everyone) (flat_map (theory_of ws).heads (fact_rows b w facts)) l [] (count_at b w))
      (ap (λ (k : ℕ). map (λ n. k + n) (cone_nodes b w nodes)) (sym base.atoms))
      (among_begin (theory_of ws) acc.well_formed marked cone never atom_never (λ a i. let l = p.flagged.low a i in let x = base.atoms in omega arith) p.listed.low
      (fact_rows b w facts) (cone_nodes b w nodes) p.stated.are p.listed.are (count_at b w) (λ v l. let x = base.atoms in let y = base.nodes in filled v (omega arith)) p.listed.once);
}

-- with the counts filled
module _ {ed : Edition} {lim : ℕ} {ws : List ℕ} (fit : Holds ed lim) (acc : Accepted ed ws) (never atom_never : Set) {b : Bases} {w w₁ : List ℕ} (base : Based ws (length w) b)
    (f : Filled b atom_never w w₁ (b.atoms + b.nodes)) where
  based_filled : Based ws (length w₁) b
  based_filled = rw f.outside.size base

  module _ {nodes facts : ℕ} (marked cone : Set) (p : Prepared ws b w nodes facts marked cone) where
    prepared_filled : Prepared ws b w₁ nodes facts marked cone
    prepared_filled = let l = base.laid in prepared_kept l w w₁ (behind_more b.queue w w₁ f.outside.after b.body_nodes (omega arith)) p

    coning : Coning
    coning = record { marked = marked; cone = cone; behind = drop b.body_nodes w₁ }

    context : Context
    context = pass_context ws never atom_never coning (as_vertices b (cone_nodes b w₁ nodes))

    held : AtFacts ed lim ws b context w₁ 0 (fact_rows b w₁ facts)
    unfolding context coning
    held = record {
      accepted = acc;
      low = λ q m. ((prepared_filled.stated.are q).0 m).0;
      at = (fits_word fit acc base, starts acc never atom_never based_filled prepared_filled (f.counts marked p.flagged));
    }

    pub facts_follow : Follows (AtFacts ed lim ws b) w₁ 0 (fact_rows b w₁ facts)
    facts_follow = follows_all (AtFacts ed lim ws b) held

    -- with every head of a fact met
    module _ {w₂ : List ℕ} {t : ℕ} (d : Drives (AtFacts ed lim ws b) b.dependencies w₁ 0 (fact_rows b w₁ facts) w₂ t []) where
      stated : AtFacts ed lim ws b context w₂ t []
      stated = drives_all (AtFacts ed lim ws b) held d

      stay : drop b.body_nodes w₂ ≡ drop b.body_nodes w₁
      stay = facts_behind context w₁ w₂ 0 t (fact_rows b w₁ facts) [] held stated

      started : AtCone ed ws never atom_never b coning w₂ t (cone_nodes b w₂ nodes)
      unfolding context coning flat_map
      started = let q = prepared_kept base.laid w₁ w₂ stay prepared_filled in record {
        accepted = acc;
        based = rw d.size based_filled;
        flagged = q.flagged;
        low = q.listed.low;
        cone = λ n m. (q.listed.are n).0 m;
        at = record { at = rw (ap (as_vertices b) (cone_same base.laid w₁ w₂ stay nodes)) stated.at.1 };
      }

      pub nodes_follow : Follows (AtCone ed ws never atom_never b) w₂ t (cone_nodes b w₂ nodes)
      nodes_follow = follows_all (AtCone ed ws never atom_never b) started

      ended : {w₃ : List ℕ} {t₃ : ℕ} → Drives (AtCone ed ws never atom_never b) b.dependencies w₂ t (cone_nodes b w₂ nodes) w₃ t₃ [] → AtCone ed ws never atom_never b coning w₃ t₃ []
      ended e = drives_all (AtCone ed ws never atom_never b) started e

  -- with every node started
  pub begun : {nodes facts : ℕ} (marked cone : Set) → Prepared ws b w nodes facts marked cone → {w₂ : List ℕ} {t : ℕ} → Drives (AtFacts ed lim ws b) b.dependencies w₁ 0 (fact_rows b w₁ facts) w₂ t []
      → {w₃ : List ℕ} {t₃ : ℕ} → Drives (AtCone ed ws never atom_never b) b.dependencies w₂ t (cone_nodes b w₂ nodes) w₃ t₃ [] → Begun ws never atom_never b w w₃ nodes facts t₃
  unfolding coning
  begun marked cone p d {w₃} e = record {
    outside = record {
      size = e.size ∙ d.size ∙ f.outside.size;
      before = e.frame ∙ d.frame ∙ f.outside.before;
      after = let l = base.laid in (ended marked cone p d e).at.at.kept ∙ behind_more b.queue w w₁ f.outside.after b.body_nodes (omega arith);
    };
    started = λ marked cone p. starting_end (vertices (theory_of ws)) (pass_mode_among (theory_of ws) marked cone never atom_never) (preds (theory_of ws) everyone) (ended marked cone p d e).at.at.starting;
  }
