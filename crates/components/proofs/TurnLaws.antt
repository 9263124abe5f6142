-- A search of the second walk goes on, member by member, and ends with a component.
use mathlib.Core.Path.{◌≡◌, refl, sym, ap, ap₂, ◌∙◌}
use mathlib.Core.Logic.{◌≢◌}
use mathlib.Core.List.Memᴰ
use mathlib.Core.List.{List, [], ◌∷◌, ◌++◌}
use Prim.Native.Nat.{ℕ, suc, ◌+◌, ◌-◌, ◌≤◌, ◌<◌}
use native.Mathlib.Omega.{arith}
use lib.ListN.{length, get_or, drop, length-append}
use lib.Seq.{get_or-drop}
use Rattle.theory.specs.Sets.{Mem}
use Rattle.theory.specs.Words.{theory_of}
use Rattle.theory.specs.Accepted.{Accepted, Edition}
use Rattle.theory.specs.Edges.{body_cone, in_graph, cone_preds}
use Rattle.theory.specs.Rows.{succs}
use Rattle.theory.specs.Search.{Collecting}
use Rattle.theory.specs.Prefix.{upto, between}
use Rattle.theory.specs.Drive.{Follows, Drives}
use Rattle.theory.proofs.CountLaws.{pigeonhole}
use Rattle.theory.proofs.ConeLaws.{no_self}
use Rattle.theory.proofs.CollectLaws.{collect_row, collect_end, members_cyclic}
use Rattle.theory.proofs.PrefixLaws.{upto_length, between_same, between_length, upto_split, between_mem}
use Rattle.theory.proofs.DriveLaws.{follows_all, drives_all}
use Rattle.graph.proofs.DecodeLaws.{the_atoms}
use Rattle.area.specs.declared.Bases.{Bases}
use Rattle.area.specs.Layout.{Laid, Based}
use Rattle.area.specs.Views.{mark_of, mark_in, queued}
use Rattle.rows.specs.Rows.{Tables}
use Rattle.rows.proofs.VertexLaws.{tables_same}
use Rattle.components.specs.Gathering.{Gathering}
use Rattle.components.specs.Classes.{Classifying, Kept, Gathered, Searched, ordered, ctx_of}
use Rattle.components.proofs.MeetLaws.{met}
use Rattle.components.proofs.GatherLaws.{row_all, row_edges, ordered_same, left, small, root_in, root_room, gather_known, gather_start}

module _ {ws : List ℕ} {ed : Edition} (acc : Accepted ed ws) {b : Bases} {words : ℕ} (based : Based ws words b) {lim : ℕ} {w₀ w : List ℕ} {n found head tail : ℕ} (r : Searched lim ws b w₀ w n found head tail) where
  g : Gathering lim b (ctx_of ws b w₀ n found (between found (head - found) (drop b.queue w)) w tail) w tail []
  g = r.held

  c : Collecting (b.atoms + b.nodes) (cone_preds (theory_of ws)) (in_graph (theory_of ws)) (get_or w₀ (b.body_nodes + n) 0) (ordered b w₀ n) (queued b w found) (between found (tail - found) (drop b.queue w)) (between found (head - found) (drop b.queue w)) [] (mark_in b w)
  c = g.collecting

  pub tail_low : tail ≤ b.atoms + b.nodes
  tail_low =
      let p = pigeonhole (b.atoms + b.nodes) (between found (tail - found) (drop b.queue w) ++ queued b w found) c.once c.low in
      let a = r.after in let k = r.ahead in
      omega (arith, length-append (between found (tail - found) (drop b.queue w)) (queued b w found), between_length found (tail - found) (drop b.queue w), upto_length found (drop b.queue w))

  module _ (h : head < tail) {v : ℕ} (ev : v ≡ get_or w (b.queue + head) 0) where
    at_head : get_or (drop b.queue w) head 0 ≡ v
    at_head = get_or-drop b.queue w head 0 ∙ sym ev

    member : Mem v (between found (tail - found) (drop b.queue w))
    member = let a = r.after in rw at_head at (between_mem found (tail - found) head (drop b.queue w) a (omega arith))

    pub head_low : v < b.atoms + b.nodes
    head_low = c.low v (Memᴰ.append_left (queued b w found) member)

    begun : Gathering lim b (ctx_of ws b w₀ n found (v ∷ between found (head - found) (drop b.queue w)) w tail) w tail (succs (theory_of ws) v)
    begun = record {
      laid = r.held.laid;
      long = r.held.long;
      small = r.held.small;
      kept = λ i l. refl;
      fore = omega arith;
      front = λ i l. refl;
      within = g.within;
      after = g.after;
      collecting = collect_row (b.atoms + b.nodes) (cone_preds (theory_of ws)) (in_graph (theory_of ws)) g.within c v member (succs (theory_of ws) v) (row_all acc based v) (row_edges acc based v);
    }

    pub turn_follows : Follows (Gathering lim b) w tail (succs (theory_of ws) v)
    turn_follows = follows_all (Gathering lim b) begun

    module _ {w' : List ℕ} {t' : ℕ} (d : Drives (Gathering lim b) b.states w tail (succs (theory_of ws) v) w' t' []) where
      k : Gathering lim b (ctx_of ws b w₀ n found (v ∷ between found (head - found) (drop b.queue w)) w tail) w' t' []
      k = drives_all (Gathering lim b) begun d

      same : (i : ℕ) → i < tail → get_or (drop b.queue w') i 0 ≡ get_or (drop b.queue w) i 0
      same i l = get_or-drop b.queue w' i 0 ∙ k.front i l ∙ sym (get_or-drop b.queue w i 0)

      one_more : between found (head + 1 - found) (drop b.queue w') ≡ v ∷ between found (head - found) (drop b.queue w)
      unfolding between
      one_more =
          let a = r.after in
          let e : head + 1 - found ≡ suc (head - found) = omega arith in
          let z : found + (head - found) ≡ head = omega arith in
          ap (λ (x : ℕ). between found x (drop b.queue w')) e
          ∙ ap₂ (λ (x : ℕ) (l : List ℕ). x ∷ l) (ap (λ (x : ℕ). get_or (drop b.queue w') x 0) z ∙ same head h ∙ at_head) (between_same found (head - found) (drop b.queue w') (drop b.queue w) (λ i l. same i (omega arith)))

      pub turn_next : Searched lim ws b w₀ w' n found (head + 1) t'
      turn_next =
          let a = r.after in let f = k.fore in let l = r.held.laid in
          record {
            kept = record {
              size = d.size ∙ r.kept.size;
              tables = d.frame ∙ r.kept.tables;
              past = λ i p. k.kept i p ∙ r.kept.past i p;
            };
            after = omega arith;
            ahead = omega arith;
            front = λ i p. k.front i (omega arith) ∙ r.front i p;
            held = record {
              laid = k.laid;
              long = k.long;
              small = k.small;
              kept = λ i p. refl;
              fore = omega arith;
              front = λ i p. refl;
              within = k.within;
              after = k.after;
              collecting = rw one_more k.collecting;
            };
          }

  -- every member's row is followed
  module _ (h : tail ≤ head) (s : Classifying ws b w₀ (n + 1) found) where
    all : (v : ℕ) → Mem v (between found (tail - found) (drop b.queue w)) → Mem v (between found (head - found) (drop b.queue w))
    all v m = let a = r.ahead in let e : tail - found ≡ head - found = omega arith in rw e at m

    whole : queued b w tail ≡ between found (tail - found) (drop b.queue w) ++ queued b w found
    whole = let a = r.after in let q = r.ahead in let e : found + (tail - found) ≡ tail = omega arith in ap (λ (x : ℕ). upto x (drop b.queue w)) (sym e) ∙ upto_split found (tail - found) (drop b.queue w)

    order_same : ordered b w n ≡ ordered b w₀ n
    order_same = ordered_same b n w₀ w (λ i p. r.kept.past (b.body_nodes + i) (omega arith))

    pub gather_end : Gathered ws b w₀ w n found tail
    gather_end = record {
      kept = r.kept;
      state = record {
        tables = tables_same r.kept.tables r.kept.size s.tables;
        roots = λ v m. left acc based n s v (rw order_same at m);
        fits = let f = s.fits in omega arith;
        swept = rw (whole, order_same) (collect_end (b.atoms + b.nodes) (cone_preds (theory_of ws)) (in_graph (theory_of ws)) g.within c all);
      };
      after = let a = r.after in let q = r.ahead in omega arith;
      front = r.front;
      members = λ i p q l.
          let a = r.after in let z = r.ahead in
          let e = get_or-drop b.queue w i 0 in
          let t : get_or w (b.queue + i) 0 < (theory_of ws).atoms = let x = the_atoms ws in let y = based.atoms in omega arith in
          rw (between_length found (tail - found) (drop b.queue w)) at
          (members_cyclic (b.atoms + b.nodes) (cone_preds (theory_of ws)) (in_graph (theory_of ws)) g.within c all (get_or w (b.queue + i) 0)
          (rw e at (between_mem found (tail - found) i (drop b.queue w) p (omega arith))) (no_self (theory_of ws) (body_cone (theory_of ws)) (get_or w (b.queue + i) 0) t));
    }

-- ---- a search against the words that it began in, or those before its root was met

module _ {b : Bases} (laid : Laid b) {w₀ w₁ : List ℕ} (k : Kept b w₀ w₁) (n : ℕ) (fits : n + 1 ≤ b.atoms + b.nodes) where
  root_same : get_or w₁ (b.body_nodes + n) 0 ≡ get_or w₀ (b.body_nodes + n) 0
  root_same = k.past (b.body_nodes + n) (omega arith)

  order_kept : ordered b w₁ n ≡ ordered b w₀ n
  order_kept = ordered_same b n w₀ w₁ (λ i l. k.past (b.body_nodes + i) (omega arith))

  pub search_restart : {lim : ℕ} {ws : List ℕ} {found : ℕ} → Searched lim ws b w₀ w₁ n found found (found + 1) → Searched lim ws b w₁ w₁ n found found (found + 1)
  search_restart r = record {
    kept = record { size = refl; tables = refl; past = λ i l. refl };
    after = r.after;
    ahead = r.ahead;
    front = λ i l. refl;
    held = rw (root_same, order_kept) r.held;
  }

  pub search_join : {lim : ℕ} {ws w₂ : List ℕ} {found head tail : ℕ} → ((i : ℕ) → i < found → get_or w₁ (b.queue + i) 0 ≡ get_or w₀ (b.queue + i) 0) → Searched lim ws b w₁ w₂ n found head tail → Searched lim ws b w₀ w₂ n found head tail
  search_join front r = record {
    kept = record {
      size = r.kept.size ∙ k.size;
      tables = r.kept.tables ∙ k.tables;
      past = λ i l. r.kept.past i l ∙ k.past i l;
    };
    after = r.after;
    ahead = r.ahead;
    front = λ i l. r.front i l ∙ front i l;
    held = rw (root_same, order_kept) at r.held;
  }

-- ---- the search from the root x at place n of the order, as `gather` sees it

module _ {ws : List ℕ} {ed : Edition} (acc : Accepted ed ws) {b : Bases} {w : List ℕ} (based : Based ws (length w) b) (n : ℕ) {found : ℕ} (s : Classifying ws b w (n + 1) found) where
  module _ {x : ℕ} (ex : x ≡ get_or w (b.body_nodes + n) 0) where
    pub root_place : (mark_of b x < b.end) × (b.end ≤ length w)
    root_place = let l = based.laid in let r = (root_in acc based n s).1 in (omega arith, based.ends)

    pub root_known : get_or w (mark_of b x) 0 ≢ 2 → Gathered ws b w w n found found
    root_known k = gather_known acc based n s (rw ex at k)

    module _ (two : get_or w (mark_of b x) 0 ≡ 2) where
      pub queue_place : (b.queue + found < b.end) × (b.end ≤ length w)
      queue_place = let l = based.laid in let r = root_room acc based n s (rw ex at two) in (omega arith, based.ends)

      module _ {lim : ℕ} (fits : ed.counts + ed.counts < lim) where
        opened : Searched lim ws b w (met b w found x) n found found (found + 1)
        opened = gather_start acc based n s (rw ex at two) based.ends (small lim acc based fits) x ex

        -- what `follow` asks
        pub root_followed : Accepted ed ws × Based ws (length (met b w found x)) b × Tables (theory_of ws) b (met b w found x) × Searched lim ws b (met b w found x) (met b w found x) n found found (found + 1)
        root_followed = (acc, rw opened.kept.size based, tables_same opened.kept.tables opened.kept.size s.tables, search_restart based.laid opened.kept n s.fits opened)

        pub root_gathered : {w₂ : List ℕ} {t : ℕ} → Searched lim ws b (met b w found x) w₂ n found t t → Gathered ws b w w₂ n found t
        root_gathered r = gather_end acc based (search_join based.laid opened.kept n s.fits opened.front r) (omega arith) s
