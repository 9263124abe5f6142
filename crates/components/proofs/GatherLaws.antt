-- A search of the second walk on the words: the root, a member's row begun and followed, and the component at its end.
use mathlib.Core.Path.{◌≡◌, refl, sym, ap, ◌∙◌}
use mathlib.Core.Logic.{◌⊎◌, inl, inr, ◌≢◌}
use mathlib.Core.List.Memᴰ
use mathlib.Core.List.{List, [], ◌∷◌}
use Prim.Native.Nat.{ℕ, ◌+◌, ◌-◌, ◌≤◌, ◌<◌}
use native.Mathlib.Omega.{arith}
use native.Mathlib.Numerals.{add-one}
use lib.ListN.{length, get_or, drop, length-set}
use lib.Seq.{get_or-drop}
use Rattle.theory.specs.Sets.{Is, Mem, everyone}
use Rattle.theory.specs.Words.{theory_of}
use Rattle.theory.specs.Accepted.{Accepted, Edition}
use Rattle.theory.specs.Edges.{vertices, preds, in_graph, cone_preds}
use Rattle.theory.specs.Rows.{succs}
use Rattle.theory.specs.Search.{Within, Swept}
use Rattle.theory.specs.Prefix.{upto, between}
use Rattle.theory.proofs.CountLaws.{occ_mem, mem_occ}
use Rattle.theory.proofs.RowLaws.{succs_preds, succs_low}
use Rattle.theory.proofs.ConeLaws.{cone_within, preds_cone}
use Rattle.theory.proofs.CollectLaws.{root_new, met_room, swept_known, collect_begin}
use Rattle.theory.proofs.PrefixLaws.{upto_same, upto_length}
use Rattle.graph.proofs.DecodeLaws.{the_atoms, the_nodes}
use Rattle.area.specs.declared.Bases.{Bases}
use Rattle.area.specs.Layout.{Based}
use Rattle.area.specs.Views.{mark_of, mark_in, queued}
use Rattle.components.specs.Classes.{Classifying, Kept, Gathered, Searched, ordered}
use Rattle.components.proofs.MeetLaws.{met, met_size, met_frame, met_past, met_before, met_last, met_mark, met_others}

-- the queue and the order as lists, in words that agree on them
pub queued_same : (b : Bases) (n : ℕ) (w w' : List ℕ) → ((i : ℕ) → i < n → get_or w' (b.queue + i) 0 ≡ get_or w (b.queue + i) 0) → queued b w' n ≡ queued b w n
queued_same b n w w' h = upto_same n (drop b.queue w') (drop b.queue w) (λ i l. get_or-drop b.queue w' i 0 ∙ h i l ∙ sym (get_or-drop b.queue w i 0))

pub ordered_same : (b : Bases) (n : ℕ) (w w' : List ℕ) → ((i : ℕ) → i < n → get_or w' (b.body_nodes + i) 0 ≡ get_or w (b.body_nodes + i) 0) → ordered b w' n ≡ ordered b w n
ordered_same b n w w' h = upto_same n (drop b.body_nodes w') (drop b.body_nodes w) (λ i l. get_or-drop b.body_nodes w' i 0 ∙ h i l ∙ sym (get_or-drop b.body_nodes w i 0))

pub small : (lim : ℕ) {ed : Edition} {ws : List ℕ} {b : Bases} {words : ℕ} → Accepted ed ws → Based ws words b → ed.counts + ed.counts < lim → b.atoms + b.nodes < lim
small lim acc based fits = let x = acc.atoms_few in let y = acc.nodes_few in let p = based.atoms in let q = based.nodes in omega arith

module _ {ws : List ℕ} {ed : Edition} (acc : Accepted ed ws) {b : Bases} {words : ℕ} (based : Based ws words b) where
  pub count : vertices (theory_of ws) ≡ b.atoms + b.nodes
  unfolding vertices
  count = let x = the_atoms ws in let y = the_nodes ws in let p = based.atoms in let q = based.nodes in omega arith

  pub within : Within (b.atoms + b.nodes) (cone_preds (theory_of ws)) (in_graph (theory_of ws))
  within = rw count at (cone_within (theory_of ws) acc.well_formed)

  -- the row of a vertex: every edge of preparation is in it, and what of it is in the graph is one
  pub row_all : (u y : ℕ) → Mem u (cone_preds (theory_of ws) y) → Mem y (succs (theory_of ws) u)
  unfolding vertices
  row_all u y m =
      let t = within.to u y m in
      let l = t.1 in
      let e = count in
      let o = succs_preds (theory_of ws) acc.well_formed u y (omega arith) in
      let k = occ_mem (rw (preds_cone (theory_of ws) y t.0) at m) in
      mem_occ y (succs (theory_of ws) u) (omega arith)

  pub row_edges : (u y : ℕ) → Mem y (succs (theory_of ws) u) → (y < b.atoms + b.nodes) × (Is (in_graph (theory_of ws) y) → Mem u (cone_preds (theory_of ws) y))
  unfolding vertices
  row_edges u y m =
      let l = succs_low (theory_of ws) acc.well_formed u y m in
      let e = count in (
        omega arith,
        λ g.
            let o = succs_preds (theory_of ws) acc.well_formed u y l in
            let k = occ_mem m in
            rw (preds_cone (theory_of ws) y g) (mem_occ u (preds (theory_of ws) everyone y) (omega arith)),
      )

  module _ {w : List ℕ} (n : ℕ) {found : ℕ} (s : Classifying ws b w (n + 1) found) where
    cons : ordered b w (n + 1) ≡ get_or w (b.body_nodes + n) 0 ∷ ordered b w n
    unfolding upto
    cons = rw (add-one n, get_or-drop b.body_nodes w n 0)

    swept : Swept (b.atoms + b.nodes) (cone_preds (theory_of ws)) (in_graph (theory_of ws)) (get_or w (b.body_nodes + n) 0 ∷ ordered b w n) (queued b w found) (mark_in b w)
    swept = rw cons at s.swept

    pub root_in : Is (in_graph (theory_of ws) (get_or w (b.body_nodes + n) 0)) × (get_or w (b.body_nodes + n) 0 < b.atoms + b.nodes)
    root_in = s.roots (get_or w (b.body_nodes + n) 0) (rw cons (Memᴰ.head refl))

    -- what is left after this root
    pub left : (v : ℕ) → Mem v (ordered b w n) → Is (in_graph (theory_of ws) v) × (v < b.atoms + b.nodes)
    left v m = s.roots v (rw cons (Memᴰ.tail m))

    -- it is met already
    pub gather_known : get_or w (mark_of b (get_or w (b.body_nodes + n) 0)) 0 ≢ 2 → Gathered ws b w w n found found
    gather_known k = record {
      kept = record { size = refl; tables = refl; past = λ i l. refl };
      state = record { tables = s.tables; roots = left; fits = let f = s.fits in omega arith; swept = swept_known (b.atoms + b.nodes) _ _ within swept root_in.1 (three (swept.unmet _ root_in.1 root_in.0)) };
      after = omega arith;
      front = λ i l. refl;
      members = λ i l h. absurd (omega arith);
    }
      where
        three : (mark_in b w (get_or w (b.body_nodes + n) 0) ≡ 2) ⊎ (mark_in b w (get_or w (b.body_nodes + n) 0) ≡ 3) → mark_in b w (get_or w (b.body_nodes + n) 0) ≡ 3
        three (inl e) = absurd (k e)
        three (inr e) = e

    module _ (two : get_or w (mark_of b (get_or w (b.body_nodes + n) 0)) 0 ≡ 2) where
      -- there is room on the queue
      pub root_room : found < b.atoms + b.nodes
      root_room =
          let r = met_room (b.atoms + b.nodes) (cone_preds (theory_of ws)) (in_graph (theory_of ws)) within (get_or w (b.body_nodes + n) 0) (queued b w found) swept.once swept.low root_in.1 (root_new (b.atoms + b.nodes) _ _ within swept root_in.1 two) in
          omega (arith, upto_length found (drop b.queue w))

      module _ {lim : ℕ} (long : b.end ≤ length w) (small : b.atoms + b.nodes < lim) (x : ℕ) (ex : x ≡ get_or w (b.body_nodes + n) 0) where
        low : x < b.atoms + b.nodes
        low = rw ex root_in.1

        one : between found (found + 1 - found) (drop b.queue (met b w found x)) ≡ x ∷ []
        unfolding between
        one =
            let e : found + 1 - found ≡ 1 = omega arith in
            let z : found + 0 ≡ found = omega arith in
            ap (λ (k : ℕ). between found k (drop b.queue (met b w found x))) e
            ∙ ap (λ (y : ℕ). y ∷ []) (ap (λ (k : ℕ). get_or (drop b.queue (met b w found x)) k 0) z ∙ get_or-drop b.queue (met b w found x) found 0 ∙ met_last based.laid w found x root_room low long)

        none : between found (found - found) (drop b.queue (met b w found x)) ≡ []
        unfolding between
        none = let e : found - found ≡ 0 = omega arith in ap (λ (k : ℕ). between found k (drop b.queue (met b w found x))) e

        kept₁ : Kept b w (met b w found x)
        kept₁ =
            let d = based.laid in
            record { size = met_size d w found x root_room low; tables = met_frame d w found x root_room low; past = met_past d w found x root_room low }

        pub gather_start : Searched lim ws b w (met b w found x) n found found (found + 1)
        gather_start = record {
          kept = kept₁;
          after = omega arith;
          ahead = omega arith;
          front = met_before based.laid w found x root_room low;
          held = record {
            laid = based.laid;
            long = rw (length-set, length-set) long;
            small = small;
            kept = λ i l. refl;
            fore = omega arith;
            front = λ i l. refl;
            within = within;
            after = omega arith;
            collecting = rw (one, none, queued_same b found w (met b w found x) (met_before based.laid w found x root_room low), ← ex)
                (collect_begin (b.atoms + b.nodes) _ _ within (rw (← ex) at swept) low (rw (← ex) at two) (met_mark based.laid w found x root_room low long) (met_others based.laid w found x root_room low long));
          };
        }
