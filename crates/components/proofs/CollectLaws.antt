-- An entry that is collected, on the words: met already or outside, or new.
use mathlib.Core.Path.{◌≡◌, refl, sym, ap, ◌∙◌}
use mathlib.Core.Logic.{◌≢◌}
use mathlib.Core.List.{List, [], ◌∷◌}
use Prim.Native.Nat.{ℕ, suc, ◌+◌, ◌-◌, ◌<◌}
use native.Mathlib.Omega.{arith}
use lib.ListN.{get_or, drop, length-set, length-append}
use lib.Seq.{get_or-drop}
use Rattle.theory.specs.Prefix.{between}
use Rattle.theory.proofs.PrefixLaws.{upto_length, upto_same, between_length, between_same}
use Rattle.theory.proofs.CollectLaws.{entry_low, entry_met, entry_room, entry_fresh}
use Rattle.theory.specs.Drive.{Follows, Drives}
use Rattle.area.specs.declared.Bases.{Bases}
use Rattle.area.specs.Views.{mark_of, queued}
use Rattle.rows.proofs.TurnLaws.{Ready}
use Rattle.components.specs.Gathering.{Ctx, Gathering}
use Rattle.components.proofs.MeetLaws.{met, met_size, met_frame, met_past, met_before, met_last, met_mark, met_others}

module _ {lim : ℕ} {b : Bases} {w : List ℕ} {t v : ℕ} where
  module _ {c : Ctx} {todo : List ℕ} (h : Gathering lim b c w t (v ∷ todo)) where
    low : v < b.atoms + b.nodes
    low = entry_low (b.atoms + b.nodes) c.pred c.graph h.within h.collecting

    held_met : get_or w (mark_of b v) 0 ≢ 2 → Gathering lim b c w t todo
    held_met n = record {
      laid = h.laid;
      long = h.long;
      small = h.small;
      kept = h.kept;
      fore = h.fore;
      front = h.front;
      within = h.within;
      after = h.after;
      collecting = entry_met (b.atoms + b.nodes) c.pred c.graph h.within h.collecting n;
    }

    module _ (two : get_or w (mark_of b v) 0 ≡ 2) where
      room : t < b.atoms + b.nodes
      room =
          let k = entry_room (b.atoms + b.nodes) c.pred c.graph h.within h.collecting two in
          let a = h.after in
          omega (arith, length-append (between c.from (t - c.from) (drop b.queue w)) (queued b w c.from), between_length c.from (t - c.from) (drop b.queue w), upto_length c.from (drop b.queue w))

      -- the words of the queue before its end stay
      before : (i : ℕ) → i < t → get_or (drop b.queue (met b w t v)) i 0 ≡ get_or (drop b.queue w) i 0
      before i l = get_or-drop b.queue (met b w t v) i 0 ∙ met_before h.laid w t v room low i l ∙ sym (get_or-drop b.queue w i 0)

      here : get_or (drop b.queue (met b w t v)) t 0 ≡ v
      here = get_or-drop b.queue (met b w t v) t 0 ∙ met_last h.laid w t v room low h.long

      more : between c.from (t + 1 - c.from) (drop b.queue (met b w t v)) ≡ v ∷ between c.from (t - c.from) (drop b.queue w)
      unfolding between
      more =
          let a = h.after in
          let e : t + 1 - c.from ≡ suc (t - c.from) = omega arith in
          let k : c.from + (t - c.from) ≡ t = omega arith in
          ap (λ (z : ℕ). between c.from z (drop b.queue (met b w t v))) e
          ∙ ap (λ (x : ℕ). x ∷ between c.from (t - c.from) (drop b.queue (met b w t v))) (ap (λ (z : ℕ). get_or (drop b.queue (met b w t v)) z 0) k ∙ here)
          ∙ ap (λ (x : List ℕ). v ∷ x) (between_same c.from (t - c.from) _ (drop b.queue w) (λ i l. before i (omega arith)))

      held_fresh : Gathering lim b c (met b w t v) (t + 1) todo
      held_fresh = record {
        laid = h.laid;
        long = rw (length-set, length-set) h.long;
        small = h.small;
        kept = λ i l. met_past h.laid w t v room low i l ∙ h.kept i l;
        fore = let a = h.fore in omega arith;
        front = λ i l. let a = h.fore in met_before h.laid w t v room low i (omega arith) ∙ h.front i l;
        within = h.within;
        after = let a = h.after in omega arith;
        collecting =
            let a = h.after in
            rw (more, upto_same c.from (drop b.queue (met b w t v)) (drop b.queue w) (λ i l. before i (omega arith)))
            (entry_fresh (b.atoms + b.nodes) c.pred c.graph h.within h.collecting two (met_mark h.laid w t v room low h.long) (met_others h.laid w t v room low h.long));
      }

  -- ---- as the function sees it

  module _ (f : Follows (Gathering lim b) w t (v ∷ [])) where
    pub collect_ready : Ready lim b w v
    collect_ready = record { laid = f.held.laid; long = f.held.long; small = f.held.small; low = low f.held }

    pub collect_room : get_or w (mark_of b v) 0 ≡ 2 → t < b.atoms + b.nodes
    collect_room e = room f.held e

    pub collect_fresh : get_or w (mark_of b v) 0 ≡ 2 → Drives (Gathering lim b) b.states w t (v ∷ []) (met b w t v) (t + 1) []
    collect_fresh e =
        let l = f.held.laid in let k = low f.held in let r = collect_room e in
        record { frame = met_frame l w t v r k; size = met_size l w t v r k; keeps = λ c more h. held_fresh h e }

  pub collect_met : get_or w (mark_of b v) 0 ≢ 2 → Drives (Gathering lim b) b.states w t (v ∷ []) w t []
  collect_met n = record { frame = refl; size = refl; keeps = λ c more h. held_met h n }
