-- An entry that is settled, on the words: nothing left to wait for, something left, or the last thing.
use mathlib.Core.Path.{◌≡◌, refl, sym, ap, ◌∙◌}
use mathlib.Core.Logic.{◌≢◌}
use mathlib.Core.List.{List, [], ◌∷◌, ◌++◌}
use Prim.Native.Nat.{ℕ, zero, suc, ◌+◌, ◌-◌, ◌≤◌, ◌<◌}
use native.Mathlib.Omega.{arith}
use mir.Val.{bool_byte}
use borrow.Author.Tests.{lt-ltb}
use lib.Dec.{ltb}
use lib.ListN.{length, get_or, set, drop, length-set, length-append}
use lib.Seq.{set-get_or, get_or-set_other, take-set-le}
use Rattle.theory.proofs.PrefixLaws.{upto_length}
use Rattle.theory.specs.Worklist.{Worklist}
use Rattle.theory.proofs.WorklistLaws.{entry_low, entry_idle, entry_count, entry_found, entry_room}
use Rattle.theory.specs.Drive.{Follows, Drives}
use Rattle.area.specs.declared.Bases.{Bases}
use Rattle.area.specs.Views.{count_at, queued, Outside}
use Rattle.area.proofs.PartLaws.{outside_then, outside_set}
use Rattle.area.proofs.ViewLaws.{count_same, count_other, count_queue, push_count, push_queue}
use Rattle.events.specs.Held.{Ctx, Held}
use Rattle.rows.proofs.TurnLaws.{Ready}

-- one if there is something to wait for
pub one_of : (n : ℕ) → bool_byte (ltb 0 n) ≡ n - (n - 1)
one_of zero = refl
one_of (suc n) = rw (lt-ltb 0 (suc n) (omega arith)) (omega arith)

module _ {lim : ℕ} {b : Bases} {w : List ℕ} {t v : ℕ} where
  module _ {c : Ctx} {todo : List ℕ} (h : Held lim b c w t (v ∷ todo)) where
    list : Worklist (b.atoms + b.nodes) c.mode c.pred (queued b w t ++ c.aside) c.done (v ∷ todo) (count_at b w)
    list = h.settling

    low : v < b.atoms + b.nodes
    low = entry_low (b.atoms + b.nodes) c.mode c.pred list

    held_idle : get_or w (b.dependencies + v) 0 ≡ 0 → Held lim b c w t todo
    held_idle z = record {
      laid = h.laid;
      long = h.long;
      small = h.small;
      fore = h.fore;
      front = h.front;
      outside = h.outside;
      settling = entry_idle (b.atoms + b.nodes) c.mode c.pred list z;
    }

    module _ (n : ℕ) (en : n + 1 ≡ get_or w (b.dependencies + v) 0) where
      here : count_at b (set w (b.dependencies + v) n) v ≡ n
      here = count_same h.laid w h.long v n low

      fewer : count_at b w v ≡ suc (count_at b (set w (b.dependencies + v) n) v)
      fewer = rw here (omega arith)

      others : (x : ℕ) → x < b.atoms + b.nodes → x ≢ v → count_at b (set w (b.dependencies + v) n) x ≡ count_at b w x
      others x l k = count_other h.laid w h.long v n low x k

      lessened : Outside b.dependencies b.body_nodes w (set w (b.dependencies + v) n)
      lessened = let q = h.laid in let x = low in outside_set b.dependencies b.body_nodes w (b.dependencies + v) n (omega arith) (omega arith)

      held_count : 0 < n → Held lim b c (set w (b.dependencies + v) n) t todo
      held_count p = record {
        laid = h.laid;
        long = rw length-set h.long;
        small = h.small;
        fore = h.fore;
        front = λ i l. let q = h.laid in let x = low in get_or-set_other w (b.dependencies + v) (b.queue + i) n 0 (λ e. omega arith) ∙ h.front i l;
        outside = outside_then h.outside lessened;
        settling = rw (count_queue h.laid w h.long v n low t) (entry_count (b.atoms + b.nodes) c.mode c.pred list (count_at b (set w (b.dependencies + v) n)) fewer others (rw here p));
      }

      room : t < b.atoms + b.nodes
      room =
          let k = entry_room (b.atoms + b.nodes) c.mode c.pred list (count_at b (set w (b.dependencies + v) n)) fewer others in
          omega (arith, upto_length t (drop b.queue w), length-append (queued b w t) c.aside)

      -- the counts after the vertex is on the queue
      beyond : (x : ℕ) → x < b.atoms + b.nodes → count_at b (set (set w (b.dependencies + v) n) (b.queue + t) v) x ≡ count_at b (set w (b.dependencies + v) n) x
      beyond x l = push_count h.laid (set w (b.dependencies + v) n) (rw length-set h.long) t v room x l

      held_found : n ≡ 0 → Held lim b c (set (set w (b.dependencies + v) n) (b.queue + t) v) (t + 1) todo
      held_found z = record {
        laid = h.laid;
        long = rw (length-set, length-set) h.long;
        small = h.small;
        fore = let a = h.fore in omega arith;
        front = λ i l.
            let q = h.laid in let x = low in let a = h.fore in
            get_or-set_other (set w (b.dependencies + v) n) (b.queue + t) (b.queue + i) v 0 (λ e. omega arith) ∙ get_or-set_other w (b.dependencies + v) (b.queue + i) n 0 (λ e. omega arith) ∙ h.front i l;
        outside =
            let q = h.laid in let x = room in
            outside_then (outside_then h.outside lessened) (outside_set b.dependencies b.body_nodes (set w (b.dependencies + v) n) (b.queue + t) v (omega arith) (omega arith));
        settling =
            rw (push_queue h.laid (set w (b.dependencies + v) n) (rw length-set h.long) t v room, count_queue h.laid w h.long v n low t)
            (entry_found (b.atoms + b.nodes) c.mode c.pred list (count_at b (set (set w (b.dependencies + v) n) (b.queue + t) v))
            (rw (beyond v low) fewer) (λ x l k. beyond x l ∙ others x l k) (beyond v low ∙ here ∙ z));
      }

  -- ---- as the function sees it

  module _ (f : Follows (Held lim b) w t (v ∷ [])) where
    pub ready : Ready lim b w v
    ready = record { laid = f.held.laid; long = f.held.long; small = f.held.small; low = low f.held }

    settle_count : (n : ℕ) → n + 1 ≡ get_or w (b.dependencies + v) 0 → 0 < n → Drives (Held lim b) b.states w t (v ∷ []) (set w (b.dependencies + v) n) t []
    settle_count n e p =
        let r = ready in let l = r.laid in
        record {
          frame = take-set-le b.states w (b.dependencies + v) n (omega arith);
          size = length-set w (b.dependencies + v) n;
          keeps = λ c more h. held_count h n e p;
        }

    -- not the last thing: a count of nothing is stored as it was
    pub settle_wait : (n : ℕ) → n ≡ get_or w (b.dependencies + v) 0 → n ≢ 1 → (m : ℕ) → m ≡ n - 1 → Drives (Held lim b) b.states w t (v ∷ []) (set w (b.dependencies + v) m) t []
    settle_wait zero e k m q =
        let z : m ≡ get_or w (b.dependencies + v) 0 = omega arith in
        rw (ap (set w (b.dependencies + v)) z ∙ set-get_or w (b.dependencies + v) 0) (record { frame = refl; size = refl; keeps = λ c more h. held_idle h (sym e) })
    settle_wait (suc n) e k m q = settle_count m (omega arith) (omega arith)

    module _ (e : get_or w (b.dependencies + v) 0 ≡ 1) where
      pub settle_room : t < b.atoms + b.nodes
      settle_room = room f.held 0 (sym e)

      pub settle_found : Drives (Held lim b) b.states w t (v ∷ []) (set (set w (b.dependencies + v) 0) (b.queue + t) v) (t + 1) []
      settle_found =
          let r = ready in let l = r.laid in
          record {
            frame = take-set-le b.states (set w (b.dependencies + v) 0) (b.queue + t) v (omega arith) ∙ take-set-le b.states w (b.dependencies + v) 0 (omega arith);
            size = length-set (set w (b.dependencies + v) 0) (b.queue + t) v ∙ length-set w (b.dependencies + v) 0;
            keeps = λ c more h. held_found h 0 (sym e) refl;
          }

-- the words are as long as the tables
pub tables_long : {lim : ℕ} {b : Bases} {w : List ℕ} {t : ℕ} {l : List ℕ} → Follows (Held lim b) w t l → b.states ≤ length w
tables_long f = let k = f.held.laid in let q = f.held.long in omega arith
