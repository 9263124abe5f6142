-- The flags of a component's atoms, one member at a time; and at the end a flag is set exactly if its atom is cyclic.
use mathlib.Core.Path.{◌≡◌, refl, sym, ap, ◌∙◌}
use mathlib.Core.Logic.{◌⊎◌, inl, inr, ◌≢◌}
use mathlib.Core.List.Memᴰ
use mathlib.Core.List.{List, ◌∷◌}
use Prim.Native.Nat.{ℕ, ◌+◌, ◌≤◌, ◌<◌}
use native.Mathlib.Omega.{arith}
use native.Mathlib.Numerals.{add-one}
use native.Mathlib.Decide.{ℕ_discrete, dec_lt}
use borrow.Author.Tests.{lt-ltb, le-ltb}
use lib.ListN.{length, get_or, set, take, drop, length-set}
use lib.Seq.{get_or-set_same, get_or-set_other, get_or-drop, take-set-le, take-take}
use Rattle.theory.specs.Sets.{Is, Mem}
use Rattle.theory.specs.Words.{theory_of}
use Rattle.theory.specs.Walks.{edge, next}
use Rattle.theory.specs.Edges.{cone_preds}
use Rattle.theory.specs.Founded.{cyclic}
use Rattle.theory.specs.Unfounded.{OnClosedWalk}
use Rattle.theory.specs.Prefix.{upto}
use Rattle.theory.proofs.CycleLaws.{cyclic_walk}
use Rattle.theory.proofs.CountLaws.{pigeonhole}
use Rattle.theory.proofs.PrefixLaws.{upto_length}
use Rattle.graph.proofs.DecodeLaws.{the_atoms}
use Rattle.area.specs.declared.Bases.{Bases}
use Rattle.area.specs.Layout.{Based}
use Rattle.area.proofs.PartLaws.{frame_at}
use Rattle.area.specs.Views.{mark_of, mark_in, flag_at, queued}
use Rattle.rows.proofs.VertexLaws.{tables_same}
use Rattle.components.specs.Classes.{Classifying, Flagged, Component, Sweeping, Gathered, Classified, ordered, flag_member}
use Rattle.components.proofs.GatherLaws.{queued_same, ordered_same}

cons : (b : Bases) (w : List ℕ) (i : ℕ) → queued b w (i + 1) ≡ get_or w (b.queue + i) 0 ∷ queued b w i
unfolding upto
cons b w i = rw (add-one i, get_or-drop b.queue w i 0)

module _ {ws : List ℕ} {b : Bases} {words : ℕ} (based : Based ws words b) where
  atom_cyclic : (a : ℕ) → a < b.atoms → OnClosedWalk (theory_of ws) a → Is (cyclic (theory_of ws) a)
  atom_cyclic a l c = (cyclic_walk (theory_of ws) a).1 (let x = the_atoms ws in let y = based.atoms in omega arith, c)

  -- the next member has no flag to set: it is a node
  pub flag_node : {w : List ℕ} (i : ℕ) → Flagged ws b w (queued b w i) → b.atoms ≤ get_or w (b.queue + i) 0 → Flagged ws b w (queued b w (i + 1))
  flag_node {w} i f l = record {
    yes = λ a k m c. f.yes a k (other a k (Memᴰ.cases_cons (rw (cons b w i) at m))) c;
    no = λ a k h. f.no a k (λ m c. h (rw (cons b w i) (Memᴰ.tail m)) c);
  }
    where
      other : (a : ℕ) → a < b.atoms → (a ≡ get_or w (b.queue + i) 0) ⊎ Mem a (queued b w i) → Mem a (queued b w i)
      other a k (inl e) = absurd (omega arith)
      other a k (inr m) = m

  -- or it is a cyclic atom
  pub flag_atom : {w : List ℕ} (i : ℕ) → b.end ≤ length w → Flagged ws b w (queued b w i) → {v : ℕ} → v ≡ get_or w (b.queue + i) 0 → v < b.atoms → i < b.atoms + b.nodes → OnClosedWalk (theory_of ws) v
      → Flagged ws b (set w (b.cyclic_atoms + v) 1) (queued b (set w (b.cyclic_atoms + v) 1) (i + 1))
  flag_atom {w} i long f {v} ev l room c = record {
    yes = λ a k m y. set_yes a k y (ℕ_discrete a v) m;
    no = λ a k h. set_no a k h (ℕ_discrete a v);
  }
    where
      same : queued b (set w (b.cyclic_atoms + v) 1) (i + 1) ≡ queued b w (i + 1)
      same = let q = based.laid in queued_same b (i + 1) w (set w (b.cyclic_atoms + v) 1) (λ j p. get_or-set_other w (b.cyclic_atoms + v) (b.queue + j) 1 0 (λ e. omega arith))

      listed : {a : ℕ} → Mem a (queued b (set w (b.cyclic_atoms + v) 1) (i + 1)) → (a ≡ v) ⊎ Mem a (queued b w i)
      listed {a} m = Memᴰ.cases_cons (rw (same, cons b w i, ← ev) at m)

      here : flag_at b (set w (b.cyclic_atoms + v) 1) v ≡ 1
      here = let q = based.laid in get_or-set_same w (b.cyclic_atoms + v) 1 0 (omega arith)

      other : (a : ℕ) → a ≢ v → flag_at b (set w (b.cyclic_atoms + v) 1) a ≡ flag_at b w a
      other a n = get_or-set_other w (b.cyclic_atoms + v) (b.cyclic_atoms + a) 1 0 (λ e. n (omega arith))

      set_yes : (a : ℕ) → a < b.atoms → Is (cyclic (theory_of ws) a) → Dec (a ≡ v) → Mem a (queued b (set w (b.cyclic_atoms + v) 1) (i + 1)) → flag_at b (set w (b.cyclic_atoms + v) 1) a ≡ 1
      set_yes a k y (yes e) m = rw e here
      set_yes a k y (no n) m = other a n ∙ f.yes a k (go (listed m)) y
        where
          go : (a ≡ v) ⊎ Mem a (queued b w i) → Mem a (queued b w i)
          go (inl e) = absurd (n e)
          go (inr j) = j

      set_no : (a : ℕ) → a < b.atoms → (Mem a (queued b (set w (b.cyclic_atoms + v) 1) (i + 1)) → Is (cyclic (theory_of ws) a) → ⊥) → Dec (a ≡ v) → flag_at b (set w (b.cyclic_atoms + v) 1) a ≡ 0
      set_no a k h (yes e) = absurd (h (rw (same, cons b w i, ← ev) (Memᴰ.head e)) (rw e (atom_cyclic v l c)))
      set_no a k h (no n) = other a n ∙ f.no a k (λ m y. h (rw (same, cons b w i) (Memᴰ.tail m)) y)

  -- a component of one member, or none
  pub flag_alone : {w : List ℕ} {n from to : ℕ} → Component ws b w n from to → to ≤ from + 1 → Flagged ws b w (queued b w to)
  flag_alone {w} {n} {from} {to} p h = go (ℕ_discrete to from)
    where
      f : Flagged ws b w (queued b w from)
      f = p.flags

      lone : to ≡ from + 1 → Flagged ws b w (queued b w to)
      lone e = rw e (record {
        yes = λ a k m y. f.yes a k (other a k y (Memᴰ.cases_cons (rw (cons b w from) at m))) y;
        no = λ a k g. f.no a k (λ m y. g (rw (cons b w from) (Memᴰ.tail m)) y);
      })
        where
          open_walk : get_or w (b.queue + from) 0 < b.atoms → OnClosedWalk (theory_of ws) (get_or w (b.queue + from) 0) → ⊥
          open_walk l c = let q = (p.members from (omega arith) (omega arith) l).0 c in omega arith

          other : (a : ℕ) → a < b.atoms → Is (cyclic (theory_of ws) a) → (a ≡ get_or w (b.queue + from) 0) ⊎ Mem a (queued b w from) → Mem a (queued b w from)
          other a k y (inl q) = absurd (open_walk (rw q at k) (rw q at ((cyclic_walk (theory_of ws) a).0 y).1))
          other a k y (inr m) = m

      go : Dec (to ≡ from) → Flagged ws b w (queued b w to)
      go (yes e) = rw e f
      go (no n) = let a = p.after in lone (omega arith)

  -- ---- nothing but flags has changed

  module _ (w w' : List ℕ) (frame : take b.cyclic_atoms w' ≡ take b.cyclic_atoms w) (size : length w' ≡ length w) where
    pub flags_before : (i : ℕ) → i < b.cyclic_atoms → get_or w' i 0 ≡ get_or w i 0
    flags_before i l = frame_at b.cyclic_atoms w w' frame i l

    pub flags_tables : take b.states w' ≡ take b.states w
    flags_tables = let q = based.laid in sym (take-take b.states b.cyclic_atoms w' (omega arith)) ∙ ap (take b.states) frame ∙ take-take b.states b.cyclic_atoms w (omega arith)

    pub flags_queue : (n : ℕ) → n ≤ b.atoms + b.nodes → queued b w' n ≡ queued b w n
    flags_queue n h = let q = based.laid in queued_same b n w w' (λ i l. flags_before (b.queue + i) (omega arith))

    marks_same : (v : ℕ) → v < b.atoms + b.nodes → mark_in b w' v ≡ mark_in b w v
    marks_same v l = let q = based.laid in flags_before (mark_of b v) (omega arith)

    pub flags_state : {n found : ℕ} → found ≤ b.atoms + b.nodes → Classifying ws b w n found → Classifying ws b w' n found
    flags_state {n} {found} f s = record {
      tables = tables_same flags_tables size s.tables;
      roots = λ v m. s.roots v (rw order at m);
      fits = s.fits;
      swept = rw (order, flags_queue found f) (record {
        sweep = s.swept.sweep;
        once = s.swept.once;
        low = s.swept.low;
        outside = λ v l g. marks_same v l ∙ s.swept.outside v l g;
        unmet = λ v l g. unmet v l (s.swept.unmet v l g);
        met = λ v l e. s.swept.met v l (sym (marks_same v l) ∙ e);
        marked = λ v m. marks_same v (s.swept.low v m) ∙ s.swept.marked v m;
      });
    }
      where
        order : ordered b w' n ≡ ordered b w n
        order = let q = based.laid in let k = s.fits in ordered_same b n w w' (λ i l. flags_before (b.body_nodes + i) (omega arith))

        unmet : (v : ℕ) → v < b.atoms + b.nodes → (mark_in b w v ≡ 2) ⊎ (mark_in b w v ≡ 3) → (mark_in b w' v ≡ 2) ⊎ (mark_in b w' v ≡ 3)
        unmet v l (inl e) = inl (marks_same v l ∙ e)
        unmet v l (inr e) = inr (marks_same v l ∙ e)

  -- ---- from search to search

  pub component_of : {w₀ w : List ℕ} {n found tail : ℕ} → Gathered ws b w₀ w n found tail → Flagged ws b w₀ (queued b w₀ found) → Component ws b w n found tail
  component_of {w₀} {w} {n} {found} {tail} g f = record {
    state = g.state;
    after = g.after;
    flags = rw (queued_same b found w₀ w g.front) (record {
      yes = λ a k m y. let q = based.laid in g.kept.past (b.cyclic_atoms + a) (omega arith) ∙ f.yes a k m y;
      no = λ a k h. let q = based.laid in g.kept.past (b.cyclic_atoms + a) (omega arith) ∙ f.no a k h;
    });
    members = g.members;
  }

  pub found_low : {w : List ℕ} {n found : ℕ} → Classifying ws b w n found → found ≤ b.atoms + b.nodes
  found_low {w} {n} {found} s = let p = pigeonhole (b.atoms + b.nodes) (queued b w found) s.swept.once s.swept.low in omega (arith, upto_length found (drop b.queue w))

  -- no root is left
  pub classified : {w₀ w : List ℕ} {n found : ℕ} → Sweeping ws b w₀ w n found → n ≡ 0 → Classified ws b w₀ w
  unfolding upto
  classified {w₀} {w} {n} {found} s z = record {
    size = s.size;
    tables = s.tables;
    yes = λ a l c. s.flags.yes a l (met a c) c;
    no = λ a l h. s.flags.no a l (λ m c. h c);
  }
    where
      covered : (a x : ℕ) → Mem x (cone_preds (theory_of ws) a) → Mem a (queued b w found)
      covered a x m = go (s.state.swept.sweep.cover x a m)
        where
          go : Mem a (queued b w found) ⊎ Mem a (ordered b w n) → Mem a (queued b w found)
          go (inl k) = k
          go (inr k) = absurd (Memᴰ.not-nil (rw z at k))

      last : (a : ℕ) → OnClosedWalk (theory_of ws) a → Mem a (queued b w found)
      last a (edge m) = covered a a m
      last a (next {w = x} p m) = covered a x m

      met : (a : ℕ) → Is (cyclic (theory_of ws) a) → Mem a (queued b w found)
      met a c = last a ((cyclic_walk (theory_of ws) a).0 c).1

-- ---- the loop over a component's members

-- the flags are set as far as member i
pub record Flagging (ws : List ℕ) (b : Bases) (w₀ w : List ℕ) (from to i : ℕ) : Type 0 where
  pub low : from ≤ i
  pub high : i ≤ to
  pub size : length w ≡ length w₀
  pub frame : take b.cyclic_atoms w ≡ take b.cyclic_atoms w₀
  pub flags : Flagged ws b w (queued b w i)

module _ {ws : List ℕ} {b : Bases} {w₀ : List ℕ} (based : Based ws (length w₀) b) {n from to : ℕ} (p : Component ws b w₀ n from to) where
  pub flagging_low : to ≤ b.atoms + b.nodes
  flagging_low = found_low based p.state

  pub alone_end : to ≤ from + 1 → Sweeping ws b w₀ w₀ n to
  alone_end h = record { size = refl; tables = refl; state = p.state; flags = flag_alone based p h }

  module _ {w : List ℕ} (i : ℕ) (f : Flagging ws b w₀ w from to i) where
    pub flagging_end : to ≤ i → Sweeping ws b w₀ w n to
    flagging_end h =
        let k = f.high in
        let e : i ≡ to = omega arith in
        record {
          size = f.size;
          tables = flags_tables based w₀ w f.frame f.size;
          state = flags_state based w₀ w f.frame f.size flagging_low p.state;
          flags = rw e at f.flags;
        }

    module _ (h : i < to) where
      flagging_node : {v : ℕ} → v ≡ get_or w (b.queue + i) 0 → b.atoms ≤ v → Flagging ws b w₀ w from to (i + 1)
      flagging_node ev l = record {
        low = let a = f.low in omega arith;
        high = omega arith;
        size = f.size;
        frame = f.frame;
        flags = flag_node based i f.flags (rw ev at l);
      }

      flagging_atom : from + 1 < to → {v : ℕ} → v ≡ get_or w (b.queue + i) 0 → v < b.atoms → Flagging ws b w₀ (set w (b.cyclic_atoms + v) 1) from to (i + 1)
      flagging_atom more {v} ev l =
          let a = f.low in let q = based.laid in let g = flagging_low in
          let same = flags_before based w₀ w f.frame f.size (b.queue + i) (omega arith) in
          let c = (p.members i a h (let x = ev ∙ same in omega arith)).1 (omega arith) in
          record {
            low = omega arith;
            high = omega arith;
            size = length-set w (b.cyclic_atoms + v) 1 ∙ f.size;
            frame = take-set-le b.cyclic_atoms w (b.cyclic_atoms + v) 1 (omega arith) ∙ f.frame;
            flags = flag_atom based i (let s = f.size in let z = based.ends in omega arith) f.flags ev l (omega arith) (rw (ev ∙ same) c);
          }

      pub flagging_next : from + 1 < to → Flagging ws b w₀ (flag_member b w i) from to (i + 1)
      flagging_next more = go (dec_lt (get_or w (b.queue + i) 0) b.atoms)
        where
          go : Dec (get_or w (b.queue + i) 0 < b.atoms) → Flagging ws b w₀ (flag_member b w i) from to (i + 1)
          go (yes l) = rw (lt-ltb (get_or w (b.queue + i) 0) b.atoms l) (flagging_atom more refl l)
          go (no l) = let k : b.atoms ≤ get_or w (b.queue + i) 0 = omega arith in rw (le-ltb (get_or w (b.queue + i) 0) b.atoms k) (flagging_node refl k)
