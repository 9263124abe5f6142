-- A pass that goes by roles, for any set of marked atoms: with the counters reset and the heads of the facts still to be met a worklist begins, with the seeds that are true found and aside
-- (`again_begin`). At the end of a worklist of the pass an atom still waits exactly if it is missing (`among_end`, `pass_end`), and what no pass waits for rests (`pass_rests`).
use mathlib.Core.Path.{◌≡◌, refl, sym, ap, ◌∙◌, subst}
use mathlib.Core.Logic.{◌⊎◌, inl, inr, ◌↔◌}
use mathlib.Core.Bool.{Bool, true, false, not, ◌&&◌, ◌||◌, cond}
use mathlib.Core.List.Memᴰ
use mathlib.Core.List.{List, [], ◌∷◌}
use Prim.Native.Nat.{ℕ, zero, suc, ◌+◌, ◌-◌, ◌≤◌, ◌<◌}
use native.Mathlib.Omega.{arith}
use native.Mathlib.Decide.{dec_lt}
use lib.Dec.{eqb, ltb, lt→ltb}
use lib.ListN.{length}
use Rattle.theory.specs.Sets.{Is, Set, everyone, Mem, filled}
use Rattle.theory.specs.Counts.{count_in, occ, Distinct}
use Rattle.theory.specs.Theory.{Theory, WellFormed, Kind, False, Atom, And, Or, Opaque, Absorbed}
use Rattle.theory.specs.Edges.{vertices, preds}
use Rattle.theory.specs.Founded.{cyclic, founded_among, missing_among, missing}
use Rattle.theory.specs.Closure.{Mode, dead, free, single, every, waiting, fired, closure}
use Rattle.theory.specs.Worklist.{Worklist}
use Rattle.theory.specs.Pass.{live, kind_mode, stated, atom_mode_among, node_mode_among, pass_mode_among, EnoughAmong, pass_mode, Enough}
use Rattle.theory.specs.Starting.{waits, first_count}
use Rattle.theory.specs.Roles.{kind_seed, kind_role, seed, role, live_role, Resting}
use Rattle.theory.proofs.SetLaws.{bool_cases, clash, eq_is, or_right, is_false, and_intro, and_left, and_right, not_true, not_false, all_holds, T_is}
use Rattle.theory.proofs.CountLaws.{occ_none}
use Rattle.theory.proofs.FoundedLaws.{among_parts}
use Rattle.theory.proofs.PassLaws.{atom_among, node_among, among_founded}
use Rattle.theory.proofs.PassStartLaws.{among_waits}
use Rattle.theory.proofs.ClosureLaws.{closure_closed}
use Rattle.theory.proofs.WorklistLaws.{none, worklist_end}

-- ---- roles by kind, of an uncut node: what it waits for

-- a seed that stands for no cut atom waits for nothing and is not dead; one that does is dead
seed_free : (k : Kind) (m c : Bool) (l : List ℕ) → Is (kind_seed k m l) → (k ≡ Atom → c ≡ false) → (waits (kind_mode k m c) (length l) ≡ 0) × (kind_mode k m c ≡ dead → ⊥)
unfolding kind_seed kind_mode waits filled
seed_free False m c l s o = clash s refl
seed_free Atom true c l s o = clash s refl
seed_free Atom false true l s o = clash refl (o refl)
seed_free Atom false false l s o = (refl, λ e. let z : ◌≡◌ {A = ℕ} 0 1 = cc in omega arith)
seed_free And m c [] s o = (refl, λ e. let z : ◌≡◌ {A = ℕ} 0 1 = cc in omega arith)
seed_free And m c (x ∷ l) s o = clash s refl
seed_free Or m c l s o = clash s refl
seed_free Opaque m c l s o = (refl, λ e. let z : ◌≡◌ {A = ℕ} 0 1 = cc in omega arith)
seed_free Absorbed m c l s o = clash s refl

-- by the role: a seed's own is 0, or that of its atom
seed_open : (k : Kind) (m : Bool) (cut : Set) (a : ℕ) (l : List ℕ) → Is (kind_seed k m l) → Is (eqb (kind_role k m a l) 0 || not (cut (kind_role k m a l - 1))) → k ≡ Atom → cut a ≡ false
unfolding kind_seed kind_role
seed_open False m cut a l s o e = clash s refl
seed_open Atom true cut a l s o e = clash s refl
seed_open Atom false cut a l s o e = let q : a + 1 - 1 ≡ a = omega arith in let z : eqb (a + 1) 0 ≡ false = is_false (eqb (a + 1) 0) (λ p. let r = eq_is (a + 1) 0 p in omega arith) in
    not_true (cut a) (rw q at (rw z at o))
seed_open And m cut a l s o e = let z : ◌≡◌ {A = ℕ} 0 1 = cc in absurd (omega arith)
seed_open Or m cut a l s o e = clash s refl
seed_open Opaque m cut a l s o e = let z : ◌≡◌ {A = ℕ} 0 1 = cc in absurd (omega arith)
seed_open Absorbed m cut a l s o e = clash s refl

seed_shut : (k : Kind) (m : Bool) (cut : Set) (a : ℕ) (l : List ℕ) → Is (kind_seed k m l) → (eqb (kind_role k m a l) 0 || not (cut (kind_role k m a l - 1))) ≡ false → kind_mode k m (cut a) ≡ dead
unfolding kind_seed kind_role kind_mode filled
seed_shut False m cut a l s o = refl
seed_shut Atom true cut a l s o = clash s refl
seed_shut Atom false cut a l s o = go (bool_cases (cut a))
  where
    go : (cut a ≡ true) ⊎ (cut a ≡ false) → kind_mode Atom false (cut a) ≡ dead
    go (inl e) = ap (kind_mode Atom false) e
    go (inr e) = let q : a + 1 - 1 ≡ a = omega arith in clash (rw q (or_right (eqb (a + 1) 0) (not (cut a)) (not_false (cut a) e))) o
seed_shut And m cut a [] s o = clash refl o
seed_shut And m cut a (x ∷ l) s o = clash s refl
seed_shut Or m cut a l s o = clash s refl
seed_shut Opaque m cut a l s o = clash refl o
seed_shut Absorbed m cut a l s o = refl

-- a counter waits for what its role says, and is dead if that is nothing
counter_waits : (k : Kind) (m c : Bool) (a : ℕ) (l : List ℕ) → kind_seed k m l ≡ false → (waits (kind_mode k m c) (length l) ≡ kind_role k m a l) × (kind_role k m a l ≡ 0 → kind_mode k m c ≡ dead)
unfolding kind_seed kind_role kind_mode waits filled
counter_waits False m c a l s = (refl, λ z. refl)
counter_waits Atom true c a l s = (refl, λ z. absurd (omega arith))
counter_waits Atom false c a l s = clash refl s
counter_waits And m c a [] s = clash refl s
counter_waits And m c a (x ∷ l) s = (refl, λ z. absurd (omega arith))
counter_waits Or m c a l s = (refl, λ z. absurd (omega arith))
counter_waits Opaque m c a l s = clash refl s
counter_waits Absorbed m c a l s = (refl, λ z. refl)

-- ---- the modes of the pass

module _ (th : Theory) (ok : WellFormed th) (marked cone never atom_never : Set) (bounded : (n : ℕ) → Is (cone n) → n < th.nodes) where
  abbrev mode : ℕ → Mode
  mode v = pass_mode_among th marked cone never atom_never v

  abbrev pred : ℕ → List ℕ
  pred v = preds th everyone v

  abbrev waited : ℕ → ℕ
  waited v = waits (mode v) (length (pred v))

  -- ---- of a node

  off : (x y z : Bool) (m : Mode) → (y ≡ false) ⊎ Is z → live (x && y && not z) m ≡ dead
  unfolding live
  off true true true m e = refl
  off true true false m (inl e) = clash refl e
  off true true false m (inr e) = clash e refl
  off true false z m e = refl
  off false y z m e = refl

  on : (x y z : Bool) (m : Mode) → Is x → Is y → z ≡ false → live (x && y && not z) m ≡ m
  unfolding live
  on true true false m p q r = refl
  on true true true m p q r = clash refl r
  on true false z m p q r = clash q refl
  on false y z m p q r = clash p refl

  abbrev kind_at : ℕ → Mode
  kind_at n = kind_mode (th.kind n) (marked (th.operand n)) (atom_never (th.operand n))

  node_dead : (n : ℕ) → (cone n ≡ false) ⊎ Is (never n) → mode (th.atoms + n) ≡ dead
  unfolding node_mode_among
  node_dead n e = node_among th marked cone never atom_never n ∙ off (ltb n th.nodes) (cone n) (never n) (kind_at n) e

  node_on : (n : ℕ) → Is (cone n) → never n ≡ false → node_mode_among th marked cone never atom_never n ≡ kind_at n
  unfolding node_mode_among
  node_on n i e = on (ltb n th.nodes) (cone n) (never n) (kind_at n) (T_is (ltb n th.nodes) (lt→ltb n th.nodes (bounded n i))) i e

  node_waited : (n : ℕ) → Is (cone n) → never n ≡ false → waited (th.atoms + n) ≡ waits (kind_at n) (length (th.leaves n))
  node_waited n i e = among_waits th marked cone never atom_never n (bounded n i) ∙ ap (λ (m : Mode). waits m (length (th.leaves n))) (node_on n i e)

  dead_waited : (v : ℕ) → mode v ≡ dead → waited v ≡ 0
  unfolding waits
  dead_waited v e = ap (λ (m : Mode). waits m (length (pred v))) e

  node_live : (n : ℕ) → Is (cone n) → Is (seed th marked n) → Is (live_role never atom_never n (role th marked n)) → (waited (th.atoms + n) ≡ 0) × (mode (th.atoms + n) ≡ dead → ⊥)
  unfolding seed role
  node_live n i s o =
      let u = not_true (never n) (and_left (not (never n)) _ o) in
      let r = seed_free (th.kind n) (marked (th.operand n)) (atom_never (th.operand n)) (th.leaves n) s (seed_open (th.kind n) (marked (th.operand n)) atom_never (th.operand n) (th.leaves n) s (and_right (not (never n)) _ o)) in
      (node_waited n i u ∙ r.0, λ d. r.1 (sym (node_among th marked cone never atom_never n ∙ node_on n i u) ∙ d))

  node_shut : (n : ℕ) → Is (cone n) → Is (seed th marked n) → live_role never atom_never n (role th marked n) ≡ false → mode (th.atoms + n) ≡ dead
  unfolding seed role
  node_shut n i s o = go (bool_cases (never n))
    where
      go : (never n ≡ true) ⊎ (never n ≡ false) → mode (th.atoms + n) ≡ dead
      go (inl e) = node_dead n (inr e)
      go (inr e) = node_among th marked cone never atom_never n ∙ node_on n i e ∙ seed_shut (th.kind n) (marked (th.operand n)) atom_never (th.operand n) (th.leaves n) s (rw e at o)

  node_counts : (n : ℕ) → Is (cone n) → seed th marked n ≡ false → (waited (th.atoms + n) ≡ cond (never n) 0 (role th marked n)) × (cond (never n) 0 (role th marked n) ≡ 0 → mode (th.atoms + n) ≡ dead)
  unfolding seed role
  node_counts n i s = go (bool_cases (never n))
    where
      go : (never n ≡ true) ⊎ (never n ≡ false) → (waited (th.atoms + n) ≡ cond (never n) 0 (role th marked n)) × (cond (never n) 0 (role th marked n) ≡ 0 → mode (th.atoms + n) ≡ dead)
      go (inl e) = let d = node_dead n (inr e) in rw e (dead_waited (th.atoms + n) d, λ z. d)
      go (inr e) =
          let r = counter_waits (th.kind n) (marked (th.operand n)) (atom_never (th.operand n)) (th.operand n) (th.leaves n) s in
          rw e (node_waited n i e ∙ r.0, λ z. node_among th marked cone never atom_never n ∙ node_on n i e ∙ r.1 z)

  -- ---- of an atom

  abbrev open_at : ℕ → Bool
  open_at a = marked a && not (atom_never a)

  atom_is : (a : ℕ) → a < th.atoms → (c s : Bool) → open_at a ≡ c → stated th a ≡ s → mode a ≡ live c (cond s free single)
  unfolding atom_mode_among
  atom_is a l c s e f = atom_among th marked cone never atom_never a l ∙ ap (λ (x : Bool). live x (cond (stated th a) free single)) e ∙ ap (λ (x : Bool). live c (cond x free single)) f

  -- a stated atom does not wait
  stated_waits : (a : ℕ) → a < th.atoms → Is (stated th a) → waiting (mode a) ≡ false
  unfolding live waiting
  stated_waits a l s = go (bool_cases (open_at a))
    where
      go : (open_at a ≡ true) ⊎ (open_at a ≡ false) → waiting (mode a) ≡ false
      go (inl e) = ap waiting (atom_is a l true true e s)
      go (inr e) = ap waiting (atom_is a l false true e s)

  -- ---- the beginning

  module _ (heads : List ℕ) (head_stated : (a : ℕ) → Mem a heads → (a < th.atoms) × Is (stated th a)) (stated_head : (a : ℕ) → Is (marked a) → Is (stated th a) → Mem a heads)
      (aside : List ℕ) (apart : Distinct aside)
      (seeds : (v : ℕ) → Mem v aside ↔ ((n : ℕ) × (v ≡ th.atoms + n) × Is (cone n) × Is (seed th marked n) × Is (live_role never atom_never n (role th marked n))))
      (count : ℕ → ℕ) (atom_count : (a : ℕ) → a < th.atoms → count a ≡ first_count marked atom_never a)
      (counter : (n : ℕ) → Is (cone n) → seed th marked n ≡ false → count (th.atoms + n) ≡ cond (never n) 0 (role th marked n))
      (rest : (n : ℕ) → n < th.nodes → (cone n ≡ false) ⊎ Is (seed th marked n) → count (th.atoms + n) ≡ 0) where
    -- a vertex waits for what it should, and is aside if that is nothing; or it is a head that is still to be met
    abbrev Told : ℕ → Type 0
    Told v = ((count v ≡ waited v) × (count v ≡ 0 → Mem v aside ⊎ (mode v ≡ dead))) ⊎ (Mem v heads × (mode v ≡ free) × (count v ≡ 1))

    told_dead : (v : ℕ) → mode v ≡ dead → count v ≡ 0 → Told v
    told_dead v e z = inl (z ∙ sym (dead_waited v e), λ _. inr e)

    atom_told : (a : ℕ) → a < th.atoms → Told a
    unfolding live waits first_count
    atom_told a l = go (open_at a) refl (stated th a) refl
      where
        counted : (c : Bool) → open_at a ≡ c → count a ≡ cond c 1 0
        counted c e = atom_count a l ∙ ap (λ (x : Bool). cond x 1 0) e

        go : (c : Bool) → open_at a ≡ c → (s : Bool) → stated th a ≡ s → Told a
        go false e s f = told_dead a (atom_is a l false s e f) (counted false e)
        go true e true f = inr (stated_head a (and_left (marked a) _ e) f, atom_is a l true true e f, counted true e)
        go true e false f = inl (counted true e ∙ sym (ap (λ (m : Mode). waits m (length (pred a))) (atom_is a l true false e f)), λ z. let k = counted true e in absurd (omega arith))

    node_told : (n : ℕ) → n < th.nodes → Told (th.atoms + n)
    node_told n l = go (bool_cases (cone n)) (bool_cases (seed th marked n)) (bool_cases (live_role never atom_never n (role th marked n)))
      where
        go : (cone n ≡ true) ⊎ (cone n ≡ false) → (seed th marked n ≡ true) ⊎ (seed th marked n ≡ false) → (live_role never atom_never n (role th marked n) ≡ true) ⊎ (live_role never atom_never n (role th marked n) ≡ false)
            → Told (th.atoms + n)
        go (inr c) s o = told_dead (th.atoms + n) (node_dead n (inl c)) (rest n l (inl c))
        go (inl c) (inr s) o = let r = node_counts n c s in let k = counter n c s in inl (k ∙ sym r.0, λ z. inr (r.1 (sym k ∙ z)))
        go (inl c) (inl s) (inr o) = told_dead (th.atoms + n) (node_shut n c s o) (rest n l (inr s))
        go (inl c) (inl s) (inl o) = inl (rest n l (inr s) ∙ sym (node_live n c s o).0, λ z. inl ((seeds (th.atoms + n)).1 (n, refl, c, s, o)))

    told : (v : ℕ) → v < vertices th → Told v
    unfolding vertices
    told v l = go (dec_lt v th.atoms)
      where
        go : Dec (v < th.atoms) → Told v
        go (yes h) = atom_told v h
        go (no h) = let e : th.atoms + (v - th.atoms) ≡ v = omega arith in subst (λ (z : ℕ). Told z) e (node_told (v - th.atoms) (omega arith))

    aside_live : (v : ℕ) → Mem v aside → (v < vertices th) × (waited v ≡ 0) × (mode v ≡ dead → ⊥) × (count v ≡ 0)
    unfolding vertices
    aside_live v m =
        let r = (seeds v).0 m in let l = bounded r.0 r.2 in let k = node_live r.0 r.2 r.3 r.4 in
        let e : v ≡ th.atoms + r.0 = r.1 in
        rw e (omega arith, k.0, k.1, rest r.0 l (inr r.3))

    -- what waits for nothing and is not dead is in the closure
    fires : (v : ℕ) → v < vertices th → waited v ≡ 0 → (mode v ≡ dead → ⊥) → Is (closure (vertices th) mode pred v)
    unfolding fired waits
    fires v l w n = closure_closed (vertices th) mode pred v l (by (mode v) refl)
      where
        empty : (k : List ℕ) → length k ≡ 0 → (x : ℕ) → Mem x k → Is (closure (vertices th) mode pred x)
        empty [] e x m = absurd (Memᴰ.not-nil m)
        empty (y ∷ k) e x m = absurd (omega arith)

        by : (m : Mode) → mode v ≡ m → Is (fired m (closure (vertices th) mode pred) (pred v))
        by dead e = absurd (n e)
        by free e = refl
        by single e = let k = ap (λ (m : Mode). waits m (length (pred v))) e in absurd (omega arith)
        by every e = let k = ap (λ (m : Mode). waits m (length (pred v))) e in all_holds (closure (vertices th) mode pred) (pred v) (empty (pred v) (sym k ∙ w))

    pub again_begin : Worklist (vertices th) mode pred aside [] heads count
    unfolding waits waiting vertices
    again_begin = record {
      distinct = apart;
      low = λ v m. (aside_live v m).0;
      begun = λ v m. absurd (Memᴰ.not-nil m);
      sound = λ v m. let r = aside_live v m in fires v r.0 r.1 r.2;
      ahead = λ v m. let r = head_stated v m in (let l = r.0 in omega arith, inl (stated_waits v r.0 r.1));
      starts = λ v l e. start v e (told v l);
      once = λ v l n. once v n (mode v) refl (told v l);
      passed = λ u v l e m i. absurd (Memᴰ.not-nil i);
      tally = λ v l e. let k = every_count v e (told v l) in let z = none (pred v) in let o = unmet v e in omega arith;
      idle = λ v l e. idle v e (told v l);
      found = λ v l z. found v z (told v l);
      spent = λ v m. (aside_live v m).3;
    }
      where
        start : (v : ℕ) → mode v ≡ free → Told v → Mem v aside ⊎ Mem v heads
        start v e (inl r) = go (r.1 (r.0 ∙ ap (λ (m : Mode). waits m (length (pred v))) e))
          where
            go : Mem v aside ⊎ (mode v ≡ dead) → Mem v aside ⊎ Mem v heads
            go (inl m) = inl m
            go (inr d) = let z : ◌≡◌ {A = ℕ} 0 1 = cc in absurd (omega arith)
        start v e (inr r) = inr r.0

        once : (v : ℕ) → (mode v ≡ every → ⊥) → (m : Mode) → mode v ≡ m → Told v → count v ≤ 1
        once v n m e (inr r) = let k = r.2 in omega arith
        once v n dead e (inl r) = let k = r.0 ∙ ap (λ (m : Mode). waits m (length (pred v))) e in omega arith
        once v n free e (inl r) = let k = r.0 ∙ ap (λ (m : Mode). waits m (length (pred v))) e in omega arith
        once v n single e (inl r) = let k = r.0 ∙ ap (λ (m : Mode). waits m (length (pred v))) e in omega arith
        once v n every e (inl r) = absurd (n e)

        every_count : (v : ℕ) → mode v ≡ every → Told v → count v ≡ length (pred v)
        every_count v e (inl r) = r.0 ∙ ap (λ (m : Mode). waits m (length (pred v))) e
        every_count v e (inr r) = let q = r.1 in let z : ◌≡◌ {A = ℕ} 0 1 = cc in absurd (omega arith)

        unmet : (v : ℕ) → mode v ≡ every → occ v heads ≡ 0
        unmet v e = occ_none v heads (λ m. let r = head_stated v m in clash (ap waiting e) (stated_waits v r.0 r.1))

        idle : (v : ℕ) → mode v ≡ dead → Told v → count v ≡ 0
        idle v e (inl r) = r.0 ∙ ap (λ (m : Mode). waits m (length (pred v))) e
        idle v e (inr r) = let q = r.1 in let z : ◌≡◌ {A = ℕ} 0 1 = cc in absurd (omega arith)

        found : (v : ℕ) → count v ≡ 0 → Told v → Mem v aside ⊎ (mode v ≡ dead)
        found v z (inl r) = r.1 z
        found v z (inr r) = let k = r.2 in absurd (omega arith)

  -- ---- the end

  module _ {order : List ℕ} {count : ℕ → ℕ} (list : Worklist (vertices th) mode pred order order [] count) where
    went : (v : ℕ) → Mem v order ⊎ Mem v [] → Mem v order
    went v (inl m) = m
    went v (inr m) = absurd (Memᴰ.not-nil m)

    -- what waits for nothing at the start has a count of 0
    still : (v : ℕ) → v < vertices th → waited v ≡ 0 → count v ≡ 0
    unfolding waits count_in
    still v l w = by (mode v) refl
      where
        by : (m : Mode) → mode v ≡ m → count v ≡ 0
        by dead e = list.idle v l e
        by free e = list.spent v (went v (list.starts v l e))
        by single e = let k = ap (λ (m : Mode). waits m (length (pred v))) e in absurd (omega arith)
        by every e = let k = ap (λ (m : Mode). waits m (length (pred v))) e in let t = list.tally v l e in omega arith

    pub pass_rests : Resting th marked cone count
    unfolding vertices live
    pass_rests = record {
      atoms = λ a l e. list.idle a (omega arith) (atom_is a l false (stated th a) (ap (λ (x : Bool). x && not (atom_never a)) e) refl);
      nodes = λ n l e. nodes n l e (bool_cases (cone n)) (bool_cases (live_role never atom_never n (role th marked n)));
    }
      where
        nodes : (n : ℕ) → n < th.nodes → (cone n ≡ false) ⊎ Is (seed th marked n) → (cone n ≡ true) ⊎ (cone n ≡ false) → (live_role never atom_never n (role th marked n) ≡ true) ⊎ (live_role never atom_never n (role th marked n) ≡ false)
            → count (th.atoms + n) ≡ 0
        nodes n l e (inr c) o = list.idle (th.atoms + n) (omega arith) (node_dead n (inl c))
        nodes n l (inl e) (inl c) o = clash c e
        nodes n l (inr s) (inl c) (inl o) = still (th.atoms + n) (omega arith) (node_live n c s o).0
        nodes n l (inr s) (inl c) (inr o) = list.idle (th.atoms + n) (omega arith) (node_shut n c s o)

    module _ (enough : EnoughAmong th marked cone never atom_never) (a : ℕ) (l : a < th.atoms) where
      low : a < vertices th
      unfolding vertices
      low = omega arith

      -- found exactly if founded
      found_founded : Mem a order ↔ Is (founded_among th marked never atom_never a)
      found_founded =
          let p = among_founded th marked cone never atom_never ok a l enough in
          ((λ m. p.0 (list.sound a m)), λ y. worklist_end (vertices th) mode pred list a (p.1 y))

      -- an atom that may be founded waits for one thing, unless it is
      waits_one : mode a ≡ cond (stated th a) free single → (Mem a order → ⊥) → count a ≡ 1
      waits_one e n = go (stated th a) e
        where
          some : mode a ≡ single → (c : ℕ) → count a ≡ c → count a ≡ 1
          some f zero z = absurd (out (list.found a low z))
            where
              out : Mem a order ⊎ (mode a ≡ dead) → ⊥
              out (inl y) = n y
              out (inr d) = let k : ◌≡◌ {A = ℕ} 0 1 = cc in omega arith
          some f (suc c) z = let o = list.once a low (λ d. let k : ◌≡◌ {A = ℕ} 0 1 = cc in omega arith) in omega arith

          go : (s : Bool) → mode a ≡ cond s free single → count a ≡ 1
          go true f = absurd (n (went a (list.starts a low f)))
          go false f = some f (count a) refl

      pub among_end : count a ≡ cond (missing_among th marked never atom_never a) 1 0
      unfolding live
      among_end = by (bool_cases (open_at a)) (bool_cases (founded_among th marked never atom_never a))
        where
          none_missing : count a ≡ 0 → (Is (missing_among th marked never atom_never a) → ⊥) → count a ≡ cond (missing_among th marked never atom_never a) 1 0
          none_missing z n = z ∙ ap (λ (x : Bool). cond x 1 0) (sym (is_false (missing_among th marked never atom_never a) n))

          by : (open_at a ≡ true) ⊎ (open_at a ≡ false) → (founded_among th marked never atom_never a ≡ true) ⊎ (founded_among th marked never atom_never a ≡ false) → count a ≡ cond (missing_among th marked never atom_never a) 1 0
          by (inr e) f = none_missing (list.idle a low (atom_is a l false (stated th a) e refl)) (λ y. let p = (among_parts th marked never atom_never a).0 y in clash (and_intro p.0 (not_false (atom_never a) p.1)) e)
          by (inl e) (inl f) = none_missing (list.spent a (found_founded.1 f)) (λ y. clash f ((among_parts th marked never atom_never a).0 y).2)
          by (inl e) (inr f) =
              waits_one (atom_is a l true (stated th a) e refl) (λ y. clash (found_founded.0 y) f)
              ∙ ap (λ (x : Bool). cond x 1 0) (sym ((among_parts th marked never atom_never a).1 (and_left (marked a) _ e, not_true (atom_never a) (and_right (marked a) _ e), f)))

-- ---- the cyclic atoms are marked

pub pass_end : (th : Theory) (ok : WellFormed th) (cone never atom_never : Set) (bounded : (n : ℕ) → Is (cone n) → n < th.nodes) {order : List ℕ} {count : ℕ → ℕ}
    → Worklist (vertices th) (λ v. pass_mode th cone never atom_never v) (preds th everyone) order order [] count → Enough th cone never atom_never
    → (a : ℕ) → a < th.atoms → count a ≡ cond (missing th never atom_never a) 1 0
unfolding missing
pass_end th ok cone never atom_never bounded list enough a l = among_end th ok (cyclic th) cone never atom_never bounded list enough a l
