-- The start of the pass: with the facts that have a cyclic head and the nodes of the cone still to be looked at, and one to wait for at each cyclic uncut
-- atom, a worklist begins (`pass_begin`); a node waits for all its leaves, for one, or for nothing (`node_waits`).
-- The same with any set of marked atoms: `among_begin`, `among_waits`.
use mathlib.Core.Path.{◌≡◌, refl, sym, ap, ap₂, ◌∙◌, subst}
use mathlib.Core.Logic.{◌⊎◌, inl, inr, ◌↔◌}
use mathlib.Core.Bool.{Bool, true, false, not, ◌&&◌, cond}
use mathlib.Core.List.Memᴰ
use mathlib.Core.List.{List, [], ◌∷◌, map}
use Prim.Native.Nat.{ℕ, ◌+◌, ◌-◌, ◌≤◌, ◌<◌}
use native.Mathlib.Omega.{arith}
use native.Mathlib.Decide.{dec_lt}
use lib.Dec.{ltb}
use lib.ListN.{length, length-map}
use Rattle.theory.specs.Sets.{Is, Set, everyone, Mem, any}
use Rattle.theory.specs.Counts.{Distinct}
use Rattle.theory.specs.Theory.{Theory, WellFormed, Kind, False, Atom, And, Or, Opaque, Absorbed}
use Rattle.theory.specs.Edges.{vertices, inputs, preds}
use Rattle.theory.specs.Rows.{flat_map, shifted}
use Rattle.theory.specs.Founded.{cyclic}
use Rattle.theory.specs.Closure.{Mode, dead, free, single}
use Rattle.theory.specs.Pass.{live, kind_mode, stated, atom_mode_among, node_mode_among, pass_mode_among, node_mode, pass_mode}
use Rattle.theory.specs.Starting.{waits, first_count, Starting}
use Rattle.theory.proofs.SetLaws.{clash, is_false, bool_cases, any_holds, and_left}
use Rattle.theory.proofs.EdgeLaws.{preds_node}
use Rattle.theory.proofs.RowLaws.{flat_item, flat_mem}
use Rattle.theory.proofs.CycleLaws.{cyclic_walk}
use Rattle.theory.proofs.PassLaws.{stated_by, atom_among, node_among}
use Rattle.theory.proofs.StartingLaws.{starting_begin}

distinct_shift : (a : ℕ) (l : List ℕ) → Distinct l → Distinct (map (λ n. a + n) l)
distinct_shift a [] d = tt
distinct_shift a (x ∷ l) d = ((λ m. let r = Memᴰ.of_map (λ n. a + n) l m in let e = r.2 in let q : r.0 ≡ x = omega arith in d.0 (subst (λ (z : ℕ). Mem z l) q r.1)), distinct_shift a l d.1)

-- what a node waits for, by its leaves
pub among_waits : (th : Theory) (marked cone never atom_never : Set) (n : ℕ) → n < th.nodes
    → waits (pass_mode_among th marked cone never atom_never (th.atoms + n)) (length (preds th everyone (th.atoms + n))) ≡ waits (node_mode_among th marked cone never atom_never n) (length (th.leaves n))
unfolding node_mode_among live kind_mode waits inputs
among_waits th marked cone never atom_never n l =
    ap₂ waits (node_among th marked cone never atom_never n) (ap length (preds_node th everyone n l refl))
    ∙ go (ltb n th.nodes && cone n && not (never n)) (th.kind n) (marked (th.operand n)) (atom_never (th.operand n))
  where
    go : (x : Bool) (k : Kind) (m c : Bool) → waits (live x (kind_mode k m c)) (length (inputs th k n)) ≡ waits (live x (kind_mode k m c)) (length (th.leaves n))
    go false k m c = refl
    go true False m c = refl
    go true Atom true c = refl
    go true Atom false true = refl
    go true Atom false false = refl
    go true And m c = length-map (th.leaves n) (λ m. th.atoms + m)
    go true Or m c = refl
    go true Opaque m c = refl
    go true Absorbed m c = refl

pub first_none : (s cut : Set) (v : ℕ) → s v ≡ false → first_count s cut v ≡ 0
unfolding first_count
first_none s cut v e = ap (λ (x : Bool). cond (x && not (cut v)) 1 0) e

module _ (th : Theory) (ok : WellFormed th) (marked cone never atom_never : Set) (low : (a : ℕ) → Is (marked a) → a < th.atoms) (bounded : (n : ℕ) → Is (cone n) → n < th.nodes) (facts nodes : List ℕ)
    (stating : (p : ℕ) → Mem p facts ↔ ((p < th.producers) × (th.body p ≡ 0) × Is (any marked (th.heads p)))) (in-cone : (n : ℕ) → Mem n nodes ↔ Is (cone n)) where
  heads : List ℕ
  heads = flat_map th.heads facts

  abbrev mode : ℕ → Mode
  mode v = pass_mode_among th marked cone never atom_never v

  past_atoms : (v : ℕ) → th.atoms ≤ v → marked v ≡ false
  past_atoms v h = is_false (marked v) (λ p. let l = low v p in omega arith)

  -- a head of a fact
  head_stated : (a : ℕ) → Mem a heads → (a < th.atoms) × Is (stated th a)
  unfolding heads
  head_stated a m =
      let r = flat_item th.heads a facts m in
      let k = (stating r.0).0 r.1 in
      (ok.head_low r.0 a k.0 r.2, (stated_by th a).1 (r.0, k.0, k.1, r.2))

  stated_head : (a : ℕ) → Is (marked a) → Is (stated th a) → Mem a heads
  unfolding heads
  stated_head a c h = let r = (stated_by th a).0 h in flat_mem th.heads ((stating r.0).1 (r.1, r.2, any_holds marked r.3 c)) r.3

  named : (v : ℕ) → Mem v heads → (v < vertices th) × (waits (mode v) (length (preds th everyone v)) ≡ 0)
  unfolding vertices atom_mode_among live waits
  named v m = let r = head_stated v m in (let l = r.0 in omega arith, ap (λ (x : Mode). waits x (length (preds th everyone v))) (atom_among th marked cone never atom_never v r.0) ∙ go (marked v && not (atom_never v)) (stated th v) r.1)
    where
      go : (c s : Bool) → Is s → waits (live c (cond s free single)) (length (preds th everyone v)) ≡ 0
      go true true e = refl
      go true false e = clash refl (sym e)
      go false s e = refl

  module _ (count : ℕ → ℕ) (filled : (v : ℕ) → v < vertices th → count v ≡ first_count marked atom_never v) where
    abbrev Begun : ℕ → Type 0
    Begun v = (((count v ≡ waits (mode v) (length (preds th everyone v))) × (count v ≡ 0 → mode v ≡ dead)) ⊎ Mem v (shifted th nodes)) ⊎ (Mem v heads × (mode v ≡ free) × (count v ≡ 1))

    -- dead, and waits for nothing
    idle : (v : ℕ) → mode v ≡ dead → count v ≡ 0 → Begun v
    unfolding waits
    idle v e z = inl (inl (z ∙ sym (ap (λ (x : Mode). waits x (length (preds th everyone v))) e), λ q. e))

    atom_begun : (a : ℕ) → a < th.atoms → Begun a
    unfolding vertices atom_mode_among live waits first_count
    atom_begun a l = go (marked a && not (atom_never a)) refl (stated th a) refl
      where
        is : (c s : Bool) → marked a && not (atom_never a) ≡ c → stated th a ≡ s → mode a ≡ live c (cond s free single)
        is c s e f = atom_among th marked cone never atom_never a l ∙ ap (λ (x : Bool). live x (cond (stated th a) free single)) e ∙ ap (λ (x : Bool). live c (cond x free single)) f

        counted : (c : Bool) → marked a && not (atom_never a) ≡ c → count a ≡ cond c 1 0
        counted c e = filled a (omega arith) ∙ ap (λ (x : Bool). cond x 1 0) e

        go : (c : Bool) → marked a && not (atom_never a) ≡ c → (s : Bool) → stated th a ≡ s → Begun a
        go false e s f = idle a (is false s e f) (counted false e)
        go true e true f = inr (stated_head a (and_left (marked a) _ e) f, is true true e f, counted true e)
        go true e false f = inl (inl (counted true e ∙ sym (ap (λ (x : Mode). waits x (length (preds th everyone a))) (is true false e f)), λ z. let k = counted true e in absurd (omega arith)))

    node_begun : (n : ℕ) → n < th.nodes → Begun (th.atoms + n)
    unfolding vertices node_mode_among live
    node_begun n l = go (bool_cases (cone n))
      where
        off : (x y d : Bool) (m : Mode) → y ≡ false → live (x && y && d) m ≡ dead
        off true true d m e = clash refl e
        off true false d m e = refl
        off false y d m e = refl

        go : (cone n ≡ true) ⊎ (cone n ≡ false) → Begun (th.atoms + n)
        go (inl e) = inl (inr (Memᴰ.map (λ m. th.atoms + m) ((in-cone n).1 e)))
        go (inr e) =
            idle (th.atoms + n) (node_among th marked cone never atom_never n ∙ off (ltb n th.nodes) (cone n) (not (never n)) _ e)
            (filled (th.atoms + n) (omega arith) ∙ first_none marked atom_never (th.atoms + n) (past_atoms (th.atoms + n) (omega arith)))

    pub among_begin : Distinct nodes → Starting (vertices th) mode (preds th everyone) (flat_map th.heads facts) (shifted th nodes) [] count
    unfolding vertices heads
    among_begin once = starting_begin (vertices th) mode (preds th everyone) named (distinct_shift th.atoms nodes once) new each
      where
        new : (v : ℕ) → Mem v (shifted th nodes) → (v < th.atoms + th.nodes) × (count v ≡ 0)
        new v m =
            let r = Memᴰ.of_map (λ n. th.atoms + n) nodes m in
            let k = bounded r.0 ((in-cone r.0).0 r.1) in
            let e = r.2 in
            let l : v < th.atoms + th.nodes = omega arith in
            (l, filled v l ∙ first_none marked atom_never v (past_atoms v (omega arith)))

        each : (v : ℕ) → v < th.atoms + th.nodes → Begun v
        each v l = go (dec_lt v th.atoms)
          where
            go : Dec (v < th.atoms) → Begun v
            go (yes h) = atom_begun v h
            go (no h) = let e : th.atoms + (v - th.atoms) ≡ v = omega arith in subst (λ (z : ℕ). Begun z) e (node_begun (v - th.atoms) (omega arith))

-- ---- the cyclic atoms are marked

pub node_waits : (th : Theory) (cone never atom_never : Set) (n : ℕ) → n < th.nodes
    → waits (pass_mode th cone never atom_never (th.atoms + n)) (length (preds th everyone (th.atoms + n))) ≡ waits (node_mode th cone never atom_never n) (length (th.leaves n))
node_waits th = among_waits th (cyclic th)

module _ (th : Theory) (ok : WellFormed th) (cone never atom_never : Set) (bounded : (n : ℕ) → Is (cone n) → n < th.nodes) (facts nodes : List ℕ)
    (stating : (p : ℕ) → Mem p facts ↔ ((p < th.producers) × (th.body p ≡ 0) × Is (any (cyclic th) (th.heads p)))) (in-cone : (n : ℕ) → Mem n nodes ↔ Is (cone n))
    (count : ℕ → ℕ) (filled : (v : ℕ) → v < vertices th → count v ≡ first_count (cyclic th) atom_never v) where
  pub pass_begin : Distinct nodes → Starting (vertices th) (pass_mode th cone never atom_never) (preds th everyone) (flat_map th.heads facts) (shifted th nodes) [] count
  pass_begin = among_begin th ok (cyclic th) cone never atom_never (λ a p. ((cyclic_walk th a).0 p).0) bounded facts nodes stating in-cone count filled
