-- A node's start state by the kind table: each test of `read` settles it.
use mathlib.Core.Path.{◌≡◌, refl, sym, ap, ◌∙◌}
use mathlib.Core.Bool.{Bool, true, false, not, ◌&&◌, cond}
use mathlib.Core.List.{List}
use Prim.Native.Nat.{ℕ, ◌+◌, ◌≤◌, ◌<◌, zero-le}
use native.Mathlib.Omega.{arith}
use lib.Dec.{ltb}
use lib.ListN.{length, get_or}
use borrow.Author.Tests.{lt-ltb}
use Rattle.theory.specs.Sets.{Set, Is, everyone}
use Rattle.theory.specs.Edges.{preds}
use Rattle.theory.specs.Theory.{Kind, False, Atom, And, Or, Opaque, Absorbed}
use Rattle.theory.specs.Closure.{Mode, dead, free, single, every}
use Rattle.theory.specs.Words.{theory_of}
use Rattle.theory.specs.Accepted.{Edition, Accepted}
use Rattle.theory.specs.Pass.{live, kind_mode, node_mode_among, pass_mode_among}
use Rattle.theory.specs.Starting.{waits}
use Rattle.theory.proofs.SetLaws.{clash}
use Rattle.theory.proofs.CountLaws.{sum_one}
use Rattle.theory.proofs.PassLaws.{node_among}
use Rattle.theory.proofs.PassStartLaws.{among_waits}
use Rattle.graph.specs.Kinds.{takes_operand, waits_for_one, waits_for_all, starts_true}
use Rattle.graph.specs.Layout.{NodeIn}
use Rattle.area.specs.declared.Bases.{Bases}
use Rattle.area.specs.Layout.{Based}
use Rattle.initialization.specs.declared.Initial.{Initial}
use Rattle.initialization.specs.declared.Initial.TheVariants.{Inactive, Awaiting, True}
use Rattle.initialization.specs.Start.{initial_of, initial_at}

-- what an uncut node waits for, by its kind's row in the table
abbrev by_table : (starts operand one all : Bool) → (marked cut : Bool) → Mode
by_table starts operand one all m c = cond starts free (cond operand (kind_mode Atom m c) (cond one single (cond all every dead)))

by_table_lem : (k : Kind) (m c : Bool) → kind_mode k m c ≡ by_table (starts_true k) (takes_operand k) (waits_for_one k) (waits_for_all k) m c
unfolding kind_mode starts_true takes_operand waits_for_one waits_for_all
by_table_lem False m c = refl
by_table_lem Atom m c = refl
by_table_lem And m c = refl
by_table_lem Or m c = refl
by_table_lem Opaque m c = refl
by_table_lem Absorbed m c = refl

off : (x y z : Bool) (m : Mode) → Is z → live (x && y && not z) m ≡ dead
unfolding live
off x y false m e = clash e refl
off true true true m e = refl
off true false true m e = refl
off false y true m e = refl

on : (x y z : Bool) (m : Mode) → Is x → Is y → z ≡ false → live (x && y && not z) m ≡ m
unfolding live
on true true false m p q r = refl
on true true true m p q r = clash refl r
on true false z m p q r = clash q refl
on false y z m p q r = clash p refl

pub initial_cut : (ws : List ℕ) (marked cone never atom_never : Set) (n : ℕ) → Is (never n) → Inactive ≡ initial_at ws marked cone never atom_never n
unfolding node_mode_among initial_of
initial_cut ws marked cone never atom_never n h =
    sym (ap (λ (m : Mode). initial_of m (length ((theory_of ws).leaves n))) (off (ltb n (theory_of ws).nodes) (cone n) (never n) _ h))

-- ---- what an accepted graph says of a node of the cone

module _ {ed : Edition} {ws : List ℕ} (acc : Accepted ed ws) (n : ℕ) (low : n < (theory_of ws).nodes) where
  pub cone_node : NodeIn ws n
  unfolding theory_of
  cone_node = record { size = acc.size; below = low }

  pub operand_in : takes_operand ((theory_of ws).kind n) ≡ true → (theory_of ws).operand n < (theory_of ws).atoms
  unfolding takes_operand theory_of
  operand_in o = acc.well_formed.operand_low n low (go ((theory_of ws).kind n) o)
    where
      go : (k : Kind) → takes_operand k ≡ true → k ≡ Atom
      go False q = clash q refl
      go Atom q = refl
      go And q = clash q refl
      go Or q = clash q refl
      go Opaque q = clash q refl
      go Absorbed q = clash q refl

  pub leaves_few : length ((theory_of ws).leaves n) ≤ ed.entries
  unfolding theory_of
  leaves_few = let h = sum_one (get_or ws 2 0) (λ m. length ((theory_of ws).leaves m)) n low in let k = acc.leaf_total in omega arith

  -- by the kind table, for an uncut node whose kind is k
  pub initial_uncut : (marked cone : Set) → Is (cone n) → (never atom_never : Set) → never n ≡ false → {k : Kind} → k ≡ (theory_of ws).kind n → {starts operand one all : Bool}
      → starts_true k ≡ starts → takes_operand k ≡ operand → waits_for_one k ≡ one → waits_for_all k ≡ all
      → initial_of (by_table starts operand one all (marked ((theory_of ws).operand n)) (atom_never ((theory_of ws).operand n))) (length ((theory_of ws).leaves n)) ≡ initial_at ws marked cone never atom_never n
  unfolding node_mode_among theory_of
  initial_uncut marked cone i never atom_never u e s o q a =
      ap (λ (m : Mode). initial_of m (length ((theory_of ws).leaves n)))
      (sym (on (ltb n (theory_of ws).nodes) (cone n) (never n) _ (lt-ltb n _ low) i u
      ∙ rw (sym e) (by_table_lem _ _ _ ∙ rw (s, o, q, a) refl)))

-- ---- what the start state says

initial_dead : (m : Mode) (n : ℕ) → initial_of m n ≡ Inactive → m ≡ dead
unfolding initial_of
initial_dead dead n e = refl
initial_dead free n e = absurd (let z : ◌≡◌ {A = ℕ} 0 1 = cc in omega arith)
initial_dead single n e = absurd (let z : ◌≡◌ {A = ℕ} 0 1 = cc in omega arith)
initial_dead every n e = absurd (let z : ◌≡◌ {A = ℕ} 0 1 = cc in omega arith)

-- found at once, or once it has met k entries
initial_true : (m : Mode) (n : ℕ) → initial_of m n ≡ True → (waits m n ≡ 0) × (m ≡ dead → ⊥)
unfolding initial_of waits
initial_true dead n e = absurd (let z : ◌≡◌ {A = ℕ} 0 1 = cc in omega arith)
initial_true free n e = (refl, λ d. let z : ◌≡◌ {A = ℕ} 0 1 = cc in omega arith)
initial_true single n e = absurd (let z : ◌≡◌ {A = ℕ} 0 1 = cc in omega arith)
initial_true every n e = absurd (let z : ◌≡◌ {A = ℕ} 0 1 = cc in omega arith)

initial_waits : (m : Mode) (n k : ℕ) → initial_of m n ≡ Awaiting k → (waits m n ≡ k) × (m ≡ dead → ⊥)
unfolding initial_of waits
initial_waits dead n k e = absurd (let z : ◌≡◌ {A = ℕ} 0 1 = cc in omega arith)
initial_waits free n k e = absurd (let z : ◌≡◌ {A = ℕ} 0 1 = cc in omega arith)
initial_waits single n k e = (cc, λ d. let z : ◌≡◌ {A = ℕ} 0 1 = cc in omega arith)
initial_waits every n k e = (cc, λ d. let z : ◌≡◌ {A = ℕ} 0 1 = cc in omega arith)

few : (m : Mode) (n : ℕ) → waits m n ≤ 1 + n
unfolding waits
few dead n = zero-le
few free n = zero-le
few single n = omega arith
few every n = omega arith

-- of the vertex that a node of the cone of an accepted graph is; i: its start state
module _ {ed : Edition} {ws : List ℕ} (acc : Accepted ed ws) (marked cone never atom_never : Set) {b : Bases} {words : ℕ} (base : Based ws words b) (n : ℕ) (low : n < (theory_of ws).nodes)
    {i : Initial} (is : i ≡ initial_at ws marked cone never atom_never n) where
  abbrev mode : Mode
  mode = pass_mode_among (theory_of ws) marked cone never atom_never (b.atoms + n)

  abbrev due : ℕ
  due = waits mode (length (preds (theory_of ws) everyone (b.atoms + n)))

  vertex : b.atoms + n ≡ (theory_of ws).atoms + n
  unfolding theory_of
  vertex = let e = base.atoms in omega arith

  same_mode : mode ≡ node_mode_among (theory_of ws) marked cone never atom_never n
  same_mode = rw vertex (node_among (theory_of ws) marked cone never atom_never n)

  same_waits : due ≡ waits (node_mode_among (theory_of ws) marked cone never atom_never n) (length ((theory_of ws).leaves n))
  unfolding theory_of
  same_waits = rw vertex (among_waits (theory_of ws) marked cone never atom_never n low)

  pub told_dead : i ≡ Inactive → mode ≡ dead
  told_dead e = same_mode ∙ initial_dead _ _ (sym is ∙ e)

  pub told_true : i ≡ True → (due ≡ 0) × (mode ≡ dead → ⊥)
  told_true e = let r = initial_true _ _ (sym is ∙ e) in (same_waits ∙ r.0, λ d. r.1 (sym same_mode ∙ d))

  pub told_waits : {k : ℕ} → i ≡ Awaiting k → (due ≡ k) × (mode ≡ dead → ⊥)
  told_waits {k} e = let r = initial_waits _ _ k (sym is ∙ e) in (same_waits ∙ r.0, λ d. r.1 (sym same_mode ∙ d))

  pub told_fits : {k : ℕ} → i ≡ Awaiting k → k ≤ 1 + ed.entries
  told_fits {k} e =
      let r : due ≡ k = (told_waits e).0 in
      let s = same_waits in
      let f = few (node_mode_among (theory_of ws) marked cone never atom_never n) (length ((theory_of ws).leaves n)) in
      let h = leaves_few acc n low in
      omega arith
