-- How many edges lead to a vertex. To a node: one from its operand (`degree_operand`) or one from each leaf (`degree_leaves`). To an atom: a fact adds none
-- (`below_fact`), and a producer with a body one for each time that it has the atom as a head (`below_heads`).
use mathlib.Core.Path.{◌≡◌, refl, sym, ap, ◌∙◌}
use mathlib.Core.Logic.{◌≢◌}
use mathlib.Core.Bool.{Bool, true, false, not, cond}
use Rattle.std.specs.Prelude.{Option, None, Some, SomeIff}
use Rattle.std.specs.Option.{is_some}
use mathlib.Core.List.{List, [], ◌∷◌}
use Prim.Native.Nat.{ℕ, zero, suc, ◌+◌, ◌-◌, ◌≤◌, ◌<◌}
use native.Mathlib.Omega.{arith}
use native.Mathlib.Decide.{ℕ_discrete, dec_lt}
use borrow.Author.Tests.{lt-ltb, le-ltb}
use lib.Dec.{eqb}
use lib.ListN.{length, length-append, length-map}
use Rattle.theory.specs.Sets.{everyone}
use Rattle.theory.specs.Counts.{count_in, occ}
use Rattle.theory.specs.Theory.{Theory, Kind, False, Atom, And, Or, Opaque, Absorbed, joins}
use Rattle.theory.specs.Edges.{occurrences, body_entries, bodies_below, inputs, preds}
use Rattle.theory.proofs.SetLaws.{clash}
use Rattle.theory.proofs.EdgeLaws.{preds_atom, preds_node}
use Rattle.graph.specs.Kinds.{takes_operand}
use Rattle.cycles.specs.Held.{degree_by}

occurs_length : (x a : ℕ) (hs : List ℕ) → length (occurrences x a hs) ≡ occ a hs
unfolding occurrences count_in
occurs_length x a [] = refl
occurs_length x a (h ∷ hs) = go (eqb a h) (occurs_length x a hs)
  where
    go : (b : Bool) → length (occurrences x a hs) ≡ occ a hs → length (cond b (x ∷ occurrences x a hs) (occurrences x a hs)) ≡ cond b (suc (occ a hs)) (occ a hs)
    go true e = ap suc e
    go false e = e

-- ---- a body, or none for a fact

pub body_none : (r : Option ℕ) {n : ℕ} {none : Bool} → SomeIff r (0 < n) (n - 1) → is_some r ≡ not none → none ≡ true → n ≡ 0
body_none None is e z = omega arith
body_none (Some m) is e z = clash refl (e ∙ ap not z)

pub body_some : (r : Option ℕ) {n : ℕ} {none : Bool} → SomeIff r (0 < n) (n - 1) → is_some r ≡ not none → none ≡ false → n ≢ 0
body_some None is e z q = clash (e ∙ ap not z) refl
body_some (Some m) is e z q = let p = is.0 in absurd (omega arith)

module _ (th : Theory) where
  -- ---- atoms

  pub below_fact : (a p : ℕ) → th.body p ≡ 0 → length (bodies_below th a (suc p)) ≡ length (bodies_below th a p)
  unfolding bodies_below body_entries
  below_fact a p e = length-append (bodies_below th a p) (body_entries th a (th.body p) (th.heads p)) ∙ rw e (omega arith)

  pub below_heads : (a p : ℕ) → th.body p ≢ 0 → length (bodies_below th a (suc p)) ≡ length (bodies_below th a p) + occ a (th.heads p)
  unfolding bodies_below body_entries
  below_heads a p n = length-append (bodies_below th a p) (body_entries th a (th.body p) (th.heads p)) ∙ ap (λ (k : ℕ). length (bodies_below th a p) + k) (go (th.body p) n)
    where
      go : (body : ℕ) → body ≢ 0 → length (body_entries th a body (th.heads p)) ≡ occ a (th.heads p)
      go zero z = absurd (z refl)
      go (suc m) z = occurs_length (th.atoms + m) a (th.heads p)

  below_few : (a p q : ℕ) → p ≤ q → length (bodies_below th a p) ≤ length (bodies_below th a q)
  unfolding bodies_below
  below_few a p zero l = let e : p ≡ 0 = omega arith in omega (arith, ap (λ (n : ℕ). length (bodies_below th a n)) e)
  below_few a p (suc q) l = go (ℕ_discrete p (suc q)) (below_few a p q)
    where
      go : Dec (p ≡ suc q) → (p ≤ q → length (bodies_below th a p) ≤ length (bodies_below th a q)) → length (bodies_below th a p) ≤ length (bodies_below th a (suc q))
      go (yes e) few = omega (arith, ap (λ (n : ℕ). length (bodies_below th a n)) e)
      go (no n) few = omega (arith, few (omega arith), length-append (bodies_below th a q) (body_entries th a (th.body q) (th.heads q)))

  -- ---- nodes

  module _ (n : ℕ) (l : n < th.nodes) where
    degree_inputs : length (preds th everyone (th.atoms + n)) ≡ length (inputs th (th.kind n) n)
    degree_inputs = ap length (preds_node th everyone n l refl)

    pub degree_operand : takes_operand (th.kind n) ≡ true → length (preds th everyone (th.atoms + n)) ≡ 1
    unfolding inputs takes_operand
    degree_operand q = degree_inputs ∙ go (th.kind n) q
      where
        go : (k : Kind) → takes_operand k ≡ true → length (inputs th k n) ≡ 1
        go False q = clash refl (sym q)
        go Atom q = refl
        go And q = clash refl (sym q)
        go Or q = clash refl (sym q)
        go Opaque q = clash refl (sym q)
        go Absorbed q = clash refl (sym q)

    pub degree_leaves : takes_operand (th.kind n) ≡ false → (joins (th.kind n) ≡ false → th.leaves n ≡ []) → length (preds th everyone (th.atoms + n)) ≡ length (th.leaves n)
    unfolding inputs joins takes_operand
    degree_leaves q none = degree_inputs ∙ go (th.kind n) q none
      where
        go : (k : Kind) → takes_operand k ≡ false → (joins k ≡ false → th.leaves n ≡ []) → length (inputs th k n) ≡ length (th.leaves n)
        go False q none = omega (arith, ap length (none refl))
        go Atom q none = clash refl q
        go And q none = length-map (th.leaves n) (λ m. th.atoms + m)
        go Or q none = length-map (th.leaves n) (λ m. th.atoms + m)
        go Opaque q none = omega (arith, ap length (none refl))
        go Absorbed q none = omega (arith, ap length (none refl))

  -- ---- a vertex

  pub degree_atom : (p v : ℕ) → v < th.atoms → degree_by th p v ≡ length (bodies_below th v p)
  degree_atom p v l = ap (λ (b : Bool). cond b (length (bodies_below th v p)) (length (preds th everyone v))) (lt-ltb v th.atoms l)

  pub degree_node : (p v : ℕ) → th.atoms ≤ v → degree_by th p v ≡ length (preds th everyone v)
  degree_node p v l = ap (λ (b : Bool). cond b (length (bodies_below th v p)) (length (preds th everyone v))) (le-ltb v th.atoms l)

  pub degree_all : (v : ℕ) → degree_by th th.producers v ≡ length (preds th everyone v)
  degree_all v = go (dec_lt v th.atoms)
    where
      go : Dec (v < th.atoms) → degree_by th th.producers v ≡ length (preds th everyone v)
      go (yes l) = omega (arith, degree_atom th.producers v l, ap length (preds_atom th everyone v l))
      go (no l) = degree_node th.producers v (omega arith)

  pub degree_few : (p v : ℕ) → p ≤ th.producers → degree_by th p v ≤ length (preds th everyone v)
  degree_few p v h = go (dec_lt v th.atoms)
    where
      go : Dec (v < th.atoms) → degree_by th p v ≤ length (preds th everyone v)
      go (yes l) = omega (arith, degree_atom p v l, ap length (preds_atom th everyone v l), below_few v p th.producers h)
      go (no l) = omega (arith, degree_node p v (omega arith))
