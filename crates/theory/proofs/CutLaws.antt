-- What more cuts do (request 7): they never make another atom founded (`more_cuts`), and cutting a part of the missing list removes exactly those atoms from it and adds none (`cut_missing`).
-- Cuts past the last number play no part (document 01: "Bits past the last number are ignored"): cuts that agree on all nodes and all atoms give the same missing list (`missing_cuts`).
-- The first two with any set of marked atoms: `among_more_cuts`, `among_cut`.
use mathlib.Core.Path.{◌≡◌, sym, ◌∙◌}
use mathlib.Core.Logic.{⊎_elim, ◌↔◌}
use mathlib.Core.Bool.{false, ◌||◌}
use Prim.Native.Nat.{ℕ, ◌<◌}
use Rattle.theory.specs.Sets.{Is, Set, ◌⊆◌}
use Rattle.theory.specs.Theory.{Theory, WellFormed}
use Rattle.theory.specs.Founded.{cyclic, founded_among, missing_among, founded, missing}
use Rattle.theory.proofs.SetLaws.{is_false, same_test, clash, or_left, or_cases, neither, neither_left, neither_right}
use Rattle.theory.proofs.TruthLaws.{fires_less}
use Rattle.theory.proofs.CycleLaws.{cyclic_walk}
use Rattle.theory.proofs.FoundedLaws.{atom_carries, among_closed, among_least, among_parts, missing_parts}

-- each member of s below n is one of t
abbrev pub Within : ℕ → Set → Set → Type 0
Within n s t = (v : ℕ) → v < n → Is (s v) → Is (t v)

-- ---- any set of marked atoms

module _ (th : Theory) (ok : WellFormed th) (marked : Set) where
  pub among_more_cuts : (never atom_never never′ atom_never′ : Set) → Within th.nodes never never′ → Within th.atoms atom_never atom_never′
      → founded_among th marked never′ atom_never′ ⊆ founded_among th marked never atom_never
  among_more_cuts never atom_never never′ atom_never′ hn ha =
      among_least th marked never′ atom_never′ (founded_among th marked never atom_never)
      (λ a p l m c low i f.
      among_closed th marked never atom_never a p l m (is_false (atom_never a) (λ z. clash (ha a l z) c)) low i
      (fires_less th ok never never′ _ _ hn (λ b k. atom_carries marked atom_never′ atom_never _ _ b (λ e. ha b k) (λ q. q)) p low f))

  -- cutting a part x of the list
  module _ (bounded : (a : ℕ) → Is (marked a) → a < th.atoms) (never atom_never x more : Set) (part : x ⊆ missing_among th marked never atom_never)
      (cut : (a : ℕ) → a < th.atoms → more a ≡ atom_never a || x a) where
    fewer : founded_among th marked never more ⊆ founded_among th marked never atom_never
    fewer = among_more_cuts never atom_never never more (λ n l q. q) (λ a l q. cut a l ∙ or_left (atom_never a) (x a) q)

    -- an uncut atom that is not on the list stays uncut
    stays : (a : ℕ) → a < th.atoms → (Is (missing_among th marked never atom_never a) → ⊥) → atom_never a ≡ false → more a ≡ false
    stays a l out e = cut a l ∙ neither (atom_never a) (x a) e (is_false (x a) (λ i. out (part a i)))

    -- an atom off the list is cut only if it was
    only : (a : ℕ) → a < th.atoms → marked a ≡ false → Is (more a) → Is (atom_never a)
    only a l e z = ⊎_elim (λ q. q) (λ i. clash ((among_parts th marked never atom_never a).0 (part a i)).0 e) (or_cases (atom_never a) (x a) (sym (cut a l) ∙ z))

    same_founded : founded_among th marked never atom_never ⊆ founded_among th marked never more
    same_founded =
        among_least th marked never atom_never (founded_among th marked never more)
        (λ a p l m c low i f.
        let was = among_closed th marked never atom_never a p l m c low i
        (fires_less th ok never never _ _ (λ n k q. q) (λ b k. atom_carries marked atom_never atom_never _ _ b (λ e z. z) (fewer b)) p low f) in
        among_closed th marked never more a p l m (stays a l (λ z. clash was ((among_parts th marked never atom_never a).0 z).2) c) low i
        (fires_less th ok never never _ _ (λ n k q. q)
        (λ b k. atom_carries marked atom_never more _ _ b (only b k) (λ q. q)) p low f))

    pub among_cut : (a : ℕ) → Is (missing_among th marked never more a) ↔ (Is (missing_among th marked never atom_never a) × (x a ≡ false))
    among_cut a = (there, back)
      where
        there : Is (missing_among th marked never more a) → Is (missing_among th marked never atom_never a) × (x a ≡ false)
        there p =
            let r = (among_parts th marked never more a).0 p in
            let free = sym (cut a (bounded a r.0)) ∙ r.1 in
            ((among_parts th marked never atom_never a).1 (r.0, neither_left (atom_never a) (x a) free, is_false _ (λ i. clash (same_founded a i) r.2)), neither_right (atom_never a) (x a) free)

        back : Is (missing_among th marked never atom_never a) × (x a ≡ false) → Is (missing_among th marked never more a)
        back q =
            let r = (among_parts th marked never atom_never a).0 q.0 in
            (among_parts th marked never more a).1 (r.0, cut a (bounded a r.0) ∙ neither (atom_never a) (x a) r.1 q.1, is_false _ (λ i. clash (fewer a i) r.2))

-- ---- the cyclic atoms

module _ (th : Theory) (ok : WellFormed th) where
  low : (a : ℕ) → Is (cyclic th a) → a < th.atoms
  low a c = ((cyclic_walk th a).0 c).0

  pub more_cuts : (never atom_never never′ atom_never′ : Set) → Within th.nodes never never′ → Within th.atoms atom_never atom_never′ → founded th never′ atom_never′ ⊆ founded th never atom_never
  unfolding founded
  more_cuts = among_more_cuts th ok (cyclic th)

  pub cut_missing : (never atom_never x more : Set) → x ⊆ missing th never atom_never → ((a : ℕ) → a < th.atoms → more a ≡ atom_never a || x a)
      → (a : ℕ) → Is (missing th never more a) ↔ (Is (missing th never atom_never a) × (x a ≡ false))
  unfolding missing
  cut_missing = among_cut th ok (cyclic th) low

-- the same cuts of all nodes, and of all atoms
pub record SameCuts (th : Theory) (never other atom_never atom_other : Set) : Type 0 where
  pub nodes : (n : ℕ) → n < th.nodes → never n ≡ other n
  pub atoms : (a : ℕ) → a < th.atoms → atom_never a ≡ atom_other a

missing_inside : (th : Theory) → WellFormed th → (never other atom_never atom_other : Set) → SameCuts th never other atom_never atom_other → missing th never atom_never ⊆ missing th other atom_other
missing_inside th ok never other atom_never atom_other same a m =
    let r = (missing_parts th never atom_never a).0 m in
    (missing_parts th other atom_other a).1 (
      r.0,
      sym (same.atoms a (low th ok a r.0)) ∙ r.1,
      is_false _ (λ i. clash (more_cuts th ok never atom_never other atom_other (λ n l q. sym (same.nodes n l) ∙ q) (λ b l q. sym (same.atoms b l) ∙ q) a i) r.2),
    )

pub missing_cuts : (th : Theory) → WellFormed th → (never other atom_never atom_other : Set) → SameCuts th never other atom_never atom_other → (a : ℕ) → missing th never atom_never a ≡ missing th other atom_other a
missing_cuts th ok never other atom_never atom_other same a =
    same_test _ _ (missing_inside th ok never other atom_never atom_other same a)
    (missing_inside th ok other never atom_other atom_never (record { nodes = λ n l. sym (same.nodes n l); atoms = λ b l. sym (same.atoms b l) }) a)
