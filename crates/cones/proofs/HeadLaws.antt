-- The heads of a producer: head after head (`heads_start`, `flag_in`, `heads_next`, `heads_end`), and whether there is one (`headed_some`).
use mathlib.Core.Path.{◌≡◌, refl, sym, ap, ◌∙◌}
use mathlib.Core.Bool.{Bool, false, ◌||◌}
use mathlib.Core.List.Memᴰ
use mathlib.Core.List.{List, [], ◌∷◌}
use Prim.Native.Nat.{ℕ, zero, suc, ◌+◌, ◌<◌}
use native.Mathlib.Omega.{arith}
use borrow.Author.Tests.{lt-ltb}
use lib.Dec.{eqb, ltb}
use lib.ListN.{get_or}
use Rattle.theory.specs.Sets.{Mem, any, filled}
use Rattle.theory.specs.Theory.{Theory}
use Rattle.theory.specs.Words.{producer_at, chain, theory_of}
use Rattle.theory.specs.Links.{MeetsOnce}
use Rattle.theory.specs.Founded.{cyclic}
use Rattle.theory.specs.Accepted.{Edition, Accepted}
use Rattle.theory.proofs.SetLaws.{or_none, or_assoc, same_test, eq_is, is_eq}
use Rattle.theory.proofs.ChainLaws.{chain_end, chain_step}
use Rattle.graph.proofs.DecodeLaws.{the_heads}
use Rattle.area.specs.declared.Bases.{Bases}
use Rattle.area.specs.Layout.{Based}
use Rattle.cones.specs.Cones.{headed, cyclic_headed, Flagged}

-- on the way along the heads of producer p, with the list `rest` to come: whether a cyclic one was found so far
pub record Heads (th : Theory) (p : ℕ) (rest : List ℕ) (found : Bool) : Type 0 where
  pub low : (a : ℕ) → Mem a rest → a < th.atoms
  pub left : found || any (cyclic th) rest ≡ cyclic_headed th p

-- their chain begins at link `first`
module _ {ed : Edition} {ws : List ℕ} (acc : Accepted ed ws) {p : ℕ} (h : p < (theory_of ws).producers) {first : ℕ} (e : first ≡ get_or ws (producer_at ws p + 1) 0) where
  the_chain : chain ws first ≡ (theory_of ws).heads p
  the_chain = ap (chain ws) e ∙ sym (the_heads ws p)

  pub heads_once : MeetsOnce ws first
  unfolding theory_of
  heads_once = rw e (acc.head_chain p h)

  pub heads_start : Heads (theory_of ws) p (chain ws first) false
  heads_start = record { low = λ a i. acc.well_formed.head_low p a h (rw the_chain at i); left = ap (any (cyclic (theory_of ws))) the_chain }

  pub headed_some : ltb 0 first ≡ headed (theory_of ws) p
  unfolding filled
  headed_some = go first refl ∙ ap filled the_chain
    where
      go : (l : ℕ) → first ≡ l → ltb 0 l ≡ filled (chain ws first)
      go zero f = ap filled (sym (chain_end ws) ∙ ap (chain ws) (sym f))
      go (suc l) f = lt-ltb 0 (suc l) (omega arith) ∙ ap filled (sym (chain_step ws heads_once (λ z. omega arith)))

module _ {th : Theory} {p : ℕ} {found : Bool} where
  pub heads_end : Heads th p [] found → found ≡ cyclic_headed th p
  unfolding any
  heads_end h = sym (or_none found) ∙ h.left

  -- x: the next head
  module _ {x : ℕ} {rest : List ℕ} (h : Heads th p (x ∷ rest) found) where
    head_low : x < th.atoms
    head_low = h.low x (Memᴰ.head refl)

    -- f: its flag
    module _ (b : Bases) (w : List ℕ) (flagged : Flagged th b w) {f : ℕ} (ef : f ≡ get_or w (b.cyclic_atoms + x) 0) where
      test : eqb f 1 ≡ cyclic th x
      test = same_test (eqb f 1) (cyclic th x) (λ o. (flagged x head_low).0 (sym ef ∙ eq_is f 1 o)) (λ c. is_eq f 1 (ef ∙ (flagged x head_low).1 c))

      pub heads_next : Heads th p rest (found || eqb f 1)
      unfolding any
      heads_next = record {
        low = λ a i. h.low a (Memᴰ.tail i);
        left = or_assoc found (eqb f 1) (any (cyclic th) rest) ∙ ap (λ (t : Bool). found || (t || any (cyclic th) rest)) test ∙ h.left;
      }

-- the flag of the next head stands before the end
pub flag_in : {ws : List ℕ} {p x : ℕ} {rest : List ℕ} {found : Bool} {words : ℕ} {b : Bases} → Heads (theory_of ws) p (x ∷ rest) found → Based ws words b → b.cyclic_atoms + x < b.end
unfolding theory_of
flag_in {x = x} h based = let k = based.laid in let a = based.atoms in let q = h.low x (Memᴰ.head refl) in omega arith
