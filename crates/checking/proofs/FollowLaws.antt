-- A walk over the chains of all places, testing and counting each entry: what holds between two chains and along one, an entry at a time. And one chain
-- followed for at most K links (`toward-..`).
use mathlib.Core.Path.{◌≡◌, refl, sym, ap, ◌∙◌, subst}
use mathlib.Core.Bool.{true, false, not, ◌||◌}
use mathlib.Core.List.{List, [], ◌∷◌}
use Prim.Native.Nat.{ℕ, ◌+◌, ◌≤◌, ◌<◌}
use native.Mathlib.Numerals.{add-one}
use native.Mathlib.Omega.{arith}
use native.Mathlib.Decide.{ℕ_discrete}
use borrow.Author.Tests.{le-leb, lt-leb, eq-eqb, ne_eqb}
use lib.Dec.{leb, eqb}
use lib.ListN.{length, get_or}
use Rattle.theory.specs.Sets.{any, sum_below}
use Rattle.theory.specs.Words.{next_of, chain}
use Rattle.theory.specs.Links.{link_after, comes_back}
use Rattle.theory.proofs.ChainLaws.{after_step, after_none, ends_clear, runs_back}
use Rattle.refusals.specs.Search.{Clear, First}
use Rattle.checking.specs.Walked.{bad_place, entries_of}
use Rattle.refusals.proofs.SearchLaws.{clear_none, clear_more, first_found, first_none}

module _ (ws : List ℕ) (limit first : ℕ → ℕ) where
  -- the places below n are done
  pub record Between (n entries : ℕ) : Type 0 where
    pub clear : Clear (bad_place ws limit first) 0 n
    pub counted : entries ≡ sum_below n (entries_of ws first)

  -- on the way along the chain of place n, with the entries `rest` to come
  pub record Along (n entries : ℕ) (rest : List ℕ) : Type 0 where
    pub same : any (leb (limit n)) rest ≡ bad_place ws limit first n
    pub counted : entries + length rest ≡ entries_of ws first n + sum_below n (entries_of ws first)

module _ {ws : List ℕ} {limit first : ℕ → ℕ} where
  pub between_none : Between ws limit first 0 0
  unfolding sum_below
  between_none = record { clear = clear_none 0; counted = refl }

  pub between_all : {n entries end : ℕ} → Between ws limit first n entries → n ≡ end
      → (entries ≡ sum_below end (entries_of ws first)) × First (bad_place ws limit first) 0 end end
  between_all {n} {entries} b e =
      subst (λ (m : ℕ). (entries ≡ sum_below m (entries_of ws first)) × First (bad_place ws limit first) 0 m m) e (b.counted, first_none b.clear refl)

  pub along_first : {n entries l : ℕ} → Between ws limit first n entries → l ≡ first n → Along ws limit first n entries (chain ws l)
  along_first b e = rw e (record { same = refl; counted = let c = b.counted in omega arith })

  pub along_end : {n entries before : ℕ} → Along ws limit first n entries [] → Between ws limit first n before → Between ws limit first (n + 1) entries
  unfolding sum_below any
  along_end a b = let c = a.counted in record { clear = clear_more b.clear (sym a.same); counted = rw add-one (omega arith) }

  -- v is the next entry
  module _ {n entries v : ℕ} {rest : List ℕ} (a : Along ws limit first n entries (v ∷ rest)) where
    step : bad_place ws limit first n ≡ leb (limit n) v || any (leb (limit n)) rest
    unfolding any
    step = sym a.same

    pub along_wrong : {before end : ℕ} → limit n ≤ v → Between ws limit first n before → n < end → (n < end) × First (bad_place ws limit first) 0 end n
    along_wrong h b k = (k, first_found b.clear k (step ∙ rw (le-leb _ _ h) refl))

    pub along_next : v < limit n → Along ws limit first n (entries + 1) rest
    along_next h = let c = a.counted in record { same = sym (step ∙ rw (lt-leb _ _ h) refl); counted = omega arith }

-- ---- one chain, followed for at most K links

-- `left` links after link l the chain is where it is after K
pub record Toward (ws : List ℕ) (first left l : ℕ) : Type 0 where
  pub low : l ≤ get_or ws 4 0
  pub same : link_after ws left l ≡ link_after ws (get_or ws 4 0) first

pub toward_first : {ws : List ℕ} {first left : ℕ} → first ≤ get_or ws 4 0 → left ≡ get_or ws 4 0 → Toward ws first left first
toward_first {ws} {first} h e = record { low = h; same = ap (λ (k : ℕ). link_after ws k first) e }

module _ {ws : List ℕ} {first left l : ℕ} (t : Toward ws first left l) where
  pub toward_end : l ≡ 0 → comes_back ws first ≡ false
  toward_end z = ends_clear ws first (sym t.same ∙ ap (link_after ws left) z ∙ after_none ws left)

  pub toward_back : (l ≡ 0 → ⊥) → left ≡ 0 → comes_back ws first ≡ true
  unfolding link_after
  toward_back z e = runs_back ws first (λ q. z (sym (ap (λ (k : ℕ). link_after ws k l) e) ∙ t.same ∙ q))

  pub toward_next : (l ≡ 0 → ⊥) → {rest m : ℕ} → rest + 1 ≡ left → m ≡ next_of ws l → next_of ws l ≤ get_or ws 4 0 → Toward ws first rest m
  toward_next z {rest} {m} e n h = rw n (record { low = h; same = sym (after_step ws rest left l z e) ∙ t.same })

  -- no link is left to follow
  pub toward_last : left ≡ 0 → not (eqb l 0) ≡ comes_back ws first
  toward_last e = go (ℕ_discrete l 0)
    where
      go : Dec (l ≡ 0) → not (eqb l 0) ≡ comes_back ws first
      go (yes z) = rw (eq-eqb l 0 z, toward_end z)
      go (no z) = rw (ne_eqb l 0 z, toward_back z e)
