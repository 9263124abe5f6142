-- What each row's test leaves where it does not hold, and what rows 1 to 6 and 14 leave to the walks along the chains.
use mathlib.Core.Path.{◌≡◌, refl, sym, ap, ◌∙◌}
use mathlib.Core.Bool.{Bool, true, false, not, ◌&&◌, ◌||◌, true≢false}
use mathlib.Core.Logic.{◌⊎◌, inl, inr, ◌↔◌}
use mathlib.Core.List.{List, [], ◌∷◌, ◌++◌}
use Prim.Native.Nat.{ℕ, zero, suc, ◌+◌, ◌≤◌, ◌<◌}
use native.Mathlib.Omega.{arith}
use borrow.Author.Tests.{ltb-false, leb-false, eqb-true, not-false}
use lib.Dec.{eqb, ltb, leb}
use lib.ListN.{length, get_or}
use Rattle.theory.specs.Sets.{Is, Mem, any}
use Rattle.theory.specs.Theory.{joins}
use Rattle.theory.specs.Words.{kind_of, next_of, theory_of}
use Rattle.theory.specs.Links.{link_after, ComesBack}
use Rattle.theory.specs.Accepted.{Edition, size_of, leaf_entries, head_entries}
use Rattle.theory.proofs.SetLaws.{bool_cases, clash, any_holds}
use Rattle.theory.proofs.ChainLaws.{comes_back_lem, clear_once, links_inside, upward_clear}
use Rattle.graph.specs.Kinds.{takes_operand}
use Rattle.graph.specs.Layout.{leaf_link, head_link}
use Rattle.refusals.specs.Passed.{Sized, Linked, turns, turns_at, Chained}
use Rattle.refusals.specs.Search.{Clear}
use Rattle.refusals.specs.Answer.{Answer, accept, or_next, first_refusal}
use Rattle.refusals.specs.Refusals.{bad_edition, bad_counts, bad_size, bad_entries, bad_operand, bad_first, bad_record, bad_body, bad_next, bad_node, bad_producer, bad_link, leaves_back, heads_back}

pub or_false : (a b : Bool) → a || b ≡ false → (a ≡ false) × (b ≡ false)
or_false true b e = absurd (true≢false e)
or_false false b e = (refl, e)

-- no row of a table that accepts refuses
pub rows_accept : (rows : List Answer) → first_refusal rows ≡ accept → (i : ℕ) → (get_or rows i accept).number ≡ 0
unfolding first_refusal
rows_accept [] e i = refl
rows_accept (a ∷ rows) e i = go (bool_cases (eqb a.number 0)) (rows_accept rows) i
  where
    go : (eqb a.number 0 ≡ true) ⊎ (eqb a.number 0 ≡ false) → (first_refusal rows ≡ accept → (i : ℕ) → (get_or rows i accept).number ≡ 0) → (i : ℕ) → (get_or (a ∷ rows) i accept).number ≡ 0
    go (inl t) ih zero = eqb-true a.number 0 t
    go (inl t) ih (suc i) = ih (rw t at e) i
    go (inr f) ih i = absurd (true≢false (sym (ap (λ (x : Answer). eqb x.number 0) (rw f at e)) ∙ f))

-- a call's own rows come after the graph's
pub rows_append : (a b : List Answer) → first_refusal (a ++ b) ≡ or_next (first_refusal a) (first_refusal b)
unfolding first_refusal
rows_append [] b = refl
rows_append (x ∷ a) b = rw (rows_append a b) (go (bool_cases (eqb x.number 0)))
  where
    go : (eqb x.number 0 ≡ true) ⊎ (eqb x.number 0 ≡ false) → or_next x (or_next (first_refusal a) (first_refusal b)) ≡ or_next (or_next x (first_refusal a)) (first_refusal b)
    go (inl t) = rw t
    go (inr f) = rw (f, f)

module _ (ed : Edition) (ws : List ℕ) where
  pub edition_long : bad_edition ed ws ≡ false → 5 ≤ length ws
  unfolding bad_edition
  edition_long e = ltb-false (length ws) 5 (or_false (ltb (length ws) 5) _ e).0

  pub sized : bad_counts ed ws ≡ false → bad_size ws ≡ false → Sized ed ws
  unfolding bad_counts bad_size
  sized e g =
      let p1 = or_false (ltb ed.counts (get_or ws 1 0)) _ e in
      let p2 = or_false (ltb ed.counts (get_or ws 2 0)) _ p1.1 in
      let p3 = or_false (ltb ed.counts (get_or ws 3 0)) _ p2.1 in
      record {
        size = eqb-true (length ws) (size_of ws) (not-false _ g);
        atoms_few = ltb-false ed.counts (get_or ws 1 0) p1.0;
        nodes_few = ltb-false ed.counts (get_or ws 2 0) p2.0;
        producers_few = ltb-false ed.counts (get_or ws 3 0) p3.0;
        links_few = ltb-false ed.links (get_or ws 4 0) p3.1;
      }

  pub entries_few : bad_entries ed ws ≡ false → (leaf_entries (theory_of ws) ≤ ed.entries) × (head_entries (theory_of ws) ≤ ed.entries)
  unfolding bad_entries
  entries_few e =
      let p = or_false (ltb ed.entries (leaf_entries (theory_of ws))) _ e in
      (ltb-false ed.entries _ p.0, ltb-false ed.entries _ p.1)

pub record Record (kind operand first atoms links : ℕ) : Type 0 where
  pub kind_low : kind ≤ 7
  pub operand_low : takes_operand (kind_of kind) ≡ true → operand < atoms
  pub first_low : first ≤ links
  pub leafless : joins (kind_of kind) ≡ false → first ≡ 0

pub record_fine : (kind operand first atoms links : ℕ) → bad_record kind operand first atoms links ≡ false → Record kind operand first atoms links
unfolding bad_record bad_operand bad_first
record_fine kind operand first atoms links e =
    let p1 = or_false (ltb 7 kind) _ e in
    let p2 = or_false (bad_operand kind operand atoms) _ p1.1 in
    let p3 = or_false (ltb links first) _ p2.1 in
    record {
      kind_low = ltb-false 7 kind p1.0;
      operand_low = λ t. leb-false atoms operand (rw t at p2.0);
      first_low = ltb-false links first p3.0;
      leafless = λ j. eqb-true first 0 (not-false _ (rw j at p3.1));
    }

pub body_fine : (body first nodes links : ℕ) → bad_body body first nodes links ≡ false → (body ≤ nodes) × (first ≤ links)
unfolding bad_body
body_fine body first nodes links e =
    let p = or_false (ltb nodes body) _ e in
    (ltb-false nodes body p.0, ltb-false links first p.1)

pub next_fine : (next links : ℕ) → bad_next next links ≡ false → next ≤ links
unfolding bad_next
next_fine next links e = ltb-false links next e

pub upward_fine : (next l links : ℕ) → turns next l links ≡ false → (next ≡ 0) ⊎ ((l < next) × (next ≤ links))
unfolding turns
upward_fine next l links e = go (bool_cases (eqb next 0))
  where
    p : (ltb links next ≡ false) × (not (eqb next 0) && leb next l ≡ false)
    p = or_false (ltb links next) _ e

    go : (eqb next 0 ≡ true) ⊎ (eqb next 0 ≡ false) → (next ≡ 0) ⊎ ((l < next) × (next ≤ links))
    go (inl t) = inl (eqb-true next 0 t)
    go (inr f) = inr (leb-false next l (rw f at p.1), ltb-false links next p.0)

-- a link that leads upward passes row 6
pub upward_passes : (ws : List ℕ) {from r : ℕ} → Clear (turns_at ws) from r → Clear (bad_link ws) from r
unfolding bad_next turns
upward_passes ws c = record { low = c.low; none = λ i p q. (or_false (ltb (get_or ws 4 0) (next_of ws i)) _ (c.none i p q)).0 }

-- every entry of a chain that passes is below the limit
pub entry_low : (limit : ℕ) {x : ℕ} {l : List ℕ} → any (leb limit) l ≡ false → Mem x l → x < limit
entry_low limit {x} e m = go (bool_cases (leb limit x))
  where
    go : (leb limit x ≡ true) ⊎ (leb limit x ≡ false) → x < limit
    go (inl t) = clash (any_holds (leb limit) m t) e
    go (inr f) = leb-false limit x f

-- rows 4 and 5 passed: every first link is at most K
module _ (ws : List ℕ) (a : Clear (bad_node ws) 0 (get_or ws 2 0)) (b : Clear (bad_producer ws) 0 (get_or ws 3 0)) where
  -- and row 6
  pub linked : Clear (bad_link ws) 1 (get_or ws 4 0 + 1) → Linked ws
  linked c = record {
    leaf_first = λ n h. (record_fine _ _ _ _ _ (a.none n (omega arith) h)).first_low;
    head_first = λ p h. (body_fine _ _ _ _ (b.none p (omega arith) h)).1;
    next_low = λ l p q. next_fine (next_of ws l) (get_or ws 4 0) (c.none l (omega arith) (omega arith));
  }

  -- all links lead upward: rows 6 and 14 pass
  module _ (c : Clear (turns_at ws) 1 (get_or ws 4 0 + 1)) where
    up : (l : ℕ) → 0 < l → l ≤ get_or ws 4 0 → (next_of ws l ≡ 0) ⊎ ((l < next_of ws l) × (next_of ws l ≤ get_or ws 4 0))
    up l p q = upward_fine (next_of ws l) l (get_or ws 4 0) (c.none l (omega arith) (omega arith))

    pub upward_leaves : Clear (leaves_back ws) 0 (get_or ws 2 0)
    upward_leaves = record { low = omega arith; none = λ n p h. upward_clear ws up ((linked (upward_passes ws c)).leaf_first n h) }

    pub upward_heads : Clear (heads_back ws) 0 (get_or ws 3 0)
    upward_heads = record { low = omega arith; none = λ p l h. upward_clear ws up ((linked (upward_passes ws c)).head_first p h) }

module _ (ws : List ℕ) (k : Linked ws) where
  inside : {l : ℕ} → l ≤ get_or ws 4 0 → (i : ℕ) → link_after ws i l ≤ get_or ws 4 0
  inside = links_inside ws k.next_low

  -- after rows 4 to 6 the tests of 14 say exactly which chains come back to one of their own links
  pub leaves_come_back : (n : ℕ) → n < get_or ws 2 0 → Is (leaves_back ws n) ↔ ComesBack ws (leaf_link ws n)
  leaves_come_back n h = comes_back_lem ws (inside (k.leaf_first n h))

  pub heads_come_back : (p : ℕ) → p < get_or ws 3 0 → Is (heads_back ws p) ↔ ComesBack ws (head_link ws p)
  heads_come_back p h = comes_back_lem ws (inside (k.head_first p h))

  -- and where 14 passes, every chain meets no link twice
  pub chained : Clear (leaves_back ws) 0 (get_or ws 2 0) → Clear (heads_back ws) 0 (get_or ws 3 0) → Chained ws
  chained a b = record {
    leaf_chain = λ n h. clear_once ws (inside (k.leaf_first n h)) (a.none n (omega arith) h);
    head_chain = λ p h. clear_once ws (inside (k.head_first p h)) (b.none p (omega arith) h);
  }
