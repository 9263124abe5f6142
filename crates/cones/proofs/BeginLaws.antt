-- The producers, one after the other: the start (`marks_part`, `cleared_kept`, `cleared_marks`, `begun_start`), one that is not wanted (`begun_skip`), one with a body (`begun_follows`, `begun_body`) and a fact
-- (`begun_fact`). What one step keeps and the next keeps, both keep (`kept_trans`).
use mathlib.Core.Path.{◌≡◌, refl, sym, ap, ◌∙◌, subst}
use mathlib.Core.Bool.{Bool, false}
use mathlib.Core.List.Memᴰ
use mathlib.Core.List.{List, [], ◌∷◌, ◌++◌}
use Prim.Native.Nat.{ℕ, suc, ◌+◌, ◌-◌, ◌≤◌, ◌<◌, zero-le}
use native.Mathlib.Numerals.{add-one}
use native.Mathlib.Omega.{arith}
use borrow.Author.Tests.{eq-eqb, ne_eqb}
use lib.Dec.{eqb}
use lib.ListN.{length, set, take, drop, length-set}
use lib.Seq.{get_or-set_other, take-set-le, drop-set-lt}
use Rattle.theory.specs.Sets.{Is, Set, Mem, members}
use Rattle.theory.specs.Theory.{Theory, WellFormed}
use Rattle.theory.specs.Words.{theory_of}
use Rattle.theory.specs.Edges.{cone}
use Rattle.theory.specs.Accepted.{Edition, Accepted}
use Rattle.theory.specs.Drive.{Follows, Drives}
use Rattle.theory.proofs.SetLaws.{clash, and_intro, and_left, and_right, is_false}
use Rattle.theory.proofs.EdgeLaws.{cone_body}
use Rattle.area.specs.declared.Bases.{Bases}
use Rattle.area.specs.Layout.{Laid, Based}
use Rattle.area.specs.Views.{mark_of}
use Rattle.area.proofs.PartLaws.{frame_less, behind_more}
use Rattle.area.proofs.FillLaws.{Filled}
use Rattle.area.proofs.ListLaws.{list_more, list_after, drop_later}
use Rattle.cones.specs.declared.Cone.{Cone}
use Rattle.cones.specs.Cones.{node_mark, nodes_of, fact_by, Kept, Held}
use Rattle.cones.specs.Finding.{Finding, stage, Searching, Begun}
use Rattle.cones.proofs.FindLaws.{find_start, find_same, find_producer}
use Rattle.cones.proofs.FactLaws.{members_in, members_out}
use Rattle.cones.proofs.SearchLaws.{search_on, search_end}

pub kept_none : {b : Bases} {w : List ℕ} → Kept b w w
kept_none = record { size = refl; tables = refl; flags = refl }

pub kept_trans : {b : Bases} {w w' w'' : List ℕ} → Kept b w w' → Kept b w' w'' → Kept b w w''
kept_trans k l = record { size = l.size ∙ k.size; tables = l.tables ∙ k.tables; flags = l.flags ∙ k.flags }

-- the nodes' marks are cleared
pub marks_part : {b : Bases} {words : ℕ} → Laid b → b.end ≤ words → (b.states + b.atoms ≤ b.states + b.atoms + b.nodes) × (b.states + b.atoms + b.nodes ≤ words)
marks_part laid ends = (omega arith, omega arith)

module _ {b : Bases} (laid : Laid b) {w w' : List ℕ} (c : Filled (b.states + b.atoms) (b.states + b.atoms + b.nodes) 0 w w') where
  pub cleared_kept : Kept b w w'
  cleared_kept = record { size = c.size; tables = frame_less (b.states + b.atoms) w w' c.before b.states (omega arith); flags = behind_more (b.states + b.atoms + b.nodes) w w' c.after b.cyclic_atoms (omega arith) }

  pub cleared_marks : (n : ℕ) → n < b.nodes → node_mark b w' n ≡ 0
  cleared_marks n l = c.at (mark_of b (b.atoms + n)) (omega arith) (omega arith)

pub begun_start : {lim : ℕ} {ed : Edition} → ed.counts ≤ lim → {ws : List ℕ} → Accepted ed ws → {b : Bases} {w : List ℕ} → Based ws (length w) b → (wanted : Set)
    → ((n : ℕ) → n < b.nodes → node_mark b w n ≡ 0) → Begun lim (theory_of ws) wanted b w 0 (record { nodes = 0; facts = 0 })
unfolding theory_of members
begun_start le acc base wanted zeros = record {
  search = record {
    laid = base.laid;
    ends = base.ends;
    nodes = base.nodes;
    small = let e = base.nodes in let h = acc.nodes_few in omega arith;
    behind = zero-le;
    room = zero-le;
    finding = find_start (λ n l. zeros n (let e = base.nodes in omega arith));
    beyond = refl;
  };
  producers = base.producers;
  few = let e = base.producers in let h = acc.producers_few in omega arith;
  low = zero-le;
  listed = zero-le;
  facts = refl;
}

-- what the search keeps
pub kept_end : {lim : ℕ} {th : Theory} {wanted : Set} {p next : ℕ} {b : Bases} {w w' : List ℕ} {count : ℕ} → Searching lim b (stage th wanted p next (drop b.fact_rows w)) w' count [] → length w' ≡ length w
    → take b.states w' ≡ take b.states w → Kept b w w'
kept_end {b = b} {w} {w'} s size frame = record {
  size = size;
  tables = frame;
  flags = let l = s.laid in drop_later b.fact_rows b.cyclic_atoms w w' (omega arith) s.beyond;
}

-- producer p; r: whether it is wanted
module _ {lim : ℕ} {th : Theory} {wanted : Set} {b : Bases} {w : List ℕ} {p : ℕ} {c : Cone} (s : Begun lim th wanted b w p c) (low : p < th.producers) {r : Bool} (is : r ≡ wanted p) where
  pub begun_skip : r ≡ false → Begun lim th wanted b w (p + 1) c
  begun_skip out = record {
    search = search_on s.search refl zero-le (rw add-one (find_producer s.search.finding [] (λ n i. absurd (Memᴰ.not-nil i)) (λ n e h. clash h none))) refl;
    producers = s.producers;
    few = s.few;
    low = omega arith;
    listed = let k = s.listed in omega arith;
    facts = s.facts ∙ sym (members_out p (fact_by th wanted) (is_false (fact_by th wanted p) (λ h. clash (and_right (eqb (th.body p) 0) (wanted p) h) none)));
  }
    where
      none : wanted p ≡ false
      none = sym is ∙ out

  module _ (in' : Is r) where
    taken : Is (wanted p)
    taken = sym is ∙ in'

    -- it has a body, n, which comes next
    module _ (ok : WellFormed th) {n : ℕ} (some : (0 < th.body p) × (n ≡ th.body p - 1)) where
      body_is : th.body p ≡ suc n
      body_is = let s = some.0 in let e = some.1 in omega arith

      body_next : Searching lim b (stage th wanted (p + 1) 0 (drop b.fact_rows w)) w c.nodes (n ∷ [])
      body_next = search_on s.search refl zero-le (rw add-one (find_producer s.search.finding (n ∷ []) ahead next)) refl
        where
          ahead : (m : ℕ) → Mem m (n ∷ []) → Is (cone th wanted m)
          ahead m i =
              subst (λ (z : ℕ). Is (cone th wanted z)) (sym (Memᴰ.eq_of_singleton i))
              (cone_body th wanted p n low (ok.body_low p n low body_is) body_is taken)

          next : (m : ℕ) → th.body p ≡ suc m → Is (wanted p) → Mem m (n ∷ [])
          next m q h = let z : m ≡ n = omega (arith, body_is) in Memᴰ.head z

      pub begun_follows : Follows (Searching lim b) w c.nodes (n ∷ [])
      begun_follows = record { ctx = stage th wanted (p + 1) 0 (drop b.fact_rows w); more = []; held = body_next }

      pub begun_body : {w' : List ℕ} {t : ℕ} → Drives (Searching lim b) b.states w c.nodes (n ∷ []) w' t [] → Begun lim th wanted b w' (p + 1) (record { nodes = t; facts = c.facts }) × Kept b w w'
      begun_body {w'} {t} d = (
        record {
          search = rw beyond after;
          producers = s.producers;
          few = s.few;
          low = omega arith;
          listed = let l = s.listed in omega arith;
          facts = ap (take c.facts) beyond ∙ s.facts ∙ sym (members_out p (fact_by th wanted) (is_false (fact_by th wanted p) (λ h. clash (and_left (eqb (th.body p) 0) (wanted p) h) (ne_eqb (th.body p) 0 (λ q. omega arith)))));
        },
        kept_end after d.size d.frame,
      )
        where
          after : Searching lim b (stage th wanted (p + 1) 0 (drop b.fact_rows w)) w' t []
          after = d.keeps (stage th wanted (p + 1) 0 (drop b.fact_rows w)) [] body_next

          beyond : drop b.fact_rows w' ≡ drop b.fact_rows w
          beyond = after.beyond

    -- it is a fact, and listed
    pub begun_fact : (0 < th.body p → ⊥) → Begun lim th wanted b (set w (b.fact_rows + c.facts) p) (p + 1) (record { nodes = c.nodes; facts = c.facts + 1 }) × Kept b w (set w (b.fact_rows + c.facts) p)
    begun_fact none = (
      record {
        search = search_on s.search (length-set w at p) zero-le finding refl;
        producers = s.producers;
        few = s.few;
        low = omega arith;
        listed = let l = s.listed in omega arith;
        facts = list_more b.fact_rows c.facts w p room ∙ ap (λ (l : List ℕ). l ++ (p ∷ [])) s.facts ∙ sym (members_in p (fact_by th wanted) (and_intro (eq-eqb (th.body p) 0 (omega arith)) taken));
      },
      record {
        size = length-set w at p;
        tables = let l = s.search.laid in take-set-le b.states w at p (omega arith);
        flags = let l = s.search.laid in let f = s.listed in let q = s.producers in drop-set-lt b.cyclic_atoms w at p (omega arith);
      },
    )
      where
        at : ℕ
        at = b.fact_rows + c.facts

        room : at < length w
        room = let l = s.search.laid in let h = s.search.ends in let f = s.listed in let q = s.producers in omega arith

        finding : Finding th wanted (p + 1) (nodes_of b (set w at p) c.nodes) [] [] (node_mark b (set w at p))
        finding =
            let l = s.search.laid in
            let o = s.search.room in
            let q = s.search.nodes in
            rw (list_after b.body_nodes c.nodes w at p (omega arith), add-one)
            (find_same (find_producer s.search.finding [] (λ n i. absurd (Memᴰ.not-nil i)) (λ n y h. absurd (omega arith)))
            (λ n h. get_or-set_other w at (mark_of b (b.atoms + n)) p 0 (λ y. omega arith)))

-- the search has ended
pub held_end : {lim : ℕ} {th : Theory} {wanted : Set} {b : Bases} {w w' : List ℕ} {next count : ℕ} {c : Cone} → Begun lim th wanted b w th.producers c
    → Searching lim b (stage th wanted th.producers next (drop b.fact_rows w)) w' count [] → count ≤ next
    → Held th (cone th wanted) (fact_by th wanted) b w' (record { nodes = count; facts = c.facts })
held_end {c = c} g s l = record { found = search_end s l; few = g.listed; lists = ap (take c.facts) s.beyond ∙ g.facts }
