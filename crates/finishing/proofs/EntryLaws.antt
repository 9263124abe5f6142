-- At an entry of the vertex on top, on the words: the operand of a node (`operand_found`, `operand_passed`), a link of a chain of leaves (`InChain`) and a
-- place in an atom's row (`InRow`), as the loops over them hold them; what is read there, what is found, and what is passed over.
use mathlib.Core.Path.{◌≡◌, refl, sym, ap, ◌∙◌, subst}
use mathlib.Core.Logic.{◌≢◌}
use mathlib.Core.Bool.{Bool, true, false}
use mathlib.Core.List.{List}
use Rattle.std.specs.Prelude.{Some, None}
use Prim.Native.Nat.{ℕ, suc, ◌+◌, ◌-◌, ◌≤◌, ◌<◌}
use native.Mathlib.Omega.{arith}
use lib.Dec.{eqb}
use lib.ListN.{length, get_or, set}
use Rattle.theory.specs.Words.{node_at, next_of, chain, theory_of}
use Rattle.theory.specs.Links.{MeetsOnce}
use Rattle.theory.specs.Accepted.{Edition, Accepted}
use Rattle.theory.proofs.SetLaws.{clash, eq_is, is_eq}
use Rattle.theory.proofs.ChainLaws.{chain_falls}
use Rattle.graph.specs.Layout.{NodeIn, ProducerIn, LinksFrom, LinkIn, value_in, next_in}
use Rattle.graph.proofs.DecodeLaws.{value_of_lem, next_of_lem, link_in}
use Rattle.area.specs.declared.Bases.{Bases}
use Rattle.area.specs.Views.{mark_of, mark_in}
use Rattle.adjacency.specs.Tables.{start_at}
use Rattle.finishing.specs.Walking.{OnTop, TopNode, Looked, Passed, Found}
use Rattle.finishing.proofs.CursorLaws.{node_in}
use Rattle.finishing.proofs.PlaceLaws.{atoms_are, vertex_low}
use Rattle.finishing.proofs.LookLaws as look
use Rattle.finishing.proofs.PassedLaws.{top_under, here, mark_here, passed_none, kept, found_end, found, cursor_is, next_looking, word_is, passed_same, passed_met, entry_under}

-- what `is_new` says of a vertex
module _ {m : ℕ} {r : Bool} (s : r ≡ eqb m 1) where
  pub is_new : r ≡ true → m ≡ 1
  is_new q = eq_is m 1 (sym s ∙ q)

  not_new : r ≡ false → m ≢ 1
  not_new f q = clash (is_eq m 1 q) (sym s ∙ f)

-- ---- a node on top

module _ {ed : Edition} {ws : List ℕ} (acc : Accepted ed ws) {b : Bases} {w : List ℕ} {v : ℕ} {t : Bool} (n : TopNode ws b w v t) where
  pub top_node : NodeIn ws (v - b.atoms)
  top_node = node_in ws acc (top_under n.top.2) (atoms_are n.top.2.walking.ready.based) n.high

  -- with nothing left
  module _ {c : ℕ} (p : Passed ws b w v c) where
    pub inputs_done : c ≡ 0 → Found ws b w (set w (b.dependencies + v) 0) v None
    inputs_done z =
        subst (λ (i : ℕ). Found ws b w (set w (b.dependencies + v) i) v None) z
        (found_end p (look.node_done acc (next_looking p n.top.2) n.high (cursor_is p n.top.2) z))

-- its operand
module _ {ed : Edition} {ws : List ℕ} (acc : Accepted ed ws) {b : Bases} {w : List ℕ} {v : ℕ} (n : TopNode ws b w v true) (some : get_or w (b.dependencies + v) 0 ≢ 0) {x : ℕ}
    (ex : x ≡ get_or ws (node_at (v - b.atoms) + 1) 0) where
  p : Passed ws b w v (get_or w (b.dependencies + v) 0)
  p = passed_none refl

  looked : Looked ws b (kept p) (set (kept p) (b.dependencies + v) 0) v (Some x)
  looked = look.node_operand acc (next_looking p n.top.2) n.high (cursor_is p n.top.2) some n.kind ex

  pub operand_place : mark_of b x < length w
  operand_place = mark_here n.top.2 (vertex_low n.top.2.walking.ready.based x (entry_under p acc 0 looked n.top.2))

  module _ {r : Bool} (s : r ≡ eqb (mark_in b w x) 1) where
    pub operand_found : r ≡ true → Found ws b w (set w (b.dependencies + v) 0) v (Some x)
    operand_found q = found p acc 0 looked n.top.2 (is_new s q)

    pub operand_passed : r ≡ false → Found ws b w (set w (b.dependencies + v) 0) v None
    operand_passed q = inputs_done acc n (passed_met p acc 0 looked (not_new s q)) refl

-- ---- at link c of a chain of leaves: the words are those of the start, and what is before c is passed over

pub record InChain (ws : List ℕ) (b : Bases) (w₀ w : List ℕ) (v c : ℕ) : Type 0 where
  pub same : w ≡ w₀
  pub passed : Passed ws b w₀ v c

module _ {ed : Edition} {ws : List ℕ} (acc : Accepted ed ws) {b : Bases} {w₀ w : List ℕ} {v : ℕ} (n : TopNode ws b w₀ v false) {c : ℕ} (i : InChain ws b w₀ w v c) where
  pub leaf_cursor : b.dependencies + v < length w
  leaf_cursor = rw i.same (here n.top.2)

  pub leaf_done : c ≡ 0 → Found ws b w₀ (set w (b.dependencies + v) 0) v None
  leaf_done z = rw i.same (inputs_done acc n i.passed z)

  module _ (some : 0 < c) {from : ℕ} (lf : LinksFrom ws from) where
    ends : MeetsOnce ws c
    ends = look.link_ends acc (next_looking i.passed n.top.2) n.high (cursor_is i.passed n.top.2) (λ z. omega arith) n.kind

    pub leaf_link : LinkIn ws from c
    leaf_link = link_in lf acc ends (λ z. omega arith)

    module _ {c' : ℕ} (ec : c' ≡ next_in ws from c) where
      next_is : c' ≡ next_of ws c
      next_is = next_of_lem lf c ec some

      pub leaf_few : c' ≤ ed.links
      leaf_few = rw next_is (look.next_few acc (next_looking i.passed n.top.2) n.high (cursor_is i.passed n.top.2) (λ z. omega arith) n.kind)

      pub leaf_falls : length (chain ws c') < length (chain ws c)
      leaf_falls = rw next_is (chain_falls ws ends (λ z. omega arith))

      module _ {x : ℕ} (ex : x ≡ value_in ws from c) where
        leaf_looked : Looked ws b (kept i.passed) (set (kept i.passed) (b.dependencies + v) c') v (Some (b.atoms + x))
        leaf_looked = look.node_leaf acc (next_looking i.passed n.top.2) n.high (cursor_is i.passed n.top.2) (λ z. omega arith) n.kind next_is (value_of_lem lf c ex some)

        pub leaf_place : mark_of b (b.atoms + x) < length w
        leaf_place = rw i.same (mark_here n.top.2 (vertex_low n.top.2.walking.ready.based _ (entry_under i.passed acc c' leaf_looked n.top.2)))

        module _ {r : Bool} (s : r ≡ eqb (mark_in b w (b.atoms + x)) 1) where
          pub leaf_found : r ≡ true → Found ws b w₀ (set w (b.dependencies + v) c') v (Some (b.atoms + x))
          leaf_found q = rw i.same (found i.passed acc c' leaf_looked n.top.2 (rw i.same at (is_new s q)))

          pub leaf_passed : r ≡ false → InChain ws b w₀ w v c'
          leaf_passed q = record { same = i.same; passed = passed_met i.passed acc c' leaf_looked (rw i.same at (not_new s q)) }

-- ---- at place c of the row of atom a, which stands from s to t

pub record InRow (ws : List ℕ) (b : Bases) (w₀ w : List ℕ) (a s t c : ℕ) : Type 0 where
  pub same : w ≡ w₀
  pub from : s ≡ start_at w₀ b.by_head b.atoms a
  pub to : t ≡ start_at w₀ b.by_head b.atoms (a + 1)
  pub passed : Passed ws b w₀ a c

pub row_begin : {ws : List ℕ} {b : Bases} {w : List ℕ} {a s t c : ℕ} → s ≡ start_at w b.by_head b.atoms a → t ≡ start_at w b.by_head b.atoms (a + 1) → c ≡ get_or w (b.dependencies + a) 0
    → InRow ws b w w a s t c
row_begin f e k = record { same = refl; from = f; to = e; passed = passed_none k }

module _ {ed : Edition} {ws : List ℕ} (acc : Accepted ed ws) {b : Bases} {w₀ w : List ℕ} {a top done : ℕ} (o : OnTop ws b w₀ a top done) (low : a < b.atoms) {s t c : ℕ}
    (i : InRow ws b w₀ w a s t c) where
  start_is : (r : ℕ) → r ≤ b.atoms → start_at w₀ b.by_head b.atoms r ≡ start_at (kept i.passed) b.by_head b.atoms r
  start_is r l = ap (λ (n : ℕ). b.by_head + (b.atoms + 1) + n) (sym (word_is i.passed o (b.by_head + r) (let q = o.walking.ready.based.laid in omega arith)))

  from : s ≡ start_at (kept i.passed) b.by_head b.atoms a
  from = i.from ∙ start_is a (omega arith)

  to : t ≡ start_at (kept i.passed) b.by_head b.atoms (a + 1)
  to = i.to ∙ start_is (a + 1) (omega arith)

  pub row_cursor : b.dependencies + a < length w
  row_cursor = rw i.same (here o)

  pub row_rises : s ≤ t
  row_rises = look.row_rises acc (next_looking i.passed o) low (cursor_is i.passed o) from to

  pub row_few : t - s ≤ ed.entries
  row_few = look.row_few acc (next_looking i.passed o) low (cursor_is i.passed o) from to

  -- the cursor may stand past the end
  pub row_done : t - s ≤ c → Found ws b w₀ (set w (b.dependencies + a) (t - s)) a None
  row_done h = rw i.same (found_end over (look.atom_done acc (next_looking over o) low (cursor_is over o) (i.from ∙ other a (omega arith)) (i.to ∙ other (a + 1) (omega arith)) (omega arith)))
    where
      over : Passed ws b w₀ a (t - s)
      over = passed_same i.passed (t - s) (look.row_linked acc (next_looking i.passed o) low (cursor_is i.passed o) (t - s))
          (look.row_over acc (next_looking i.passed o) low (cursor_is i.passed o) from to (t - s) (omega arith) (omega arith))

      other : (r : ℕ) → r ≤ b.atoms → start_at w₀ b.by_head b.atoms r ≡ start_at (kept over) b.by_head b.atoms r
      other r l = ap (λ (n : ℕ). b.by_head + (b.atoms + 1) + n) (sym (word_is over o (b.by_head + r) (let q = o.walking.ready.based.laid in omega arith)))

  module _ (more : c < t - s) where
    within : s + c < b.states
    within =
        let k = (next_looking i.passed o).ready in
        let j = k.table.inside (a + 1) (let e = atoms_are k.based in omega arith) in
        let e = ap (λ (n : ℕ). start_at (kept i.passed) b.by_head n (a + 1)) (atoms_are k.based) in
        let f = to in let l = k.based.laid in
        omega arith

    pub row_place : s + c < length w
    row_place = rw i.same (let u = within in let l = o.walking.ready.based.laid in let z = o.walking.ready.based.ends in omega arith)

    module _ {p : ℕ} (ep : p ≡ get_or w (s + c) 0) where
      item : p ≡ get_or (kept i.passed) (s + c) 0
      item = ep ∙ ap (λ (l : List ℕ). get_or l (s + c) 0) i.same ∙ sym (word_is i.passed o (s + c) within)

      pub row_producer : ProducerIn ws p
      row_producer = look.producer_in acc (next_looking i.passed o) low (cursor_is i.passed o) from to (omega arith) item

      -- a fact leads nowhere
      pub fact_passed : (0 < (theory_of ws).body p → ⊥) → InRow ws b w₀ w a s t (c + 1)
      fact_passed z = record {
        same = i.same;
        from = i.from;
        to = i.to;
        passed = passed_same i.passed (c + 1) (look.row_linked acc (next_looking i.passed o) low (cursor_is i.passed o) (c + 1))
            (look.atom_fact acc (next_looking i.passed o) low (cursor_is i.passed o) from to (omega arith) item (omega arith));
      }

      module _ {n : ℕ} (e : (0 < (theory_of ws).body p) × (n ≡ (theory_of ws).body p - 1)) where
        body_is : (theory_of ws).body p ≡ suc n
        body_is = let l = e.0 in let m = e.1 in omega arith

        body_looked : Looked ws b (kept i.passed) (set (kept i.passed) (b.dependencies + a) (c + 1)) a (Some (b.atoms + n))
        body_looked = look.atom_body acc (next_looking i.passed o) low (cursor_is i.passed o) from to (omega arith) item body_is

        pub body_place : mark_of b (b.atoms + n) < length w
        body_place = rw i.same (mark_here o (look.body_fits acc (next_looking i.passed o) low (cursor_is i.passed o) from to (omega arith) item body_is))

        module _ {r : Bool} (q : r ≡ eqb (mark_in b w (b.atoms + n)) 1) where
          pub body_found : r ≡ true → Found ws b w₀ (set w (b.dependencies + a) (c + 1)) a (Some (b.atoms + n))
          body_found y = rw i.same (found i.passed acc (c + 1) body_looked o (rw i.same at (is_new q y)))

          pub body_passed : r ≡ false → InRow ws b w₀ w a s t (c + 1)
          body_passed y = record { same = i.same; from = i.from; to = i.to; passed = passed_met i.passed acc (c + 1) body_looked (rw i.same at (not_new q y)) }
