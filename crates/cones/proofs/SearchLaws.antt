-- The search as the work area has it: a node included (`search_ready`, `search_include`), the leaves of the next node of the list (`next_low`,
-- `leaves_follow`, `leaves_done`), and the end (`search_end`).
use mathlib.Core.Path.{◌≡◌, refl, sym, ap, ◌∙◌}
use mathlib.Core.Logic.{◌⊎◌, inl, inr, ◌≢◌}
use mathlib.Core.Bool.{Bool, true, false, cond}
use mathlib.Core.List.Memᴰ
use mathlib.Core.List.{List, [], ◌∷◌, ◌++◌, append-nil}
use Prim.Native.Nat.{ℕ, zero, suc, ◌+◌, ◌-◌, ◌≤◌, ◌<◌}
use native.Mathlib.Omega.{arith}
use lib.ListN.{length, get_or, set, drop, length-set, length-take, length-drop}
use lib.Seq.{get_or-set_same, get_or-set_other, take-set-le, drop-set-lt}
use Rattle.theory.specs.Sets.{Is, Set, Mem, member}
use Rattle.theory.specs.Theory.{Theory, joins}
use Rattle.theory.specs.Words.{node_at, chain, theory_of}
use Rattle.theory.specs.Links.{MeetsOnce}
use Rattle.theory.specs.Accepted.{Edition, Accepted}
use Rattle.theory.specs.Edges.{cone}
use Rattle.theory.specs.Drive.{Follows, Drives}
use Rattle.theory.proofs.SetLaws.{bool_cases, mem_member, member_mem}
use Rattle.graph.proofs.DecodeLaws.{the_leaves}
use Rattle.area.specs.declared.Bases.{Bases}
use Rattle.area.specs.Layout.{Laid}
use Rattle.area.specs.Views.{mark_of}
use Rattle.area.proofs.ListLaws.{list_more, list_before, list_after, list_entry, list_step}
use Rattle.cones.specs.Cones.{node_mark, nodes_of, Found}
use Rattle.cones.specs.Finding.{Finding, Stage, stage, Searching}
use Rattle.cones.proofs.FindLaws.{find_low, find_mark, find_skip, find_room, find_add, find_bound, find_leaves, find_end}

-- what a function that includes n needs
pub record Ready (lim : ℕ) (b : Bases) (w : List ℕ) (count n : ℕ) : Type 0 where
  pub laid : Laid b
  pub ends : b.end ≤ length w
  pub low : n < b.nodes
  pub small : b.nodes ≤ lim
  pub room : count ≤ b.nodes
  pub mark : node_mark b w n ≤ 1

module _ {lim : ℕ} {b : Bases} {w : List ℕ} {count n : ℕ} where
  search_room : {c : Stage} {todo : List ℕ} → Searching lim b c w count (n ∷ todo) → node_mark b w n ≡ 0 → count < b.nodes
  search_room s z =
      let l = s.laid in
      let e = s.ends in
      let r = s.room in
      let k : length (nodes_of b w count) ≡ count = rw (length-take, length-drop) (omega arith) in
      let h = find_room s.finding z in
      let q = s.nodes in
      omega arith

  pub search_ready : Follows (Searching lim b) w count (n ∷ []) → Ready lim b w count n
  search_ready f = let s = f.held in record {
    laid = s.laid;
    ends = s.ends;
    low = let e = s.nodes in let h = find_low s.finding in omega arith;
    small = s.small;
    room = s.room;
    mark = find_mark s.finding;
  }

  module _ (r : Ready lim b w count n) where
    -- n is marked, and stored behind the list
    abbrev marked : List ℕ
    marked = set w (mark_of b (b.atoms + n)) 1

    abbrev included : List ℕ
    included = set marked (b.body_nodes + count) n

    included_size : length included ≡ length w
    included_size = length-set marked (b.body_nodes + count) n ∙ length-set w (mark_of b (b.atoms + n)) 1

    included_same : (k : ℕ) → k ≤ count → nodes_of b included k ≡ nodes_of b w k
    included_same k h =
        let l = r.laid in let q = r.low in let e = r.room in
        list_after b.body_nodes k marked (b.body_nodes + count) n (omega arith) ∙ list_before b.body_nodes k w (mark_of b (b.atoms + n)) 1 (omega arith)

    here : node_mark b included n ≡ 1
    here =
        let l = r.laid in let q = r.low in let e = r.ends in
        get_or-set_other marked (b.body_nodes + count) (mark_of b (b.atoms + n)) n 0 (λ e. omega arith) ∙ get_or-set_same w (mark_of b (b.atoms + n)) 1 0 (omega arith)

    others : {c : Stage} {more : List ℕ} → Searching lim b c w count (n ∷ more) → (m : ℕ) → m < c.theory.nodes → m ≢ n → node_mark b included m ≡ node_mark b w m
    others s m l d =
        let k = r.laid in let q = s.nodes in
        get_or-set_other marked (b.body_nodes + count) (mark_of b (b.atoms + m)) n 0 (λ e. omega arith)
        ∙ get_or-set_other w (mark_of b (b.atoms + n)) (mark_of b (b.atoms + m)) 1 0 (λ e. d (omega arith))

    -- the search is held with n found and k nodes listed
    driven : {k : ℕ} → ((c : Stage) (more : List ℕ) → Searching lim b c w count (n ∷ more) → (k ≤ b.nodes) × (count ≤ k)
        × Finding c.theory c.wanted c.below (nodes_of b included k) (nodes_of b w c.next) more (node_mark b included))
        → Drives (Searching lim b) b.states w count (n ∷ []) included k []
    driven next =
        let l = r.laid in let q = r.low in let o = r.room in
        record {
          frame = take-set-le b.states marked (b.body_nodes + count) n (omega arith) ∙ take-set-le b.states w (mark_of b (b.atoms + n)) 1 (omega arith);
          size = included_size;
          keeps = λ c more s. let f = next c more s in record {
            laid = r.laid;
            ends = rw included_size r.ends;
            nodes = s.nodes;
            small = s.small;
            behind = let h = s.behind in let k = f.1 in omega arith;
            room = f.0;
            finding = rw (included_same c.next s.behind) f.2;
            beyond = drop-set-lt b.fact_rows marked (b.body_nodes + count) n (omega arith) ∙ drop-set-lt b.fact_rows w (mark_of b (b.atoms + n)) 1 (omega arith) ∙ s.beyond;
          };
        }

    -- whether n was marked before, x, is all that the count depends on
    pub search_include : (x : ℕ) → x ≡ node_mark b w n → Drives (Searching lim b) b.states w count (n ∷ []) included (count + 1 - x) []
    search_include zero e =
        let l = r.laid in let q = r.low in let o = r.room in let z = r.ends in
        let k : count + 1 - 0 ≡ count + 1 = omega arith in
        let more =
        list_more b.body_nodes count marked n (rw length-set (omega arith))
        ∙ ap (λ (l : List ℕ). l ++ (n ∷ [])) (list_before b.body_nodes count w (mark_of b (b.atoms + n)) 1 (omega arith)) in
        rw k (driven (λ c rest s. (let h = search_room s (sym e) in omega arith, omega arith, rw more (find_add s.finding (sym e) here (others s)))))
    search_include (suc x) e =
        let m = r.mark in
        let z : x ≡ 0 = omega arith in
        let k : count + 1 - suc x ≡ count = omega arith in
        rw k (driven (λ c rest s. (s.room, omega arith, rw (included_same count (omega arith)) (find_skip s.finding (rw z at (sym e)) here (others s)))))

-- the same nodes are found, and other ones may come next
pub search_on : {lim : ℕ} {b : Bases} {c : Stage} {w : List ℕ} {count : ℕ} {todo : List ℕ} → Searching lim b c w count todo → {p next : ℕ} {rest w' todo' : List ℕ} → length w' ≡ length w → next ≤ count
    → Finding c.theory c.wanted p (nodes_of b w' count) (nodes_of b w' next) todo' (node_mark b w') → drop b.fact_rows w' ≡ rest → Searching lim b (stage c.theory c.wanted p next rest) w' count todo'
search_on s size behind finding beyond = record {
  laid = s.laid;
  ends = rw size s.ends;
  nodes = s.nodes;
  small = s.small;
  behind = behind;
  room = s.room;
  finding = finding;
  beyond = beyond;
}

-- a node with leaves is an And or an Or
leaf_joins : {ed : Edition} {ws : List ℕ} → Accepted ed ws → (n m : ℕ) → n < (theory_of ws).nodes → Mem m ((theory_of ws).leaves n) → Is (joins ((theory_of ws).kind n))
unfolding theory_of
leaf_joins {ws = ws} acc n m l i = go (bool_cases (joins ((theory_of ws).kind n)))
  where
    go : (joins ((theory_of ws).kind n) ≡ true) ⊎ (joins ((theory_of ws).kind n) ≡ false) → Is (joins ((theory_of ws).kind n))
    go (inl h) = h
    go (inr h) = absurd (Memᴰ.not-nil (rw (acc.leafless n l h) at i))

-- n: the next node of the list. Its leaves come next
module _ {lim : ℕ} {ed : Edition} {ws : List ℕ} (acc : Accepted ed ws) {b : Bases} {wanted : Set} {p : ℕ} {w : List ℕ} {next count : ℕ} {rest : List ℕ}
    (s : Searching lim b (stage (theory_of ws) wanted p next rest) w count []) (l : next < count) {n : ℕ} (e : n ≡ get_or w (b.body_nodes + next) 0) where
  listed : Mem n (nodes_of b w count)
  listed = let k = s.laid in let h = s.ends in let r = s.room in rw e (list_entry b.body_nodes count w next l (omega arith))

  pub next_low : n < (theory_of ws).nodes
  next_low = find_bound s.finding n listed

  leaves_next : Searching lim b (stage (theory_of ws) wanted p (next + 1) rest) w count ((theory_of ws).leaves n)
  leaves_next = search_on s refl (omega arith) (rw longer (find_leaves s.finding acc.well_formed n listed (λ m k. leaf_joins acc n m next_low k))) s.beyond
    where
      longer : nodes_of b w (next + 1) ≡ nodes_of b w next ++ (n ∷ [])
      longer = let k = s.laid in let h = s.ends in let r = s.room in rw e (list_step b.body_nodes next w (omega arith))

  module _ {first : ℕ} (at : first ≡ get_or ws (node_at n + 2) 0) where
    pub leaves_once : MeetsOnce ws first
    unfolding theory_of
    leaves_once = rw at (acc.leaf_chain n next_low)

    same : chain ws first ≡ (theory_of ws).leaves n
    same = rw at (sym (the_leaves ws n))

    pub leaves_follow : Follows (Searching lim b) w count (chain ws first)
    leaves_follow = record { ctx = stage (theory_of ws) wanted p (next + 1) rest; more = []; held = rw (append-nil, same) leaves_next }

    pub leaves_done : {w' : List ℕ} {r : ℕ} → Drives (Searching lim b) b.states w count (chain ws first) w' r [] → Searching lim b (stage (theory_of ws) wanted p (next + 1) rest) w' r []
    leaves_done d = d.keeps (stage (theory_of ws) wanted p (next + 1) rest) [] (rw (append-nil, same) leaves_next)

-- the leaves of every node of the list were included: it is the cone
pub search_end : {lim : ℕ} {b : Bases} {th : Theory} {wanted : Set} {w : List ℕ} {next count : ℕ} {rest : List ℕ} → Searching lim b (stage th wanted th.producers next rest) w count [] → count ≤ next
    → Found th (cone th wanted) b w count
search_end {b = b} {th} {wanted} {w} {next} {count} s l = record {
  marks = λ n h. s.finding.marks n h ∙ ap (λ (t : Bool). cond t 1 0) (all n);
  within = let k = s.nodes in let r = s.room in omega arith;
  once = s.finding.once;
  lists = λ n. ((λ m. sym (all n) ∙ mem_member m), λ h. member_mem n (nodes_of b w count) (all n ∙ h));
}
  where
    all : (n : ℕ) → member n (nodes_of b w count) ≡ cone th wanted n
    all = let q : next ≡ count = let k = s.behind in omega arith in find_end (rw q at s.finding)
