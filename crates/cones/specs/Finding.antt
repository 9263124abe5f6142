-- What the search for a cone keeps, over lists and functions; and as the work area has it. The search is that of the Rust's `prepare_cone`: the
-- list of the nodes found is its queue.
use Rattle.std.specs.Prelude.{◌≡◌, ◌⊎◌, cond, List, [], ℕ, suc, ◌≤◌, ◌<◌, get_or, length, drop}
use Rattle.std.proofs.Common.{ap, sym, ◌∙◌}
use lib.Seq.{get_or-drop}
use Rattle.theory.specs.Sets.{Is, Set, Mem, member, members}
use Rattle.theory.specs.Counts.{Distinct}
use Rattle.theory.specs.Theory.{Theory}
use Rattle.theory.specs.Edges.{cone}
use Rattle.theory.specs.Words.{theory_of}
use Rattle.theory.specs.Accepted.{Edition, Accepted}
use Rattle.area.specs.declared.Bases.{Bases}
use Rattle.area.specs.Layout.{Laid, Based}
use Rattle.cones.specs.declared.Cone.{Cone}
use Rattle.cones.specs.Cones.{node_mark, nodes_of, facts_of, fact_by, Flagged, Kept, Held}

module _ (th : Theory) (wanted : Set) where
  -- n is the body of a wanted producer below p, or a leaf of a node in begun
  abbrev pub Due : ℕ → List ℕ → ℕ → Type 0
  Due p begun n = ((q : ℕ) × (q < p) × (th.body q ≡ suc n) × Is (wanted q)) ⊎ ((m : ℕ) × Mem m begun × Mem n (th.leaves m))

  -- found: the nodes of the cone that are marked; todo: those that come next
  pub record Finding (p : ℕ) (found begun todo : List ℕ) (mark : ℕ → ℕ) : Type 0 where
    pub once : Distinct found
    pub sound : (n : ℕ) → Mem n found → Is (cone th wanted n)
    pub ahead : (n : ℕ) → Mem n todo → Is (cone th wanted n)
    pub due : (n : ℕ) → Due p begun n → Mem n found ⊎ Mem n todo
    pub marks : (n : ℕ) → n < th.nodes → mark n ≡ cond (member n found) 1 0

-- an accepted graph and its bases, and what the test of a producer reads in the work area
abbrev pub Given : Edition → (reads : Theory → Bases → List ℕ → Type 0) → List ℕ → Bases → List ℕ → Type 0
Given ed reads ws b w = Accepted ed ws × Based ws (length w) b × reads (theory_of ws) b w

-- what a search keeps has the flags in it
pub kept_flags : (th : Theory) (b : Bases) (w w' : List ℕ) → Kept b w w' → Flagged th b w → Flagged th b w'
kept_flags th b w w' k f a l = rw (sym (get_or-drop b.cyclic_atoms w' a 0) ∙ ap (λ (x : List ℕ). get_or x a 0) k.flags ∙ get_or-drop b.cyclic_atoms w a 0) (f a l)

-- where a search stands: the producers below `below` have been looked at, the leaves of the first `next` nodes of the list have been begun; rest: the words
-- from the facts on
pub record Stage : Type 0 where
  pub theory : Theory
  pub wanted : Set
  pub below : ℕ
  pub next : ℕ
  pub rest : List ℕ

abbrev pub stage : Theory → Set → (below next : ℕ) → List ℕ → Stage
stage th wanted below next rest = record { theory = th; wanted = wanted; below = below; next = next; rest = rest }

-- the search in the words w, whose values are below lim, with count nodes found and todo to come
pub record Searching (lim : ℕ) (b : Bases) (c : Stage) (w : List ℕ) (count : ℕ) (todo : List ℕ) : Type 0 where
  pub laid : Laid b
  pub ends : b.end ≤ length w
  pub nodes : b.nodes ≡ c.theory.nodes
  pub small : b.nodes ≤ lim
  pub behind : c.next ≤ count
  pub room : count ≤ b.nodes
  pub finding : Finding c.theory c.wanted c.below (nodes_of b w count) (nodes_of b w c.next) todo (node_mark b w)
  pub beyond : drop b.fact_rows w ≡ c.rest

-- the producers below p have been looked at: the bodies of the wanted ones are found, and the facts among them listed
pub record Begun (lim : ℕ) (th : Theory) (wanted : Set) (b : Bases) (w : List ℕ) (p : ℕ) (c : Cone) : Type 0 where
  pub search : Searching lim b (stage th wanted p 0 (drop b.fact_rows w)) w c.nodes []
  pub producers : b.producers ≡ th.producers
  pub few : b.producers ≤ lim
  pub low : p ≤ th.producers
  pub listed : c.facts ≤ p
  pub facts : facts_of b w c.facts ≡ members p (fact_by th wanted)

-- what a search leaves of the words w₀: the cone of the producers wanted, and the facts among them
abbrev pub Searched : (th : Theory) (wanted : Set) → Bases → (w₀ w : List ℕ) → Cone → Type 0
Searched th wanted b w₀ w c = Held th (cone th wanted) (fact_by th wanted) b w c × Kept b w₀ w
