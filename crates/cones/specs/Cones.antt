-- The two cones as they stand in the work area (document 01, "Preparation": the first and the second cone), and what their calls promise.
use Rattle.std.specs.Prelude.{◌≡◌, ◌↔◌, ◌&&◌, cond, List, ℕ, ◌+◌, ◌≤◌, ◌<◌, eqb, length, take, drop, Result, Ok, Err}
use Rattle.theory.specs.Sets.{Is, Set, Mem, any, filled, members}
use Rattle.theory.specs.Counts.{Distinct}
use Rattle.theory.specs.Theory.{Theory}
use Rattle.theory.specs.Edges.{body_cone}
use Rattle.theory.specs.Founded.{cyclic, cyclic_cone}
use Rattle.area.specs.declared.Bases.{Bases}
use Rattle.area.specs.Views.{mark_in, flag_at}
use Rattle.refusals.specs.Answer.{accept, refuse}
use Rattle.refusals.specs.Refusals.{absorbed_row}
use Rattle.cones.specs.declared.Cone.{Cone}
use Rattle.cones.specs.declared.Absorbed.{Absorbed}

-- the mark of a node, the first so many nodes of the cone's list, and the first so many facts
abbrev pub node_mark : Bases → List ℕ → ℕ → ℕ
node_mark b w n = mark_in b w (b.atoms + n)

abbrev pub nodes_of : Bases → List ℕ → ℕ → List ℕ
nodes_of b w n = take n (drop b.body_nodes w)

abbrev pub facts_of : Bases → List ℕ → ℕ → List ℕ
facts_of b w n = take n (drop b.fact_rows w)

module _ (th : Theory) where
  -- the producers that a cone starts from: those with some head, or with a cyclic head
  abbrev pub headed : Set
  headed p = filled (th.heads p)

  abbrev pub cyclic_headed : Set
  cyclic_headed p = any (cyclic th) (th.heads p)

  -- the facts among the producers wanted
  abbrev pub fact_by : Set → Set
  fact_by wanted p = eqb (th.body p) 0 && wanted p

  -- the flags of the cyclic atoms
  abbrev pub Flagged : Bases → List ℕ → Type 0
  Flagged b w = (a : ℕ) → a < th.atoms → (flag_at b w a ≡ 1) ↔ Is (cyclic th a)

  -- the set s of nodes: a mark each, 1 in s and 0 outside, and a list of them without repeats
  pub record Found (s : Set) (b : Bases) (w : List ℕ) (count : ℕ) : Type 0 where
    pub marks : (n : ℕ) → n < th.nodes → node_mark b w n ≡ cond (s n) 1 0
    pub within : count ≤ th.nodes
    pub once : Distinct (nodes_of b w count)
    pub lists : (n : ℕ) → Mem n (nodes_of b w count) ↔ Is (s n)

-- what a cone's call changes nothing of: the length, the row tables, and the flags
pub record Kept (b : Bases) (w w' : List ℕ) : Type 0 where
  pub size : length w' ≡ length w
  pub tables : take b.states w' ≡ take b.states w
  pub flags : drop b.cyclic_atoms w' ≡ drop b.cyclic_atoms w

-- the set s of nodes, and a list of producers: those in facts, ascending
pub record Held (th : Theory) (s facts : Set) (b : Bases) (w : List ℕ) (c : Cone) : Type 0 where
  pub found : Found th s b w c.nodes
  pub few : c.facts ≤ th.producers
  pub lists : facts_of b w c.facts ≡ members th.producers facts

-- the body cone and the facts with a head, where row 12 accepts; or the node that it refuses
unfoldable pub body_coned : Theory → Bases → List ℕ → Result Cone Absorbed → Type 0
body_coned th b w (Ok c) = Held th (body_cone th) (fact_by th (headed th)) b w c × (absorbed_row th ≡ accept)
body_coned th b w (Err e) = absorbed_row th ≡ refuse 12 e.node

-- the cyclic cone, and the facts with a cyclic head
abbrev pub cyclic_coned : Theory → Bases → List ℕ → Cone → Type 0
cyclic_coned th b w c = Held th (cyclic_cone th) (fact_by th (cyclic_headed th)) b w c
