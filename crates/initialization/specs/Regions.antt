-- What the regions hold when the pass starts, and what its start leaves: a count a vertex, and the vertices found so far.
use Rattle.std.specs.Prelude.{◌≡◌, ◌↔◌, cond, List, ℕ, ◌≤◌, ◌<◌, drop}
use Rattle.theory.specs.Sets.{Set, Is, everyone, Mem, any}
use Rattle.theory.specs.Counts.{Distinct}
use Rattle.theory.specs.Edges.{vertices, preds}
use Rattle.theory.specs.Words.{theory_of}
use Rattle.theory.specs.Prefix.{upto}
use Rattle.theory.specs.Worklist.{Started}
use Rattle.theory.specs.Pass.{pass_mode_among}
use Rattle.area.specs.declared.Bases.{Bases}
use Rattle.area.specs.Views.{count_at, flag_at, queued, Outside}

-- so many nodes of a cone, and so many facts
abbrev pub cone_nodes : Bases → List ℕ → ℕ → List ℕ
cone_nodes b w n = upto n (drop b.body_nodes w)

abbrev pub fact_rows : Bases → List ℕ → ℕ → List ℕ
fact_rows b w n = upto n (drop b.fact_rows w)

-- the flags of the atoms are a set's
pub record Flagged (b : Bases) (w : List ℕ) (s : Set) : Type 0 where
  pub low : (a : ℕ) → Is (s a) → a < b.atoms
  pub flag : (a : ℕ) → a < b.atoms → flag_at b w a ≡ cond (s a) 1 0

-- a list has the nodes of a cone, each of them once
pub record ConeListed (ws : List ℕ) (cone : Set) (nodes : List ℕ) : Type 0 where
  pub low : (n : ℕ) → Is (cone n) → n < (theory_of ws).nodes
  pub once : Distinct nodes
  pub are : (n : ℕ) → Mem n nodes ↔ Is (cone n)

-- a list has the facts with a marked head
pub record FactsListed (ws : List ℕ) (marked : Set) (facts : List ℕ) : Type 0 where
  pub are : (p : ℕ) → Mem p facts ↔ ((p < (theory_of ws).producers) × ((theory_of ws).body p ≡ 0) × Is (any marked ((theory_of ws).heads p)))

-- what the start relies on, for a set of marked atoms and a cone: the flags, so many nodes and so many facts
pub record Prepared (ws : List ℕ) (b : Bases) (w : List ℕ) (nodes facts : ℕ) (marked cone : Set) : Type 0 where
  pub flagged : Flagged b w marked
  pub nodes_few : nodes ≤ b.nodes
  pub listed : ConeListed ws cone (cone_nodes b w nodes)
  pub facts_few : facts ≤ b.producers
  pub stated : FactsListed ws marked (fact_rows b w facts)

-- what the start leaves, with t vertices on the queue: counts and queue are written, nothing else; and whatever was prepared has begun
pub record Begun (ws : List ℕ) (never atom_never : Set) (b : Bases) (w w' : List ℕ) (nodes facts t : ℕ) : Type 0 where
  pub outside : Outside b.dependencies b.body_nodes w w'
  pub started : (marked cone : Set) → Prepared ws b w nodes facts marked cone
      → Started (vertices (theory_of ws)) (pass_mode_among (theory_of ws) marked cone never atom_never) (preds (theory_of ws) everyone) (queued b w' t) (count_at b w')
