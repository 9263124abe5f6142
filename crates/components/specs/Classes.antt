-- What the words hold while components are collected, and what they hold then: a flag for each cyclic atom.
use Rattle.std.specs.Prelude.{◌≡◌, ◌↔◌, cond, List, [], ℕ, ◌+◌, ◌-◌, ◌≤◌, ◌<◌, ltb, length, get_or, set, take, drop}
use Rattle.theory.specs.Sets.{Is, Mem}
use Rattle.theory.specs.Words.{theory_of}
use Rattle.theory.specs.Edges.{in_graph, cone_preds}
use Rattle.theory.specs.Founded.{cyclic}
use Rattle.theory.specs.Unfounded.{OnClosedWalk}
use Rattle.theory.specs.Search.{Swept}
use Rattle.theory.specs.Prefix.{upto, between}
use Rattle.area.specs.declared.Bases.{Bases}
use Rattle.area.specs.Views.{mark_in, flag_at, queued}
use Rattle.rows.specs.Rows.{Tables}
use Rattle.components.specs.Gathering.{Ctx, Gathering}

-- the first n of the finishing order, the last one first
abbrev pub ordered : Bases → List ℕ → ℕ → List ℕ
ordered b w n = upto n (drop b.body_nodes w)

-- between two searches: n of the finishing order may still be a root, and the first `found` of the queue are whole components
pub record Classifying (ws : List ℕ) (b : Bases) (w : List ℕ) (n found : ℕ) : Type 0 where
  pub tables : Tables (theory_of ws) b w
  pub roots : (v : ℕ) → Mem v (ordered b w n) → Is (in_graph (theory_of ws) v) × (v < b.atoms + b.nodes)
  pub fits : n ≤ b.atoms + b.nodes
  pub swept : Swept (b.atoms + b.nodes) (cone_preds (theory_of ws)) (in_graph (theory_of ws)) (ordered b w n) (queued b w found) (mark_in b w)

-- the flags of the atoms found are set as they are cyclic
pub record Flagged (ws : List ℕ) (b : Bases) (w : List ℕ) (seen : List ℕ) : Type 0 where
  pub yes : (a : ℕ) → a < b.atoms → Mem a seen → Is (cyclic (theory_of ws) a) → flag_at b w a ≡ 1
  pub no : (a : ℕ) → a < b.atoms → (Mem a seen → Is (cyclic (theory_of ws) a) → ⊥) → flag_at b w a ≡ 0

-- past the queue nothing has changed
pub record Kept (b : Bases) (w₀ w : List ℕ) : Type 0 where
  pub size : length w ≡ length w₀
  pub tables : take b.states w ≡ take b.states w₀
  pub past : (i : ℕ) → b.body_nodes ≤ i → get_or w i 0 ≡ get_or w₀ i 0

-- a search: from one count of the queue to another it is a component
pub record Gathered (ws : List ℕ) (b : Bases) (w₀ w : List ℕ) (n found tail : ℕ) : Type 0 where
  pub kept : Kept b w₀ w
  pub state : Classifying ws b w n tail
  pub after : found ≤ tail
  pub front : (i : ℕ) → i < found → get_or w (b.queue + i) 0 ≡ get_or w₀ (b.queue + i) 0
  pub members : (i : ℕ) → found ≤ i → i < tail → get_or w (b.queue + i) 0 < b.atoms → OnClosedWalk (theory_of ws) (get_or w (b.queue + i) 0) ↔ (1 < tail - found)

-- while it is made: the rows of the members before `head` have been begun and followed
abbrev pub ctx_of : (ws : List ℕ) (b : Bases) (w₀ : List ℕ) (n found : ℕ) (begun w : List ℕ) (t : ℕ) → Ctx
ctx_of ws b w₀ n found begun w t = record {
  pred = cone_preds (theory_of ws);
  graph = in_graph (theory_of ws);
  root = get_or w₀ (b.body_nodes + n) 0;
  earlier = ordered b w₀ n;
  begun = begun;
  from = found;
  base = w;
  front = t;
}

pub record Searched (lim : ℕ) (ws : List ℕ) (b : Bases) (w₀ w : List ℕ) (n found head tail : ℕ) : Type 0 where
  pub kept : Kept b w₀ w
  pub after : found ≤ head
  pub ahead : head ≤ tail
  pub front : (i : ℕ) → i < found → get_or w (b.queue + i) 0 ≡ get_or w₀ (b.queue + i) 0
  pub held : Gathering lim b (ctx_of ws b w₀ n found (between found (head - found) (drop b.queue w)) w tail) w tail []

-- a component on the queue, whose flags are still to be set
pub record Component (ws : List ℕ) (b : Bases) (w : List ℕ) (n from to : ℕ) : Type 0 where
  pub state : Classifying ws b w n to
  pub after : from ≤ to
  pub flags : Flagged ws b w (queued b w from)
  pub members : (i : ℕ) → from ≤ i → i < to → get_or w (b.queue + i) 0 < b.atoms → OnClosedWalk (theory_of ws) (get_or w (b.queue + i) 0) ↔ (1 < to - from)

-- the words once the flag of the queue's vertex at i is set, if it is an atom
abbrev pub flag_member : Bases → List ℕ → ℕ → List ℕ
flag_member b w i = cond (ltb (get_or w (b.queue + i) 0) b.atoms) (set w (b.cyclic_atoms + get_or w (b.queue + i) 0) 1) w

-- between two searches, with the flags
pub record Sweeping (ws : List ℕ) (b : Bases) (w₀ w : List ℕ) (n found : ℕ) : Type 0 where
  pub size : length w ≡ length w₀
  pub tables : take b.states w ≡ take b.states w₀
  pub state : Classifying ws b w n found
  pub flags : Flagged ws b w (queued b w found)

-- the flags at the end
pub record Classified (ws : List ℕ) (b : Bases) (w₀ w : List ℕ) : Type 0 where
  pub size : length w ≡ length w₀
  pub tables : take b.states w ≡ take b.states w₀
  pub yes : (a : ℕ) → a < b.atoms → Is (cyclic (theory_of ws) a) → flag_at b w a ≡ 1
  pub no : (a : ℕ) → a < b.atoms → (Is (cyclic (theory_of ws) a) → ⊥) → flag_at b w a ≡ 0
