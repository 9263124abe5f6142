-- A node's start state by what it waits for, and the start of the pass as the work area holds it.
use Rattle.std.specs.Prelude.{◌≡◌, List, [], ℕ, ◌+◌, ◌≤◌, ◌<◌, length, drop}
use Rattle.theory.specs.Sets.{Set, Is, everyone, Mem}
use Rattle.theory.specs.Edges.{vertices, preds}
use Rattle.theory.specs.Closure.{Mode, dead, free, single, every}
use Rattle.theory.specs.Words.{theory_of}
use Rattle.theory.specs.Rows.{flat_map}
use Rattle.theory.specs.Accepted.{Edition, Accepted}
use Rattle.theory.specs.Pass.{node_mode_among, pass_mode_among}
use Rattle.theory.specs.Starting.{first_count, Starting}
use Rattle.area.specs.declared.Bases.{Bases}
use Rattle.area.specs.Layout.{Laid, Based}
use Rattle.initialization.specs.declared.Initial.{Initial}
use Rattle.initialization.specs.declared.Initial.TheVariants.{Inactive, Awaiting, True}
use Rattle.area.specs.Views.{count_at, queued, as_vertices, Outside}
use Rattle.initialization.specs.Regions.{Flagged}

-- the start state of a vertex to which n entries lead
unfoldable pub initial_of : Mode → ℕ → Initial
initial_of dead n = Inactive
initial_of free n = True
initial_of single n = Awaiting 1
initial_of every n = Awaiting n

-- that of node n
abbrev pub initial_at : (ws : List ℕ) (marked cone never atom_never : Set) → ℕ → Initial
initial_at ws marked cone never atom_never n = initial_of (node_mode_among (theory_of ws) marked cone never atom_never n) (length ((theory_of ws).leaves n))

-- the counts below v are filled, whatever set is flagged
pub record Filled (b : Bases) (cut : Set) (w w' : List ℕ) (v : ℕ) : Type 0 where
  pub outside : Outside b.dependencies b.queue w w'
  pub counts : (s : Set) → Flagged b w s → (u : ℕ) → u < v → count_at b w' u ≡ first_count s cut u

-- what the walk over the facts goes by: the vertices and what each waits for, the nodes still to be started, and the words behind the queue
pub record Context : Type 0 where
  pub bound : ℕ
  pub mode : ℕ → Mode
  pub pred : ℕ → List ℕ
  pub nodes : List ℕ
  pub behind : List ℕ

-- t vertices are found, and these heads of facts are still to be met
pub record At (b : Bases) (c : Context) (w : List ℕ) (t : ℕ) (heads : List ℕ) : Type 0 where
  pub laid : Laid b
  pub bound : c.bound ≡ b.atoms + b.nodes
  pub long : b.end ≤ length w
  pub kept : drop b.body_nodes w ≡ c.behind
  pub starting : Starting c.bound c.mode c.pred heads c.nodes (queued b w t) (count_at b w)

-- the same where the vertices fit a word, whose values are below lim
abbrev pub Fitting : (lim : ℕ) (b : Bases) → Context → List ℕ → ℕ → List ℕ → Type 0
Fitting lim b c w t heads = (b.atoms + b.nodes ≤ lim) × At b c w t heads

-- the heads of these facts are still to be met
pub record AtFacts (ed : Edition) (lim : ℕ) (ws : List ℕ) (b : Bases) (c : Context) (w : List ℕ) (t : ℕ) (facts : List ℕ) : Type 0 where
  pub accepted : Accepted ed ws
  pub low : (p : ℕ) → Mem p facts → p < (theory_of ws).producers
  pub at : Fitting lim b c w t (flat_map (theory_of ws).heads facts)

-- what the walk over the nodes goes by: the marked atoms, the cone, and the words behind the queue
pub record Coning : Type 0 where
  pub marked : Set
  pub cone : Set
  pub behind : List ℕ

-- the context of a graph's pass
abbrev pub pass_context : (ws : List ℕ) (never atom_never : Set) (k : Coning) (nodes : List ℕ) → Context
pass_context ws never atom_never k nodes = record {
  bound = vertices (theory_of ws);
  mode = pass_mode_among (theory_of ws) k.marked k.cone never atom_never;
  pred = preds (theory_of ws) everyone;
  nodes = nodes;
  behind = k.behind;
}

-- t vertices are found, every head of a fact is met, and these nodes are still to be started
pub record AtNodes (ws : List ℕ) (never atom_never : Set) (b : Bases) (k : Coning) (w : List ℕ) (t : ℕ) (nodes : List ℕ) : Type 0 where
  pub at : At b (pass_context ws never atom_never k nodes) w t []

-- the same of nodes of the cone, with what is read to start one: the graph, and the flags
pub record AtCone (ed : Edition) (ws : List ℕ) (never atom_never : Set) (b : Bases) (k : Coning) (w : List ℕ) (t : ℕ) (nodes : List ℕ) : Type 0 where
  pub accepted : Accepted ed ws
  pub based : Based ws (length w) b
  pub flagged : Flagged b w k.marked
  pub low : (n : ℕ) → Is (k.cone n) → n < (theory_of ws).nodes
  pub cone : (n : ℕ) → Mem n nodes → Is (k.cone n)
  pub at : AtNodes ws never atom_never b k w t (as_vertices b nodes)

-- whatever is done in a context, the words from a place on stay
abbrev pub Stays : {Ctx : Type 0} → (Ctx → List ℕ → ℕ → List ℕ → Type 0) → ℕ → Type 0
Stays {Ctx} P base = (c : Ctx) (w w' : List ℕ) (t t' : ℕ) (l l' : List ℕ) → P c w t l → P c w' t' l' → drop base w' ≡ drop base w
