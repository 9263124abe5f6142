-- A later pass: the rows by which it goes, what its projection holds, and the worklist from stage to stage.
use Rattle.std.specs.Prelude.{◌≡◌, cond, List, [], ◌++◌, filter, ℕ, ◌+◌, ◌-◌, ◌<◌, ltb, length}
use Rattle.std.proofs.Math.Seq.{slice}
use Rattle.theory.specs.Sets.{Set, everyone, members}
use Rattle.theory.specs.Words.{theory_of}
use Rattle.theory.specs.Accepted.{Accepted, edition1}
use Rattle.theory.specs.Edges.{preds}
use Rattle.theory.specs.Rows.{succs}
use Rattle.theory.specs.Founded.{cyclic, cyclic_cone}
use Rattle.theory.specs.Pass.{pass_mode}
use Rattle.theory.specs.Prefix.{upto}
use Rattle.theory.specs.Roles.{live_seed, Resting}
use Rattle.theory.specs.Worklist.{Worklist}
use Rattle.area.specs.declared.Bases.{Bases}
use Rattle.area.specs.Views.{count_at, as_vertices, Outside}
use Rattle.events.specs.Held.{Ctx, Held}
use Rattle.events.specs.Run.{GraphRows}
use Rattle.cones.specs.declared.Cone.{Cone}
use Rattle.initialization.specs.Regions.{ConeListed}
use Rattle.preparation.specs.Stages.{Standing, Waiting}
use Rattle.projection.specs.Narrowed.{parents_of, heads_of, RowTable}
use Rattle.projection.specs.Roles.{Parted}

-- the row of a vertex: an atom's is the graph's, a node's is narrowed
unfoldable pub later_row : List ℕ → Bases → ℕ → List ℕ
later_row ws b v = cond (ltb v b.atoms) (succs (theory_of ws) v) (parents_of ws (v - b.atoms) ++ heads_of ws (v - b.atoms))

-- what a projection holds: narrowed rows; the nodes of the cone with their roles beside them, the counters first; and the cyclic atoms
pub record Projected (ws : List ℕ) (b : Bases) (parents heads nodes roles : List ℕ) (seeds : ℕ) (atoms : List ℕ) : Type 0 where
  pub parent_rows : RowTable b.nodes (parents_of ws) parents
  pub head_rows : RowTable (b.nodes + 1) (heads_of ws) heads
  pub whole : List ℕ
  pub parted : Parted (theory_of ws) (cyclic (theory_of ws)) whole (length nodes) nodes roles seeds
  pub cone : ConeListed ws (cyclic_cone (theory_of ws)) (upto (length nodes) whole)
  pub atoms_are : atoms ≡ members b.atoms (cyclic (theory_of ws))

-- the rows can be read
pub record LaterRows (ws : List ℕ) (b : Bases) (parents heads w : List ℕ) : Type 0 where
  pub graph : GraphRows edition1 ws b w
  pub parent_rows : RowTable b.nodes (parents_of ws) parents
  pub head_rows : RowTable (b.nodes + 1) (heads_of ws) heads

-- the words when a later pass begins: all stands that a pass goes by, and what no pass waits for rests
pub record Again (ws : List ℕ) (b : Bases) (w : List ℕ) : Type 0 where
  pub accepted : Accepted edition1 ws
  pub counted : Cone
  pub standing : Standing ws b (cyclic (theory_of ws)) (cyclic_cone (theory_of ws)) w counted
  pub resting : Resting (theory_of ws) (cyclic (theory_of ws)) (cyclic_cone (theory_of ws)) (count_at b w)

-- after a later pass: the missing atoms are those that still wait, and what no pass waits for rests; counts and queue are written, nothing else
pub record PassedAgain (ws : List ℕ) (never atom_never : Set) (b : Bases) (w₀ w : List ℕ) : Type 0 where
  pub outside : Outside b.dependencies b.body_nodes w₀ w
  pub waiting : Waiting ws (cyclic (theory_of ws)) (cyclic_cone (theory_of ws)) never atom_never b w

-- each vertex of some has its count, and every other vertex the count that it had
pub record Reset (b : Bases) (count vertex : ℕ → ℕ) (w₀ w : List ℕ) (k : ℕ) : Type 0 where
  pub outside : Outside b.dependencies b.queue w₀ w
  pub those : (i : ℕ) → i < k → count_at b w (vertex i) ≡ count (vertex i)
  pub others : (v : ℕ) → v < b.atoms + b.nodes → ((i : ℕ) → i < k → vertex i ≡ v → ⊥) → count_at b w v ≡ count_at b w₀ v

module _ (ws : List ℕ) (b : Bases) (never atom_never : Set) where
  -- the seeds among these nodes that are true, as vertices
  abbrev pub live_of : List ℕ → List ℕ
  live_of nodes = as_vertices b (filter (live_seed (theory_of ws) (cyclic (theory_of ws)) never atom_never) nodes)

  -- the counts are those that a pass starts with; the seeds that are true are found and aside, and the heads of the facts are still to be met
  pub record Restarted (seeds : List ℕ) (w₀ w : List ℕ) : Type 0 where
    pub outside : Outside b.dependencies b.body_nodes w₀ w
    pub list : Worklist (b.atoms + b.nodes) (pass_mode (theory_of ws) (cyclic_cone (theory_of ws)) never atom_never) (preds (theory_of ws) everyone) (live_of seeds) [] (heads_of ws b.nodes) (count_at b w)

  abbrev pub seed_ctx : (aside done base : List ℕ) → Ctx
  seed_ctx aside done base = record {
    mode = pass_mode (theory_of ws) (cyclic_cone (theory_of ws)) never atom_never;
    pred = preds (theory_of ws) everyone;
    done = done;
    aside = aside;
    base = base;
    front = 0;
  }

  -- of the seeds aside the rows of these have been followed
  abbrev pub Seeding : (seeds done base w : List ℕ) (t : ℕ) → Type 0
  Seeding seeds done base w t = Held 65536 b (seed_ctx (live_of seeds) (live_of done) base) w t []
