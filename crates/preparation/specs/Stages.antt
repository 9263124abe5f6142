-- What the words hold from stage to stage: the row tables, the body cone, the cyclic atoms, what a pass goes by, and after the pass the counts.
use Rattle.std.specs.Prelude.{◌≡◌, cond, List, ℕ, ◌+◌, ◌<◌, length, Result, Ok, Err}
use Rattle.theory.specs.Sets.{Set, Is, any}
use Rattle.theory.specs.Words.{theory_of}
use Rattle.theory.specs.Edges.{body_cone}
use Rattle.theory.specs.Founded.{cyclic, missing_among}
use Rattle.theory.specs.Pass.{EnoughAmong}
use Rattle.theory.specs.Roles.{Resting}
use Rattle.refusals.specs.Answer.{accept}
use Rattle.refusals.specs.Refusals.{absorbed_row}
use Rattle.area.specs.declared.Bases.{Bases}
use Rattle.area.specs.Layout.{Based}
use Rattle.area.specs.Views.{mark_in, count_at, flag_at, Outside}
use Rattle.adjacency.specs.Tables.{rows_of, edges_of, base_of, next_of, Tabled}
use Rattle.adjacency.specs.declared.Table.TheVariants.{ByHead}
use Rattle.rows.specs.Rows.{Tables}
use Rattle.cones.specs.declared.Absorbed.{Absorbed}
use Rattle.cones.specs.declared.Cone.{Cone}
use Rattle.cones.specs.Cones.{Held, fact_by}
use Rattle.initialization.specs.Regions.{Flagged}
use Rattle.preparation.specs.Flags.{Refused}

-- the producers by head
abbrev pub Headed : List ℕ → Bases → List ℕ → Type 0
Headed ws b w = Tabled (next_of b ByHead) w (base_of b ByHead) (rows_of (theory_of ws) ByHead) (edges_of (theory_of ws) ByHead)

pub record Rowed (ws : List ℕ) (b : Bases) (w₀ w : List ℕ) : Type 0 where
  pub size : length w ≡ length w₀
  pub tables : Tables (theory_of ws) b w
  pub by_head : Headed ws b w

-- the nodes of the body cone are marked
pub record Onward (ws : List ℕ) (b : Bases) (w : List ℕ) : Type 0 where
  pub based : Based ws (length w) b
  pub tables : Tables (theory_of ws) b w
  pub by_head : Headed ws b w
  pub marks : (n : ℕ) → n < (theory_of ws).nodes → mark_in b w (b.atoms + n) ≡ cond (body_cone (theory_of ws) n) 1 0

-- the cyclic atoms are flagged
pub record Marking (ws : List ℕ) (b : Bases) (w₀ w : List ℕ) : Type 0 where
  pub size : length w ≡ length w₀
  pub tables : Tables (theory_of ws) b w
  pub flags : (a : ℕ) → a < b.atoms → flag_at b w a ≡ cond (cyclic (theory_of ws) a) 1 0

pub record Ready (ws : List ℕ) (b : Bases) (w₀ w : List ℕ) : Type 0 where
  pub marking : Marking ws b w₀ w
  pub row : absorbed_row (theory_of ws) ≡ accept

unfoldable pub Staged : List ℕ → Bases → List ℕ → List ℕ → Result (Unit {0}) Absorbed → Type 0
Staged ws b w₀ w (Ok u) = Ready ws b w₀ w
Staged ws b w₀ w (Err e) = Refused ws w₀ w e.node

-- what stands where when a pass begins, for a set of marked atoms and a cone: the rows, a flag an atom, the cone's marks and its nodes, and the facts with a marked head
pub record Standing (ws : List ℕ) (b : Bases) (marked cone : Set) (w : List ℕ) (c : Cone) : Type 0 where
  pub based : Based ws (length w) b
  pub tables : Tables (theory_of ws) b w
  pub flagged : Flagged b w marked
  pub low : (n : ℕ) → Is (cone n) → n < (theory_of ws).nodes
  pub coned : Held (theory_of ws) cone (fact_by (theory_of ws) (λ p. any marked ((theory_of ws).heads p))) b w c

-- it stands, and no node of the body cone is absorbed
pub record Stands (ws : List ℕ) (b : Bases) (marked cone : Set) (w₀ w : List ℕ) (c : Cone) : Type 0 where
  pub size : length w ≡ length w₀
  pub row : absorbed_row (theory_of ws) ≡ accept
  pub standing : Standing ws b marked cone w c

unfoldable pub Stood : List ℕ → Bases → (marked cone : Set) → List ℕ → List ℕ → Result Cone Absorbed → Type 0
Stood ws b marked cone w₀ w (Ok c) = Stands ws b marked cone w₀ w c
Stood ws b marked cone w₀ w (Err e) = Refused ws w₀ w e.node

-- the atoms that are left unfounded are those that still wait, and what no pass waits for has a count of 0
pub record Waiting (ws : List ℕ) (marked cone never atom_never : Set) (b : Bases) (w : List ℕ) : Type 0 where
  pub flags : (a : ℕ) → a < b.atoms → count_at b w a ≡ cond (missing_among (theory_of ws) marked never atom_never a) 1 0
  pub rests : Resting (theory_of ws) marked cone (count_at b w)

-- whatever stood: so it is after the pass; counts and queue are written, nothing else
pub record Passing (ws : List ℕ) (never atom_never : Set) (b : Bases) (w₀ w : List ℕ) (c : Cone) : Type 0 where
  pub outside : Outside b.dependencies b.body_nodes w₀ w
  pub waiting : (marked cone : Set) → Standing ws b marked cone w₀ c → EnoughAmong (theory_of ws) marked cone never atom_never → Waiting ws marked cone never atom_never b w
