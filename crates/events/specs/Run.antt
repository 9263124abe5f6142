-- A worklist that is run by any rows that serve: the rows of the vertices before `head` of the queue, and of those aside, have been followed.
use Rattle.std.specs.Prelude.{◌≡◌, List, [], ◌++◌, ℕ, ◌+◌, ◌≤◌, length, take}
use Rattle.theory.specs.Words.{theory_of}
use Rattle.theory.specs.Accepted.{Edition, Accepted}
use Rattle.theory.specs.Closure.{Mode}
use Rattle.theory.specs.Worklist.{Serving}
use Rattle.area.specs.declared.Bases.{Bases}
use Rattle.area.specs.Layout.{Based}
use Rattle.area.specs.Views.{queued, Outside}
use Rattle.rows.specs.Rows.{Tables}
use Rattle.events.specs.Held.{Ctx, Held}

-- what the rows of the graph are read from
pub record GraphRows (ed : Edition) (ws : List ℕ) (b : Bases) (w : List ℕ) : Type 0 where
  pub accepted : Accepted ed ws
  pub based : Based ws (length w) b
  pub tables : Tables (theory_of ws) b w

-- it holds of all words that are as these before the marks, which no step of a worklist changes
abbrev pub Abides : Bases → List ℕ → (List ℕ → Type 0) → Type 0
Abides b w P = (w' : List ℕ) → take b.states w' ≡ take b.states w → length w' ≡ length w → P w'

abbrev pub run_ctx : (mode : ℕ → Mode) (pred : ℕ → List ℕ) (aside done w : List ℕ) (t : ℕ) → Ctx
run_ctx mode pred aside done w t = record {
  mode = mode;
  pred = pred;
  done = done;
  aside = aside;
  base = w;
  front = t;
}

pub record Running (lim : ℕ) (b : Bases) (mode : ℕ → Mode) (pred : ℕ → List ℕ) (aside w : List ℕ) (head tail : ℕ) : Type 0 where
  pub ahead : head ≤ tail
  pub held : Held lim b (run_ctx mode pred aside (queued b w head ++ aside) w tail) w tail []

-- from one state of the words to another, whatever the rows serve
pub record Ran (lim : ℕ) (b : Bases) (row : ℕ → List ℕ) (w₀ w : List ℕ) (head₀ tail₀ head tail : ℕ) : Type 0 where
  pub outside : Outside b.dependencies b.body_nodes w₀ w
  pub runs : (mode : ℕ → Mode) (pred : ℕ → List ℕ) (aside : List ℕ) → Serving (b.atoms + b.nodes) mode pred row → Running lim b mode pred aside w₀ head₀ tail₀
      → Running lim b mode pred aside w head tail

-- the rows serve some worklist, which runs
abbrev pub Runs : (lim : ℕ) (b : Bases) (row : ℕ → List ℕ) (w : List ℕ) (tail : ℕ) → Type 0
Runs lim b row w tail = (mode : ℕ → Mode) × (pred : ℕ → List ℕ) × (aside : List ℕ) × Serving (b.atoms + b.nodes) mode pred row × Running lim b mode pred aside w 0 tail
