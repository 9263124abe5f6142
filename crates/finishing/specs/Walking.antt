-- How the words hold the first walk: marks, cursors, the stack from `queue` on and the finished vertices from `body_nodes` on; and what each
-- function of the walk does to them.
use Rattle.std.specs.Prelude.{◌≡◌, ◌≢◌, Bool, cond, List, Option, Some, None, ℕ, ◌+◌, ◌-◌, ◌≤◌, ◌<◌, eqb, length, get_or, set}
use Rattle.theory.specs.Sets.{sum_below}
use Rattle.theory.specs.Words.{theory_of}
use Rattle.theory.specs.Edges.{vertices, in_graph, cone_preds}
use Rattle.theory.specs.Search.{Searching}
use Rattle.area.specs.declared.Bases.{Bases}
use Rattle.area.specs.Views.{mark_of, mark_in}
use Rattle.finishing.specs.Latest.{latest}
use Rattle.finishing.specs.Finished.{Kept, Ready}
use Rattle.finishing.specs.Cursors.{has_operand, left_of, first_of, Linked, Took}

module _ (ws : List ℕ) (b : Bases) where
  -- the cursor of v: its word once v is met, and before that the one that its word is to get
  unfoldable pub cursor_in : List ℕ → ℕ → ℕ
  cursor_in w v = cond (eqb (mark_in b w v) 2) (get_or w (b.dependencies + v) 0) (first_of ws v)

  abbrev pub entries_in : List ℕ → ℕ → List ℕ
  entries_in w v = left_of ws v (cursor_in w v)

  pub record Walking (w : List ℕ) (top done : ℕ) : Type 0 where
    pub ready : Ready ws b w
    pub linked : (v : ℕ) → v < vertices (theory_of ws) → Linked ws v (cursor_in w v)
    pub search : Searching (vertices (theory_of ws)) (cone_preds (theory_of ws)) (in_graph (theory_of ws)) (latest w b.queue top) (latest w b.body_nodes done)
        (mark_in b w) (λ v. entries_in w v)

  -- what is still to do: entries to look at, and vertices to finish
  unfoldable pub ahead : List ℕ → ℕ → ℕ
  ahead w done = sum_below (vertices (theory_of ws)) (λ v. length (entries_in w v)) + (vertices (theory_of ws) - done)

  -- the cursor of v may be moved
  pub record Looking (w : List ℕ) (v : ℕ) : Type 0 where
    pub ready : Ready ws b w
    pub low : v < vertices (theory_of ws)
    pub linked : Linked ws v (get_or w (b.dependencies + v) 0)

  pub record Moved (w w' : List ℕ) (v : ℕ) : Type 0 where
    pub cursor : ℕ
    pub stored : w' ≡ set w (b.dependencies + v) cursor
    pub linked : Linked ws v cursor

  -- a look moves it past what it finds
  pub record Looked (w w' : List ℕ) (v : ℕ) (r : Option ℕ) : Type 0 where
    pub moved : Moved w w' v
    pub took : Took r (left_of ws v (get_or w (b.dependencies + v) 0)) (left_of ws v moved.cursor)

  -- v is on top of the stack
  pub record OnTop (w : List ℕ) (v top done : ℕ) : Type 0 where
    pub walking : Walking w top done
    pub some : 0 < top
    pub top_is : v ≡ get_or w (b.queue + (top - 1)) 0

  -- of some walk
  abbrev pub Topmost : List ℕ → ℕ → Type 0
  Topmost w v = (top : ℕ) × (done : ℕ) × OnTop w v top done

  -- and is a node, which takes an operand or not
  pub record TopNode (w : List ℕ) (v : ℕ) (operand : Bool) : Type 0 where
    pub top : Topmost w v
    pub high : b.atoms ≤ v
    pub kind : has_operand ws (v - b.atoms) ≡ operand

  -- v is met, with `top` others on the stack
  abbrev pub discovered : List ℕ → (v top : ℕ) → List ℕ
  discovered w v top = set (set (set w (mark_of b v) 2) (b.dependencies + v) (first_of ws v)) (b.queue + top) v

  pub record Meeting (w : List ℕ) (v top : ℕ) : Type 0 where
    pub ready : Ready ws b w
    pub low : v < vertices (theory_of ws)
    pub room : top < vertices (theory_of ws)

  -- the walk from w to w'
  pub record Walked (w w' : List ℕ) (top done : ℕ) : Type 0 where
    pub walking : Walking w' top done
    pub kept : Kept b w w'
    -- no vertex becomes one to be met
    pub settled : (v : ℕ) → v < vertices (theory_of ws) → mark_in b w v ≢ 1 → mark_in b w' v ≢ 1

  -- the walk, with no more to do in w' than in w
  pub record Onward (w w' : List ℕ) (top done done₀ : ℕ) : Type 0 where
    pub walked : Walked w w' top done
    pub least : ahead w' done ≤ ahead w done₀

  -- the walk, with less to do
  pub record Stepped (w w' : List ℕ) (top done done₀ : ℕ) : Type 0 where
    pub walked : Walked w w' top done
    pub less : ahead w' done < ahead w done₀

  -- a vertex that is found is still to be met
  abbrev pub Fresh : List ℕ → Option ℕ → Type 0
  Fresh w (Some x) = mark_in b w x ≡ 1
  Fresh w None = Unit {0}

  -- the walk, were c the cursor of v: what is before c leads to vertices that are met, or nowhere
  pub record Passed (w : List ℕ) (v c : ℕ) : Type 0 where
    pub onward : (top done : ℕ) → OnTop w v top done → Onward w (set w (b.dependencies + v) c) top done done

  -- that is passed over, and the next entry is r
  pub record Found (w w' : List ℕ) (v : ℕ) (r : Option ℕ) : Type 0 where
    pub cursor : ℕ
    pub passed : Passed w v cursor
    pub looked : Looked (set w (b.dependencies + v) cursor) w' v r
    pub fresh : Fresh w' r

  -- the walk from a root
  pub record Descended (w w' : List ℕ) (root done : ℕ) : Type 0 where
    pub walked : Walked w w' 0 done
    pub passed : mark_in b w' root ≢ 1
