-- What a caller of the pass, of preparation and of the loop test sees (request 7).
use Rattle.std.specs.Prelude.{◌≡◌, Bool, false, List, ℕ, Ok}
use Rattle.theory.specs.Words.{bit_at}
use Rattle.theory.specs.Accepted.{Edition}
use Rattle.cycles.specs.Outcome.{loops, outcome}
use Rattle.founded.specs.Answers.{Prepares, Completes}

-- a pass that succeeds on the graph under these masks and leaves this list, whatever output and work area it is lent
abbrev pub Lists : Edition → (graph never atom_never list : List ℕ) → Type 0
Lists ed graph never atom_never list = (output : List ℕ) × (work : List ℕ) × (work' : List ℕ) × Completes ed graph never atom_never output work list work' (Ok (tt {0}))

-- a preparation that succeeds on the graph and leaves this list
abbrev pub Marks : Edition → (graph list : List ℕ) → Type 0
Marks ed graph list = (output : List ℕ) × (work : List ℕ) × (work' : List ℕ) × Prepares ed graph output work list work' (Ok (tt {0}))

-- a loop test that gives this reply on the graph, and no refusal
abbrev pub Says : Edition → (graph : List ℕ) → Bool → Type 0
Says ed graph reply = (work : List ℕ) × (outcome ed graph work ≡ loops reply)

-- no bit of the list is set
abbrev pub Empty : List ℕ → Type 0
Empty list = (a : ℕ) → bit_at list a ≡ false
