-- A node's role as it is read (the Rust: `Initial`), and the nodes of the cone with their roles beside them, counters first and seeds last (the Rust: `partition`).
use Rattle.std.specs.Prelude.{◌≡◌, ◌⊎◌, Bool, true, false, not, List, filter, ℕ, ◌+◌, ◌≤◌, ◌<◌, eqb, length, get_or, take}
use Rattle.std.proofs.Math.Seq.{slice}
use Rattle.theory.specs.Sets.{Set, members}
use Rattle.theory.specs.Theory.{Theory}
use Rattle.theory.specs.Prefix.{upto}
use Rattle.theory.specs.Roles.{seed, role}
use Rattle.projection.specs.declared.Role.{Role}
use Rattle.projection.specs.declared.Role.TheVariants.{Inactive, Awaiting, True, Boundary}

unfoldable pub is_seed : Role → Bool
is_seed Inactive = false
is_seed (Awaiting n) = eqb n 0
is_seed True = true
is_seed (Boundary a) = true

-- the number that is laid down: what a counter waits for, 0 if it is never true; of a seed 0, or its atom and 1
unfoldable pub number_of : Role → ℕ
number_of Inactive = 0
number_of (Awaiting n) = n
number_of True = 0
number_of (Boundary a) = a + 1

module _ (th : Theory) (marked : Set) where
  -- of the first i nodes of the list the counters stand in the first words, and the seeds from a place on, each with its number beside it
  pub record Parting (list : List ℕ) (total : ℕ) (nodes roles : List ℕ) (counters seeds i : ℕ) : Type 0 where
    pub node_words : length nodes ≡ total
    pub role_words : length roles ≡ total
    pub seeds_low : seeds ≤ total
    pub counted : counters + total ≡ i + seeds
    pub front : upto counters nodes ≡ filter (λ n. not (seed th marked n)) (upto i list)
    pub back : slice seeds total nodes ≡ filter (seed th marked) (upto i list)
    pub numbers : (j : ℕ) → (j < counters) ⊎ ((seeds ≤ j) × (j < total)) → get_or roles j 0 ≡ role th marked (get_or nodes j 0)

  -- all of them: the seeds begin where the counters end
  abbrev pub Parted : (list : List ℕ) (total : ℕ) (nodes roles : List ℕ) (seeds : ℕ) → Type 0
  Parted list total nodes roles seeds = Parting list total nodes roles seeds seeds total

-- the members of a set below a number, ascending, are the first words
pub record Membered (s : Set) (below : ℕ) (p : List ℕ) (count : ℕ) : Type 0 where
  pub few : count ≤ below
  pub are : take count p ≡ members below s
