-- A count that is paid for out of an allowance, and what the pass within an allowance leaves from stage to stage: its end with something left, or the words at a vertex that can't be
-- paid for.
use Rattle.std.specs.Prelude.{◌≡◌, cond, List, ℕ, ◌+◌, ◌-◌, ◌≤◌, ◌<◌, length, Option, SomeIff}
use Rattle.std.proofs.Math.Seq.{slice}
use Rattle.theory.specs.Sets.{Set}
use Rattle.theory.specs.Words.{theory_of}
use Rattle.theory.specs.Rows.{flat_map, succs}
use Rattle.theory.specs.Founded.{missing}
use Rattle.theory.specs.Work.{work}
use Rattle.theory.specs.Charge.{sum_over, charge}
use Rattle.area.specs.declared.Bases.{Bases}
use Rattle.area.specs.Views.{count_at, queued}
use Rattle.events.specs.Run.{Ran}

-- what is left of an allowance after a count; none if the count exceeds it
abbrev pub Pays : Option ℕ → (allowance count : ℕ) → Type 0
Pays left allowance count = SomeIff left (count ≤ allowance) (allowance - count)

-- the head entries of the producers that stand in the words from one place to another
abbrev pub heads_in : (ws w : List ℕ) (from to : ℕ) → ℕ
heads_in ws w from to = length (flat_map (theory_of ws).heads (slice from to w))

-- what the first n vertices of the queue are charged
abbrev pub spent : (ws : List ℕ) (b : Bases) (w : List ℕ) (n : ℕ) → ℕ
spent ws b w n = sum_over (charge (theory_of ws)) (queued b w n)

-- the queue is followed to its end, and all on it is paid for
pub record Followed (lim : ℕ) (ws : List ℕ) (b : Bases) (w₀ w : List ℕ) (first allowance left : ℕ) : Type 0 where
  pub end : ℕ
  pub ran : Ran lim b (succs (theory_of ws)) w₀ w 0 first end end
  pub paid : left + spent ws b w end ≡ allowance

-- or up to a vertex with which the charges exceed the allowance
pub record Stopped (lim : ℕ) (ws : List ℕ) (b : Bases) (w₀ w : List ℕ) (first allowance : ℕ) : Type 0 where
  pub head : ℕ
  pub tail : ℕ
  pub ahead : head < tail
  pub ran : Ran lim b (succs (theory_of ws)) w₀ w 0 first head tail
  pub beyond : allowance < spent ws b w (head + 1)

-- the pass comes to its end, where the missing atoms are those that still wait, and all of its work is paid for
pub record PassedWithin (ws : List ℕ) (never atom_never : Set) (b : Bases) (w₀ w : List ℕ) (allowance left : ℕ) : Type 0 where
  pub size : length w ≡ length w₀
  pub flags : (a : ℕ) → a < b.atoms → count_at b w a ≡ cond (missing (theory_of ws) never atom_never a) 1 0
  pub paid : left + work (theory_of ws) never atom_never ≡ allowance

-- or its work exceeds the allowance
pub record Exceeded (ws : List ℕ) (never atom_never : Set) (w₀ w : List ℕ) (allowance : ℕ) : Type 0 where
  pub size : length w ≡ length w₀
  pub beyond : allowance < work (theory_of ws) never atom_never
