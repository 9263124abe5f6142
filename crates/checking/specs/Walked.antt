-- What a walk over the chains of all places finds.
use Rattle.std.specs.Prelude.{◌≡◌, Bool, List, ℕ, ◌<◌, leb, length, Result, MatchResult}
use Rattle.theory.specs.Sets.{any}
use Rattle.theory.specs.Words.{chain}
use Rattle.refusals.specs.declared.Refusal.{Refusal}
use Rattle.refusals.specs.Answer.{Answer, accept, refuse}
use Rattle.refusals.specs.Refusals.{refused_as}

-- the place's chain begins at link `first n`, and an entry of it is wrong unless it is below `limit n`
abbrev pub bad_place : List ℕ → (limit first : ℕ → ℕ) → ℕ → Bool
bad_place ws limit first n = any (leb (limit n)) (chain ws (first n))

abbrev pub entries_of : List ℕ → (first : ℕ → ℕ) → ℕ → ℕ
entries_of ws first n = length (chain ws (first n))

-- what a closure answers at the places below `end`
abbrev pub Gives : (ℕ → ℕ → Type 0) → ℕ → (ℕ → ℕ) → Type 0
Gives answers end f = (n m : ℕ) → n < end → answers n m → m ≡ f n

-- what a closure makes of a place is the refusal of that number there
abbrev pub Makes : (ℕ → Refusal → Type 0) → ℕ → Type 0
Makes made number = (i : ℕ) (e : Refusal) → made i e → refused_as e ≡ refuse number i

-- what a row answers that counts entries: its refusal, or where it passes the total
abbrev pub Counted : Answer → ℕ → Result ℕ Refusal → Type 0
Counted row total r = MatchResult r (λ t. (t ≡ total) × (row ≡ accept)) (λ e. refused_as e ≡ row)
