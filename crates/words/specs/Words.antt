-- Words as the numbers that they are, and an edition beside its words.
use Rattle.std.specs.Prelude.{◌≡◌, List, [], ◌∷◌, ℕ, ◌*◌, ◌^◌, ◌≤◌, map, refl}
use Rattle.std.proofs.Common.{ap, arith}
use prog.Memory.{size}
use denote.Param.{layout}
use denote.RattleType.{RattleType}
use Rattle.theory.specs.Accepted.{Edition, edition1, edition2}

-- the number and the limits of an edition
pub record Limits (ed : Edition) (n c l e : ℕ) : Type 0 where
  pub number : ed.number ≡ n
  pub counts : ed.counts ≡ c
  pub links : ed.links ≡ l
  pub entries : ed.entries ≡ e

pub limits1 : Limits edition1 1 1024 4096 4096
limits1 = record { number = refl; counts = refl; links = refl; entries = refl }

pub limits2 : Limits edition2 2 262144 1048576 1048576
limits2 = record { number = refl; counts = refl; links = refl; entries = refl }

-- words are below `limit`, the small numbers among them, and the limits of their edition so far below it that a sum of a few counts, or of a few totals, is a word too
pub record Holds (ed : Edition) (limit : ℕ) : Type 0 where
  pub small : 8 ≤ limit
  pub few_counts : 8 * ed.counts ≤ limit
  pub few_links : 8 * ed.links ≤ limit
  pub few_entries : 8 * ed.entries ≤ limit
  pub low : limit ≤ 2 ^ 32

pub holds1 : Holds edition1 65536
holds1 = record { small = omega arith; few_counts = omega arith; few_links = omega arith; few_entries = omega arith; low = omega arith }

pub holds2 : Holds edition2 4294967296
holds2 = record { small = omega arith; few_counts = omega arith; few_links = omega arith; few_entries = omega arith; low = omega arith }

-- words of 16 or 32 bits are numbers already
pub numbers_same : (words : List ℕ) → words ≡ map (λ word. word) words
numbers_same [] = refl
numbers_same (word ∷ words) = ap (λ l. word ∷ l) (numbers_same words)

-- a value of the type takes two bytes at least, so that memory has no room for 2 ^ 62 of them
abbrev pub TakesTwoBytes : RattleType → Type 0
TakesTwoBytes R = 2 ≤ size (layout R)
