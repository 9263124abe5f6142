-- What the parts of request 13's call leave: the list of the undecided atoms, the counts of one choice, and those of all choices of the atoms that are left.
use Rattle.std.specs.Prelude.{◌≡◌, not, ◌&&◌, cond, List, ℕ, ◌+◌, ◌*◌, ◌^◌, ◌≤◌, ◌<◌, length, get_or, take}
use Rattle.theory.specs.Sets.{Set, members}
use Rattle.theory.specs.Theory.{Theory}
use Rattle.theory.specs.Words.{theory_of, bit_at}
use Rattle.theory.specs.Accepted.{Accepted, edition1}
use Rattle.theory.specs.Founded.{cyclic, cyclic_cone}
use Rattle.choices.specs.Choices.{choices}
use Rattle.choices.specs.Tallies.{times, is_missing, is_ruled_out, is_neither}
use Rattle.area.specs.declared.Bases.{Bases}
use Rattle.cones.specs.declared.Cone.{Cone}
use Rattle.preparation.specs.Stages.{Standing}

-- k undecided atoms are below n, and they are listed if they are 12 at most
pub record Listed (undecided : Set) (list : List ℕ) (n k : ℕ) : Type 0 where
  pub size : length list ≡ 12
  pub count : k ≡ length (members n undecided)
  pub few : k ≤ n
  pub listed : k ≤ 12 → take k list ≡ members n undecided

-- to the three counts of each of the first n atoms f, g and h of it are added, and all others are as they were
pub record Added (f g h : ℕ → ℕ) (out out' : List ℕ) (n : ℕ) : Type 0 where
  pub size : length out' ≡ length out
  pub first : (a : ℕ) → a < n → get_or out' (3 * a) 0 ≡ get_or out (3 * a) 0 + f a
  pub second : (a : ℕ) → a < n → get_or out' (3 * a + 1) 0 ≡ get_or out (3 * a + 1) 0 + g a
  pub third : (a : ℕ) → a < n → get_or out' (3 * a + 2) 0 ≡ get_or out (3 * a + 2) 0 + h a
  pub rest : (i : ℕ) → 3 * n ≤ i → get_or out' i 0 ≡ get_or out i 0

-- one choice: a number that waits for 1 is that of a missing atom
abbrev pub ChoiceAdded : (missing cut : Set) → (out out' : List ℕ) (n : ℕ) → Type 0
ChoiceAdded missing cut out out' n = Added (λ a. cond (missing a) 1 0) (λ a. cond (cut a) 1 0) (λ a. cond (not (missing a) && not (cut a)) 1 0) out out' n

-- all choices of a list of undecided atoms, beside the cuts so far
abbrev pub ChoicesAdded : Theory → (never cut : Set) (left : List ℕ) → (out out' : List ℕ) → Type 0
ChoicesAdded th never cut left out out' =
    Added (λ a. times (is_missing th never a) cut (choices left)) (λ a. times (is_ruled_out th never a) cut (choices left)) (λ a. times (is_neither th never a) cut (choices left)) out out' th.atoms

-- what a choice goes by
abbrev pub Stood : List ℕ → Bases → List ℕ → Cone → Type 0
Stood ws b w c = Standing ws b (cyclic (theory_of ws)) (cyclic_cone (theory_of ws)) w c

-- what the choices of the atoms left need: 16 words of cuts, and room for as many counts as there are choices
pub record Ready (ws cut left out w : List ℕ) (b : Bases) (c : Cone) : Type 0 where
  pub accepted : Accepted edition1 ws
  pub standing : Stood ws b w c
  pub places : (i : ℕ) → i < length left → get_or left i 0 < 1024
  pub words : length cut ≡ 16
  pub size : length out ≡ 3 * b.atoms
  pub low : (i : ℕ) → get_or out i 0 + 2 ^ length left ≤ 4096

-- what they leave: their counts added, and all else as it was
pub record Over (ws : List ℕ) (never : Set) (cut left out w : List ℕ) (b : Bases) (c : Cone) (cut' out' w' : List ℕ) : Type 0 where
  pub counts : ChoicesAdded (theory_of ws) never (bit_at cut) left out out'
  pub cut_size : length cut' ≡ length cut
  pub cuts : (i : ℕ) → bit_at cut' i ≡ bit_at cut i
  pub work_size : length w' ≡ length w
  pub standing : Stood ws b w' c

-- every choice of a list, beside the cuts of the mask
pub record EveryChoice (ws : List ℕ) (never atom_never : Set) (list w out' w' : List ℕ) : Type 0 where
  pub size : length w' ≡ length w
  pub long : length out' ≡ 3 * (theory_of ws).atoms
  pub first : (a : ℕ) → a < (theory_of ws).atoms → get_or out' (3 * a) 0 ≡ times (is_missing (theory_of ws) never a) atom_never (choices list)
  pub second : (a : ℕ) → a < (theory_of ws).atoms → get_or out' (3 * a + 1) 0 ≡ times (is_ruled_out (theory_of ws) never a) atom_never (choices list)
  pub third : (a : ℕ) → a < (theory_of ws).atoms → get_or out' (3 * a + 2) 0 ≡ times (is_neither (theory_of ws) never a) atom_never (choices list)
