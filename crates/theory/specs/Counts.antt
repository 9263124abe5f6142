-- How many entries of a list lie in a set, how often a number occurs, and lists without repeats.
use Rattle.std.specs.Prelude.{cond, List, [], ◌∷◌, ℕ, suc, eqb}
use Rattle.theory.specs.Sets.{Set, Mem}

-- the entries that lie in s, repeats counted
unfoldable pub count_in : Set → List ℕ → ℕ
count_in s [] = 0
count_in s (x ∷ l) = cond (s x) (suc (count_in s l)) (count_in s l)

-- how often v occurs
abbrev pub occ : ℕ → List ℕ → ℕ
occ v l = count_in (λ x. eqb v x) l

abbrev pub Distinct : List ℕ → Type 0
Distinct [] = Unit {0}
Distinct (x ∷ l) = (Mem x l → ⊥) × Distinct l
