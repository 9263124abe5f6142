-- What the pairs leave, one after the other: the lists so far, and the first words of the work area as the next pair needs them.
use Rattle.std.specs.Prelude.{◌≡◌, List, ◌++◌, ℕ, ◌+◌, ◌*◌, ◌≤◌, length, get_or, take, drop, Result, Ok, Err}
use Rattle.theory.specs.Words.{theory_of}
use Rattle.theory.specs.Founded.{cyclic, cyclic_cone}
use Rattle.theory.specs.Accepted.{Accepted, edition1}
use Rattle.theory.specs.Roles.{Resting}
use Rattle.mask.specs.Mask.{words_of}
use Rattle.refusals.specs.Answer.{accept, refuse}
use Rattle.refusals.specs.Refusals.{absorbed_row}
use Rattle.area.specs.declared.Bases.{Bases}
use Rattle.area.specs.Views.{count_at, Outside}
use Rattle.cones.specs.declared.Absorbed.{Absorbed}
use Rattle.branch.specs.Answers.{missing_of, end_to_end}

-- masks and output have room for so many pairs
pub record Fits (ws : List ℕ) (pairs n a o : ℕ) : Type 0 where
  pub nodes : pairs * words_of (get_or ws 2 0) ≤ n
  pub atoms : pairs * words_of (get_or ws 1 0) ≤ a
  pub lists : pairs * words_of (get_or ws 1 0) ≤ o

-- pair k: its list stands in its part of the output, and what stood stands, with what no pass waits for at rest
pub record Paired (ws never atom_never : List ℕ) (b : Bases) (k : ℕ) (w w' output output' : List ℕ) : Type 0 where
  pub outside : Outside b.dependencies b.body_nodes w w'
  pub rests : Resting (theory_of ws) (cyclic (theory_of ws)) (cyclic_cone (theory_of ws)) (count_at b w')
  pub list : output' ≡ take (k * words_of (get_or ws 1 0)) output ++ (missing_of ws never atom_never k ++ drop (words_of (get_or ws 1 0)) (drop (k * words_of (get_or ws 1 0)) output))

-- the lists of the pairs below one number stand before what stood in an output, then those below another
abbrev pub ListsFrom : (ws never atom_never : List ℕ) (k : ℕ) (output : List ℕ) (pairs : ℕ) (output' : List ℕ) → Type 0
ListsFrom ws never atom_never k output pairs output' = (o : List ℕ) → pairs * words_of (get_or ws 1 0) ≤ length o → output ≡ end_to_end (missing_of ws never atom_never) k ++ drop (k * words_of (get_or ws 1 0)) o
    → output' ≡ end_to_end (missing_of ws never atom_never) pairs ++ drop (pairs * words_of (get_or ws 1 0)) o

-- all pairs, or row 12
unfoldable pub AllPaired : (ws never atom_never : List ℕ) (pairs : ℕ) (output output' : List ℕ) → Result (Unit {0}) Absorbed → Type 0
AllPaired ws never atom_never pairs output output' (Ok u) = (absorbed_row (theory_of ws) ≡ accept) × (output' ≡ end_to_end (missing_of ws never atom_never) pairs)
AllPaired ws never atom_never pairs output output' (Err e) = (absorbed_row (theory_of ws) ≡ refuse 12 e.node) × (output' ≡ output)
