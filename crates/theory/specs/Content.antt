-- The content of a graph: its counts, each node's kind number, operand and leaf list, each producer's body and head list. A theory has one kind for the kind numbers
-- 4, 5 and 6, so the kind numbers are read from the words. The edition, the links' numbering, K and unused links play no part.
use Rattle.std.specs.Prelude.{◌≡◌, List, ℕ, ◌<◌, get_or}
use Rattle.theory.specs.Words.{node_at, theory_of}

-- the kind's number
abbrev pub kind_number : List ℕ → ℕ → ℕ
kind_number ws n = get_or ws (node_at n) 0

pub record SameContent (x y : List ℕ) : Type 0 where
  pub atoms : (theory_of x).atoms ≡ (theory_of y).atoms
  pub nodes : (theory_of x).nodes ≡ (theory_of y).nodes
  pub producers : (theory_of x).producers ≡ (theory_of y).producers
  pub kinds : (n : ℕ) → n < (theory_of x).nodes → kind_number x n ≡ kind_number y n
  pub operands : (n : ℕ) → n < (theory_of x).nodes → (theory_of x).operand n ≡ (theory_of y).operand n
  pub leaf_lists : (n : ℕ) → n < (theory_of x).nodes → (theory_of x).leaves n ≡ (theory_of y).leaves n
  pub bodies : (p : ℕ) → p < (theory_of x).producers → (theory_of x).body p ≡ (theory_of y).body p
  pub head_lists : (p : ℕ) → p < (theory_of x).producers → (theory_of x).heads p ≡ (theory_of y).heads p
