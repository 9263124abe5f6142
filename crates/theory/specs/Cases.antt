-- Cases C1 to C12 of document 01 as one table: the graph's words, both masks, the loop test's answer and the outcome. C10, C11 and C12 have
-- two rows each. That the rules give these answers: proofs/CaseLaws; that the calls do: crates/case_answers.
use Rattle.std.specs.Prelude.{◌≡◌, Bool, true, false, List, [], ◌∷◌, ℕ}
use Rattle.theory.specs.Sets.{Set, members}
use Rattle.theory.specs.Theory.{Theory}
use Rattle.theory.specs.Edges.{absorbed_node}
use Rattle.theory.specs.Founded.{has_cycle, missing}
use Rattle.theory.specs.Words.{theory_of, bit_at}

-- the missing list, or a refusal's number and place
pub data Outcome : Type 0 where
  lists : List ℕ → Outcome
  refused : (number place : ℕ) → Outcome

-- 12 at the first of the absorbed nodes, or the list where there is none
abbrev pub told_by : (absorbed list : List ℕ) → Outcome
told_by [] list = lists list
told_by (n ∷ later) list = refused 12 n

unfoldable pub outcome : Theory → (never atom_never : Set) → Outcome
outcome th never atom_never = told_by (members th.nodes (absorbed_node th)) (members th.atoms (missing th never atom_never))

pub record Case : Type 0 where
  pub words : List ℕ
  pub never : List ℕ
  pub atom_never : List ℕ
  pub cycle : Bool
  pub result : Outcome

unfoldable pub case : List ℕ → List ℕ → List ℕ → Bool → Outcome → Case
case ws n a c r = record { words = ws; never = n; atom_never = a; cycle = c; result = r }

-- the graphs, in the order of the words: header, nodes, producers, links
abbrev pub c1 : List ℕ
c1 = 1 ∷ 0 ∷ 0 ∷ 0 ∷ 0 ∷ []

abbrev pub c2 : List ℕ
c2 = 1 ∷ 2 ∷ 2 ∷ 2 ∷ 2 ∷ 1 ∷ 0 ∷ 0 ∷ 1 ∷ 1 ∷ 0 ∷ 2 ∷ 1 ∷ 1 ∷ 2 ∷ 0 ∷ 0 ∷ 1 ∷ 0 ∷ []

-- C2 and a fact for 0; C4 and C5 cut it
abbrev pub c3 : List ℕ
c3 = 1 ∷ 2 ∷ 2 ∷ 3 ∷ 2 ∷ 1 ∷ 0 ∷ 0 ∷ 1 ∷ 1 ∷ 0 ∷ 2 ∷ 1 ∷ 1 ∷ 2 ∷ 0 ∷ 1 ∷ 0 ∷ 0 ∷ 1 ∷ 0 ∷ []

-- one atom, produced by one node of a kind: C6 the Atom of itself, C7 an empty And, C12 kind 7
abbrev pub alone : ℕ → List ℕ
alone kind = 1 ∷ 1 ∷ 1 ∷ 1 ∷ 1 ∷ kind ∷ 0 ∷ 0 ∷ 1 ∷ 1 ∷ 0 ∷ 0 ∷ []

-- C6 and a producer from a node of a kind: C8 an empty And, C9 an empty Or, C10 Implies
abbrev pub beside : ℕ → List ℕ
beside kind = 1 ∷ 1 ∷ 2 ∷ 2 ∷ 1 ∷ 1 ∷ 0 ∷ 0 ∷ kind ∷ 0 ∷ 0 ∷ 1 ∷ 1 ∷ 2 ∷ 1 ∷ 0 ∷ 0 ∷ []

-- atom 0 from Or(Atom 0, Atom 1)
abbrev pub c11 : List ℕ
c11 = 1 ∷ 2 ∷ 3 ∷ 1 ∷ 3 ∷ 1 ∷ 0 ∷ 0 ∷ 1 ∷ 1 ∷ 0 ∷ 3 ∷ 0 ∷ 1 ∷ 3 ∷ 3 ∷ 0 ∷ 2 ∷ 1 ∷ 0 ∷ 0 ∷ 0 ∷ []

-- the producer of C12 without heads
abbrev pub c12 : List ℕ
c12 = 1 ∷ 1 ∷ 1 ∷ 1 ∷ 0 ∷ 7 ∷ 0 ∷ 0 ∷ 1 ∷ 0 ∷ []

unfoldable pub table : List Case
table =
    case c1 [] [] false (lists [])
    ∷ case c2 (0 ∷ []) (0 ∷ []) true (lists (0 ∷ 1 ∷ []))
    ∷ case c3 (0 ∷ []) (0 ∷ []) true (lists [])
    ∷ case c3 (0 ∷ []) (1 ∷ []) true (lists (1 ∷ []))
    ∷ case c3 (1 ∷ []) (0 ∷ []) true (lists (1 ∷ []))
    ∷ case (alone 1) (0 ∷ []) (0 ∷ []) true (lists (0 ∷ []))
    ∷ case (alone 2) (0 ∷ []) (0 ∷ []) false (lists [])
    ∷ case (beside 2) (0 ∷ []) (0 ∷ []) true (lists [])
    ∷ case (beside 3) (0 ∷ []) (0 ∷ []) true (lists (0 ∷ []))
    ∷ case (beside 4) (0 ∷ []) (0 ∷ []) true (lists [])
    ∷ case (beside 4) (2 ∷ []) (0 ∷ []) true (lists (0 ∷ []))
    ∷ case c11 (0 ∷ []) (0 ∷ []) true (lists [])
    ∷ case c11 (0 ∷ []) (2 ∷ []) true (lists (0 ∷ []))
    ∷ case (alone 7) (0 ∷ []) (0 ∷ []) false (refused 12 0)
    ∷ case c12 (0 ∷ []) (0 ∷ []) false (lists [])
    ∷ []

-- the rules give the row's answers
unfoldable pub Agrees : Case → Type 0
Agrees c = (has_cycle (theory_of c.words) ≡ c.cycle) × (outcome (theory_of c.words) (bit_at c.never) (bit_at c.atom_never) ≡ c.result)

-- every row of a table
unfoldable pub Every : (Case → Type 0) → List Case → Type 0
Every P [] = Unit {0}
Every P (c ∷ cs) = P c × Every P cs
