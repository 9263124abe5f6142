-- Refusals 1 to 9 and 14 (document 01, "Where a call is turned away", and document 02, request 5): a named test for each row, and the table in its order. And the row of 12
-- (document 02, request 3), which the table of a call that prepares has last.
use Rattle.std.specs.Prelude.{Bool, not, ◌&&◌, ◌||◌, cond, List, [], ◌∷◌, ℕ, ◌+◌, eqb, ltb, leb, length, get_or, Result, Ok, Err}
use Rattle.theory.specs.Sets.{any}
use Rattle.theory.specs.Theory.{Theory, joins}
use Rattle.theory.specs.Words.{kind_of, node_at, producer_at, next_of, chain, theory_of}
use Rattle.theory.specs.Edges.{absorbed_node}
use Rattle.theory.specs.Links.{comes_back}
use Rattle.theory.specs.Accepted.{Edition, size_of, leaf_entries, head_entries}
use Rattle.graph.specs.Layout.{leaf_link, head_link}
use Rattle.graph.specs.Kinds.{takes_operand}
use Rattle.refusals.specs.Answer.{Answer, accept, refuse, refuse_if, refuse_first, first_refusal}
use Rattle.refusals.specs.declared.Refusal.{Refusal}
use Rattle.refusals.specs.declared.Refusal.TheVariants.{Edition as EditionRefused, Counts, Size, Node, Producer, Link, Back, Leaf, Head, Entries}

module _ (ed : Edition) (ws : List ℕ) where
  -- 1: fewer than 5 words, or another edition
  unfoldable pub bad_edition : Bool
  bad_edition = ltb (length ws) 5 || not (eqb (get_or ws 0 0) ed.number)

  -- 2: too many atoms, nodes, producers or links
  unfoldable pub bad_counts : Bool
  bad_counts =
      ltb ed.counts (get_or ws 1 0)
      || (ltb ed.counts (get_or ws 2 0)
      || (ltb ed.counts (get_or ws 3 0)
      || ltb ed.links (get_or ws 4 0)))

  -- 9: too many leaf entries or head entries
  unfoldable pub bad_entries : Bool
  bad_entries = ltb ed.entries (leaf_entries (theory_of ws)) || ltb ed.entries (head_entries (theory_of ws))

-- 4: kind above 7; operand of an Atom not below A; operand of another kind not 0; first link above K; first link not 0 outside And and Or
unfoldable pub bad_operand : (kind operand atoms : ℕ) → Bool
bad_operand kind operand atoms = cond (takes_operand (kind_of kind)) (leb atoms operand) (not (eqb operand 0))

unfoldable pub bad_first : (kind first links : ℕ) → Bool
bad_first kind first links = ltb links first || not (joins (kind_of kind)) && not (eqb first 0)

unfoldable pub bad_record : (kind operand first atoms links : ℕ) → Bool
bad_record kind operand first atoms links = ltb 7 kind || (bad_operand kind operand atoms || bad_first kind first links)

-- 5: body + 1 above N, or first link above K
unfoldable pub bad_body : (body first nodes links : ℕ) → Bool
bad_body body first nodes links = ltb nodes body || ltb links first

-- 6: next is above K
unfoldable pub bad_next : (next links : ℕ) → Bool
bad_next next links = ltb links next

module _ (ws : List ℕ) where
  -- 3: another length than the counts ask for
  unfoldable pub bad_size : Bool
  bad_size = not (eqb (length ws) (size_of ws))

  abbrev pub bad_node : ℕ → Bool
  bad_node n = bad_record (get_or ws (node_at n) 0) (get_or ws (node_at n + 1) 0) (leaf_link ws n) (get_or ws 1 0) (get_or ws 4 0)

  abbrev pub bad_producer : ℕ → Bool
  bad_producer p = bad_body (get_or ws (producer_at ws p) 0) (head_link ws p) (get_or ws 2 0) (get_or ws 4 0)

  abbrev pub bad_link : ℕ → Bool
  bad_link l = bad_next (next_of ws l) (get_or ws 4 0)

  -- 14: a chain that comes back to one of its own links: that of a node's leaves, of a producer's heads
  abbrev pub leaves_back : ℕ → Bool
  leaves_back n = comes_back ws (leaf_link ws n)

  abbrev pub heads_back : ℕ → Bool
  heads_back p = comes_back ws (head_link ws p)

  -- 7: a leaf not below its own node's number
  abbrev pub bad_leaves : ℕ → Bool
  bad_leaves n = any (leb n) (chain ws (leaf_link ws n))

  -- 8: a head not below A
  abbrev pub bad_heads : ℕ → Bool
  bad_heads p = any (leb (get_or ws 1 0)) (chain ws (head_link ws p))

-- nodes and producers are numbered from 0, links from 1
unfoldable pub graph_rows : Edition → List ℕ → List Answer
graph_rows ed ws =
    refuse_if 1 (bad_edition ed ws)
    ∷ refuse_if 2 (bad_counts ed ws)
    ∷ refuse_if 3 (bad_size ws)
    ∷ refuse_first 4 (bad_node ws) 0 (get_or ws 2 0)
    ∷ refuse_first 5 (bad_producer ws) 0 (get_or ws 3 0)
    ∷ refuse_first 6 (bad_link ws) 1 (get_or ws 4 0)
    ∷ refuse_first 14 (leaves_back ws) 0 (get_or ws 2 0)
    ∷ refuse_first 14 (heads_back ws) 0 (get_or ws 3 0)
    ∷ refuse_first 7 (bad_leaves ws) 0 (get_or ws 2 0)
    ∷ refuse_first 8 (bad_heads ws) 0 (get_or ws 3 0)
    ∷ refuse_if 9 (bad_entries ed ws)
    ∷ []

unfoldable pub graph_answer : Edition → List ℕ → Answer
graph_answer ed ws = first_refusal (graph_rows ed ws)

-- 12: an absorbed node of the body cone
abbrev pub absorbed_row : Theory → Answer
absorbed_row th = refuse_first 12 (absorbed_node th) 0 th.nodes

-- number and place of each case of `Refusal`
abbrev pub refused_as : Refusal → Answer
refused_as EditionRefused = refuse 1 0
refused_as Counts = refuse 2 0
refused_as Size = refuse 3 0
refused_as (Node n) = refuse 4 n
refused_as (Producer p) = refuse 5 p
refused_as (Link l) = refuse 6 l
refused_as (Back i) = refuse 14 i
refused_as (Leaf n) = refuse 7 n
refused_as (Head p) = refuse 8 p
refused_as Entries = refuse 9 0

-- what the check answers
abbrev pub answer_of : Result (Unit {0}) Refusal → Answer
answer_of (Ok u) = accept
answer_of (Err e) = refused_as e
