-- What the graph check leaves: every field in range, every leaf below its node, every chain meeting no link twice, both totals within their limit
-- (document 01, "Where a call is turned away", rows 1 to 9). Every later part relies on this record and on no row of the table.
use Rattle.std.specs.Prelude.{◌≡◌, false, List, [], ℕ, ◌+◌, ◌*◌, ◌≤◌, ◌<◌, length, get_or}
use Rattle.theory.specs.Sets.{sum_below}
use Rattle.theory.specs.Theory.{Theory, WellFormed, joins}
use Rattle.theory.specs.Words.{node_at, producer_at, theory_of}
use Rattle.theory.specs.Links.{MeetsOnce}

-- an edition of the layout: its number; its limits of atoms, nodes and producers, of links, and of leaf entries and head entries; how many words its work
-- area has for a graph of so many atoms, nodes and producers together, and so many leaf and head entries together
pub record Edition : Type 0 where
  pub number : ℕ
  pub counts : ℕ
  pub links : ℕ
  pub entries : ℕ
  pub area : (size entries : ℕ) → ℕ

-- in words of 16 bits
abbrev pub edition1 : Edition
edition1 = record { number = 1; counts = 1024; links = 4096; entries = 4096; area = λ size entries. 32768 }

-- in words of 32 bits
abbrev pub edition2 : Edition
edition2 = record { number = 2; counts = 262144; links = 1048576; entries = 1048576; area = λ size entries. 16 * (size + 1) + 4 * entries }

-- how many words a graph has
abbrev pub size_of : List ℕ → ℕ
size_of ws = 5 + 3 * get_or ws 2 0 + 2 * get_or ws 3 0 + 2 * get_or ws 4 0

-- all leaf entries, and all head entries
abbrev pub leaf_entries : Theory → ℕ
leaf_entries th = sum_below th.nodes (λ n. length (th.leaves n))

abbrev pub head_entries : Theory → ℕ
head_entries th = sum_below th.producers (λ p. length (th.heads p))

-- how many words the work area has
abbrev pub area_of : Edition → Theory → ℕ
area_of ed th = ed.area (th.atoms + th.nodes + th.producers) (leaf_entries th + head_entries th)

pub record Accepted (ed : Edition) (ws : List ℕ) : Type 0 where
  pub size : length ws ≡ size_of ws
  pub atoms_few : get_or ws 1 0 ≤ ed.counts
  pub nodes_few : get_or ws 2 0 ≤ ed.counts
  pub producers_few : get_or ws 3 0 ≤ ed.counts
  pub links_few : get_or ws 4 0 ≤ ed.links
  pub kind_low : (n : ℕ) → n < get_or ws 2 0 → get_or ws (node_at n) 0 ≤ 7
  pub leaf_chain : (n : ℕ) → n < get_or ws 2 0 → MeetsOnce ws (get_or ws (node_at n + 2) 0)
  pub head_chain : (p : ℕ) → p < get_or ws 3 0 → MeetsOnce ws (get_or ws (producer_at ws p + 1) 0)
  pub leafless : (n : ℕ) → n < get_or ws 2 0 → joins ((theory_of ws).kind n) ≡ false → (theory_of ws).leaves n ≡ []
  pub well_formed : WellFormed (theory_of ws)
  pub leaf_total : leaf_entries (theory_of ws) ≤ ed.entries
  pub head_total : head_entries (theory_of ws) ≤ ed.entries
