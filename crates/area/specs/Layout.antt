-- Where the regions of the work area stand: each ends at or before the next, and the last within the area.
use Rattle.std.specs.Prelude.{◌≡◌, List, ℕ, ◌+◌, ◌-◌, ◌*◌, ◌/◌, ◌≤◌, get_or}
use Rattle.theory.specs.Words.{theory_of}
use Rattle.theory.specs.Accepted.{leaf_entries, head_entries}
use Rattle.area.specs.declared.Bases.{Bases}

pub record Laid (b : Bases) : Type 0 where
  -- row tables: offsets and entries
  pub atom_nodes : b.atom_nodes + (b.atoms + 1 + b.nodes) ≤ b.parents
  pub parents : b.parents + (b.nodes + 1 + b.leaf_entries) ≤ b.by_head
  pub by_head : b.by_head + (b.atoms + 1 + b.head_entries) ≤ b.by_body
  pub by_body : b.by_body + (b.nodes + 1 + b.producers) ≤ b.states
  -- a word a vertex
  pub states : b.states + (b.atoms + b.nodes) ≤ b.dependencies
  pub dependencies : b.dependencies + (b.atoms + b.nodes) ≤ b.queue
  pub queue : b.queue + (b.atoms + b.nodes) ≤ b.body_nodes
  -- and one that is stored past the end of a list
  pub body_nodes : b.body_nodes + (b.atoms + b.nodes + 1) ≤ b.fact_rows
  pub fact_rows : b.fact_rows + b.producers ≤ b.cyclic_atoms
  pub cyclic_atoms : b.cyclic_atoms + b.atoms ≤ b.end

-- how many words that takes
abbrev pub words_for : (atoms nodes producers leaves heads : ℕ) → ℕ
words_for atoms nodes producers leaves heads = 7 * atoms + 7 * nodes + 2 * producers + leaves + heads + 5

-- the regions, one after the other
unfoldable pub lay_out : (atoms nodes producers leaves heads : ℕ) → Bases
lay_out atoms nodes producers leaves heads =
    let parents = atoms + 1 + nodes in
    let by_head = parents + (nodes + 1 + leaves) in
    let by_body = by_head + (atoms + 1 + heads) in
    let states = by_body + (nodes + 1 + producers) in
    let dependencies = states + (atoms + nodes) in
    let queue = dependencies + (atoms + nodes) in
    let body_nodes = queue + (atoms + nodes) in
    let fact_rows = body_nodes + (atoms + nodes + 1) in
    let cyclic_atoms = fact_rows + producers in
    record {
      atoms = atoms;
      nodes = nodes;
      producers = producers;
      leaf_entries = leaves;
      head_entries = heads;
      atom_nodes = 0;
      parents = parents;
      by_head = by_head;
      by_body = by_body;
      states = states;
      dependencies = dependencies;
      queue = queue;
      body_nodes = body_nodes;
      fact_rows = fact_rows;
      cyclic_atoms = cyclic_atoms;
      end = cyclic_atoms + atoms;
    }

-- those of a graph in an area of so many words: leaf entries and head entries have half each of what the other regions leave
unfoldable pub entries_in : (words atoms nodes producers : ℕ) → ℕ
entries_in words atoms nodes producers = (words - (7 * atoms + 7 * nodes + 2 * producers + 5)) / 2

abbrev pub bases_of : (ws : List ℕ) (words : ℕ) → Bases
bases_of ws words =
    let entries = entries_in words (get_or ws 1 0) (get_or ws 2 0) (get_or ws 3 0) in
    lay_out (get_or ws 1 0) (get_or ws 2 0) (get_or ws 3 0) entries entries

-- an area of so many words has room for the graph
pub record Roomy (ws : List ℕ) (words : ℕ) : Type 0 where
  pub leaves : words_for (get_or ws 1 0) (get_or ws 2 0) (get_or ws 3 0) (leaf_entries (theory_of ws)) (leaf_entries (theory_of ws)) ≤ words
  pub heads : words_for (get_or ws 1 0) (get_or ws 2 0) (get_or ws 3 0) (head_entries (theory_of ws)) (head_entries (theory_of ws)) ≤ words

pub record LaidOut (atoms nodes producers leaves heads : ℕ) (b : Bases) : Type 0 where
  pub laid : Laid b
  pub atoms_are : b.atoms ≡ atoms
  pub nodes_are : b.nodes ≡ nodes
  pub producers_are : b.producers ≡ producers
  pub leaves_are : b.leaf_entries ≡ leaves
  pub heads_are : b.head_entries ≡ heads
  pub ends : b.end ≤ words_for atoms nodes producers leaves heads
  pub is : b ≡ lay_out atoms nodes producers leaves heads

-- the bases of a graph in an area of so many words
pub record Based (ws : List ℕ) (words : ℕ) (b : Bases) : Type 0 where
  pub laid : Laid b
  pub atoms : b.atoms ≡ get_or ws 1 0
  pub nodes : b.nodes ≡ get_or ws 2 0
  pub producers : b.producers ≡ get_or ws 3 0
  pub leaves : leaf_entries (theory_of ws) ≤ b.leaf_entries
  pub heads : head_entries (theory_of ws) ≤ b.head_entries
  pub ends : b.end ≤ words
  pub is : b ≡ bases_of ws words
