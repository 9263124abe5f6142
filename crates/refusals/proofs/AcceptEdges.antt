-- Edges of document 01, computed: a leaf one below its node passes, an equal one gives 7, and a next above K gives 6. Document 02, request 5: a next equal to its own
-- link gives 14 if a chain reaches it; a chain comes back also where it enters the circle from outside; a next may point backward; 6 comes before 14, and 14 before 7; a node's chain
-- comes before a producer's; a circle that no chain reaches is accepted. Of two
-- bad nodes the first is named; a bad node comes before a bad producer, and a bad head before too many entries.
use mathlib.Core.Path.{◌≡◌, refl}
use mathlib.Core.List.{List, [], ◌∷◌}
use Prim.Native.Nat.{ℕ}
use Rattle.theory.specs.Sets.{any, sum_below}
use Rattle.theory.specs.Theory.{joins}
use Rattle.theory.specs.Words.{kind_of, chain_in, chain, theory_of}
use Rattle.theory.specs.Links.{after, link_after, comes_back}
use Rattle.theory.specs.Accepted.{Edition, edition1}
use Rattle.graph.specs.Kinds.{takes_operand}
use Rattle.refusals.specs.Answer.{accept, refuse, refuse_first, first_refusal}
use Rattle.refusals.specs.Refusals.{bad_edition, bad_counts, bad_size, bad_operand, bad_first, bad_record, bad_body, bad_next, bad_entries, graph_rows, graph_answer}

-- False as node 0, an And as node 1, and link 1
abbrev graph : ℕ → ℕ → List ℕ
graph value next = 1 ∷ 0 ∷ 2 ∷ 0 ∷ 1 ∷ 0 ∷ 0 ∷ 0 ∷ 2 ∷ 0 ∷ 1 ∷ value ∷ next ∷ []

-- one atom, False as node 0, an And as node 1 with the first leaf given, a fact with the first head given, and three links to 0 with the nexts given
abbrev chains : ℕ → ℕ → ℕ → ℕ → ℕ → List ℕ
chains leaf head a b c = 1 ∷ 1 ∷ 2 ∷ 1 ∷ 3 ∷ 0 ∷ 0 ∷ 0 ∷ 2 ∷ 0 ∷ leaf ∷ 0 ∷ head ∷ 0 ∷ a ∷ 0 ∷ b ∷ 0 ∷ c ∷ []

-- no atoms, two nodes of the kinds given, a producer with the body and the first head given, and link 1 to atom 0
abbrev pair : ℕ → ℕ → ℕ → ℕ → List ℕ
pair k m body first = 1 ∷ 0 ∷ 2 ∷ 1 ∷ 1 ∷ k ∷ 0 ∷ 0 ∷ m ∷ 0 ∷ 0 ∷ body ∷ first ∷ 0 ∷ 0 ∷ []

-- an edition that has no room for entries
abbrev bare : Edition
bare = record { number = 1; counts = 2; links = 1; entries = 0; area = λ size entries. 0 }

pub edges : (graph_answer edition1 (graph 0 0) ≡ accept) × (graph_answer edition1 (graph 1 0) ≡ refuse 7 1) × (graph_answer edition1 (graph 0 2) ≡ refuse 6 1) × (graph_answer edition1 (graph 0 1) ≡ refuse 14 1)
    × (graph_answer edition1 (chains 0 1 2 3 2) ≡ refuse 14 0) × (graph_answer edition1 (chains 0 3 0 1 2) ≡ accept) × (graph_answer edition1 (chains 0 1 2 1 4) ≡ refuse 6 3) × (graph_answer edition1 (chains 0 0 2 3 1) ≡ accept)
    × (graph_answer edition1 (chains 1 0 1 0 0) ≡ refuse 14 1) × (graph_answer edition1 (chains 1 2 1 2 0) ≡ refuse 14 1) × (graph_answer edition1 (graph 1 1) ≡ refuse 14 1)
    × (graph_answer edition1 (pair 8 8 0 0) ≡ refuse 4 0) × (graph_answer edition1 (pair 0 8 3 0) ≡ refuse 4 1) × (graph_answer bare (pair 0 0 0 1) ≡ refuse 8 0)
unfolding graph_answer graph_rows refuse_first first_refusal bad_edition bad_counts bad_size bad_operand bad_first bad_record bad_body bad_next bad_entries
    after link_after comes_back takes_operand joins kind_of chain_in chain theory_of any sum_below
edges = (refl, refl, refl, refl, refl, refl, refl, refl, refl, refl, refl, refl, refl, refl)
