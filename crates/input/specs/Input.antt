-- Standard input's bytes: the graph and, after it, the masks (document 01, "The program").
use Rattle.std.specs.Prelude.{List, ℕ, ◌*◌, take, drop}
use Rattle.theory.specs.Accepted.{size_of}
use Rattle.input.specs.Bytes.{words}

-- how many bytes the graph has: the five words of the header size it
unfoldable pub graph_size : List ℕ → ℕ
graph_size input = 2 * size_of (words 2 input)

-- the graph's words: of all bytes if they are too few, an odd last byte dropped
unfoldable pub graph_of : List ℕ → List ℕ
graph_of input = words 2 (take (graph_size input) input)

-- the bytes after the graph: both masks
unfoldable pub masks_of : List ℕ → List ℕ
masks_of input = drop (graph_size input) input
