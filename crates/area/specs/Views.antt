-- How the words of the work area are read: a vertex's mark and count, an atom's flag, and the vertices on the queue; and words that stay outside a region.
use Rattle.std.specs.Prelude.{◌≡◌, List, map, ℕ, ◌+◌, get_or, length, take, drop}
use Rattle.theory.specs.Prefix.{upto}
use Rattle.area.specs.declared.Bases.{Bases}

abbrev pub mark_of : Bases → ℕ → ℕ
mark_of b v = b.states + v

abbrev pub mark_in : Bases → List ℕ → ℕ → ℕ
mark_in b w v = get_or w (mark_of b v) 0

-- what vertex v waits for
abbrev pub count_at : Bases → List ℕ → ℕ → ℕ
count_at b w v = get_or w (b.dependencies + v) 0

-- 1 for a cyclic atom
abbrev pub flag_at : Bases → List ℕ → ℕ → ℕ
flag_at b w a = get_or w (b.cyclic_atoms + a) 0

-- the first n vertices on the queue, the last one first
abbrev pub queued : Bases → List ℕ → ℕ → List ℕ
queued b w n = upto n (drop b.queue w)

-- nodes as vertices
abbrev pub as_vertices : Bases → List ℕ → List ℕ
as_vertices b nodes = map (λ n. b.atoms + n) nodes

-- every word before one place and from another on stays
pub record Outside (from to : ℕ) (w w' : List ℕ) : Type 0 where
  pub size : length w' ≡ length w
  pub before : take from w' ≡ take from w
  pub after : drop to w' ≡ drop to w
