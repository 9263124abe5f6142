-- Words and masks as document 01 lays them down, decoded ("The graph as lent words"). A word is a number, so one decoder serves every width.
use Rattle.std.specs.Prelude.{cond, List, [], ◌∷◌, ℕ, zero, suc, ◌+◌, ◌-◌, ◌*◌, ◌/◌, ◌%◌, ◌^◌, eqb, get_or}
use Rattle.theory.specs.Sets.{Set}
use Rattle.theory.specs.Theory.{Theory, Kind, False, Atom, And, Or, Opaque, Absorbed}

-- kinds by number; a number above 7 is refused by the graph check
unfoldable pub kind_of : ℕ → Kind
kind_of zero = False
kind_of (suc zero) = Atom
kind_of (suc (suc zero)) = And
kind_of (suc (suc (suc zero))) = Or
kind_of (suc (suc (suc (suc zero)))) = Opaque
kind_of (suc (suc (suc (suc (suc zero))))) = Opaque
kind_of (suc (suc (suc (suc (suc (suc zero)))))) = Opaque
kind_of (suc (suc (suc (suc (suc (suc (suc n))))))) = Absorbed

-- where node n's record begins
abbrev pub node_at : ℕ → ℕ
node_at n = 5 + 3 * n

module _ (ws : List ℕ) where
  -- where producer p's record and link l's record begin; links are numbered from 1
  abbrev pub producer_at : ℕ → ℕ
  producer_at p = 5 + 3 * get_or ws 2 0 + 2 * p

  abbrev pub link_at : ℕ → ℕ
  link_at l = 5 + 3 * get_or ws 2 0 + 2 * get_or ws 3 0 + 2 * l - 2

  abbrev pub value_of : ℕ → ℕ
  value_of l = get_or ws (link_at l) 0

  abbrev pub next_of : ℕ → ℕ
  next_of l = get_or ws (link_at l + 1) 0

  -- the values along the chain that begins at a link, at most as many as the fuel; link 0 ends a chain
  unfoldable pub chain_in : ℕ → ℕ → List ℕ
  chain_in zero l = []
  chain_in (suc fuel) l = let more = value_of l ∷ chain_in fuel (next_of l) in cond (eqb l 0) [] more

  -- a chain that meets no link twice has at most K entries
  unfoldable pub chain : ℕ → List ℕ
  chain l = chain_in (get_or ws 4 0) l

  unfoldable pub theory_of : Theory
  theory_of = record {
    atoms = get_or ws 1 0;
    nodes = get_or ws 2 0;
    producers = get_or ws 3 0;
    kind = λ n. kind_of (get_or ws (node_at n) 0);
    operand = λ n. get_or ws (node_at n + 1) 0;
    leaves = λ n. chain (get_or ws (node_at n + 2) 0);
    body = λ p. get_or ws (producer_at p) 0;
    heads = λ p. chain (get_or ws (producer_at p + 1) 0);
  }

-- bit i of a mask of 64-bit words: bit i % 64, lowest first, of word i / 64; past the end of the mask it is not set
unfoldable pub bit_at : List ℕ → Set
bit_at mask i = eqb (get_or mask (i / 64) 0 / 2 ^ (i % 64) % 2) 1
