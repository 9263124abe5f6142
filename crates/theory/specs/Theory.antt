-- What a graph says, whatever the words that it is laid down in (document 01, "The graph as lent words").
use Rattle.std.specs.Prelude.{Bool, true, false, List, ◌≡◌, ℕ, suc, ◌<◌}
use Rattle.theory.specs.Sets.{Mem}

-- the kinds of a node; Implies, Threshold and ExtremumCut are the opaque ones
pub data Kind : Type 0 where
  False Atom And Or Opaque Absorbed : Kind

-- And and Or, the kinds that take links
unfoldable pub joins : Kind → Bool
joins False = false
joins Atom = false
joins And = true
joins Or = true
joins Opaque = false
joins Absorbed = false

unfoldable pub absorbed : Kind → Bool
absorbed False = false
absorbed Atom = false
absorbed And = false
absorbed Or = false
absorbed Opaque = false
absorbed Absorbed = true

-- document 01's states, conditions and rules are atoms, nodes and producers here, as in the Rust
pub record Theory : Type 0 where
  pub atoms : ℕ
  pub nodes : ℕ
  pub producers : ℕ
  -- of a node
  pub kind : ℕ → Kind
  pub operand : ℕ → ℕ
  pub leaves : ℕ → List ℕ
  -- of a producer: body + 1, where 0 marks a fact, and the heads
  pub body : ℕ → ℕ
  pub heads : ℕ → List ℕ

-- what the graph check settles of every accepted graph (rows 4, 5, 7 and 8)
pub record WellFormed (th : Theory) : Type 0 where
  pub operand_low : (n : ℕ) → n < th.nodes → th.kind n ≡ Atom → th.operand n < th.atoms
  pub leaf_low : (n m : ℕ) → n < th.nodes → Mem m (th.leaves n) → m < n
  pub head_low : (p a : ℕ) → p < th.producers → Mem a (th.heads p) → a < th.atoms
  pub body_low : (p n : ℕ) → p < th.producers → th.body p ≡ suc n → n < th.nodes
