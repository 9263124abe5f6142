-- Two theories with the same content (requests 9 and 14): all that their numbers of atoms, nodes and producers let one ask of them.
use Rattle.std.specs.Prelude.{◌≡◌, ℕ, ◌<◌}
use Rattle.theory.specs.Theory.{Theory}

pub record Alike (th other : Theory) : Type 0 where
  pub atoms : th.atoms ≡ other.atoms
  pub nodes : th.nodes ≡ other.nodes
  pub producers : th.producers ≡ other.producers
  pub kinds : (n : ℕ) → n < th.nodes → th.kind n ≡ other.kind n
  pub operands : (n : ℕ) → n < th.nodes → th.operand n ≡ other.operand n
  pub leaf_lists : (n : ℕ) → n < th.nodes → th.leaves n ≡ other.leaves n
  pub bodies : (p : ℕ) → p < th.producers → th.body p ≡ other.body p
  pub head_lists : (p : ℕ) → p < th.producers → th.heads p ≡ other.heads p
