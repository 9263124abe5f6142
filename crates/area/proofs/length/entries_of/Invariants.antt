use Prim.Native.Nat.{ℕ, ◌*◌, ◌≤◌, ◌<◌}
use mathlib.Core.Path.{◌≡◌}
use lib.ListN.{length}
use Rattle.theory.specs.Sets.{sum_below}
use Rattle.theory.specs.Words.{chain}
use Rattle.area.proofs.length.entries_of.Given as goal

abbrev pub invariant-loop-n : goal.invariant-loop-n
invariant-loop-n g l =
    (l.total ≤ 536870912 * l.n)
    × ((link : ℕ → ℕ) → ((n m : ℕ) → n < l.count → goal.F-post g l.first n m → m ≡ link n) → l.total ≡ sum_below l.n (λ n. length (chain (g.W.Word.numbers l.graph) (link n))))
