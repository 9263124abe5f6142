use Prim.Native.Nat.{ℕ, ◌+◌, ◌*◌, ◌≤◌}
use mathlib.Core.Path.{◌≡◌}
use lib.ListN.{length}
use Rattle.theory.specs.Words.{chain}
use Rattle.checking.specs.Walked.{Gives}
use Rattle.checking.proofs.FollowLaws.{Between, Along}
use Rattle.checking.proofs.rows.walk.Given as goal

abbrev pub invariant-loop-n : goal.invariant-loop-n
invariant-loop-n g l =
    (l.entries ≤ 536870912 * l.n)
    × ((link bound : ℕ → ℕ) → Gives (goal.F-post g l.fn.first) l.fn.end link → Gives (goal.L-post g l.fn.limit) l.fn.end bound → Between (g.W.Word.numbers l.fn.graph) bound link l.n l.entries)

abbrev pub invariant-loop-v : goal.invariant-loop-v
invariant-loop-v g l =
    let rest = chain (g.W.Word.numbers l.v-iterator.words.now) l.v-iterator.link in
    (l.entries + length rest ≤ 536870912 * l.n + 536870912)
    × ((link bound : ℕ → ℕ) → Gives (goal.F-post g l.fn.first) l.fn.end link → Gives (goal.L-post g l.fn.limit) l.fn.end bound → (l.below ≡ bound l.n) × Along (g.W.Word.numbers l.fn.graph) bound link l.n l.entries rest)
