use Rattle.std.proofs.Common.{◌≡◌, ◌+◌}
use Rattle.within.specs.Within.{heads_in}
use Rattle.within.proofs.pay_heads.Given as goal

abbrev pub invariant-loop-i : goal.invariant-loop-i
invariant-loop-i g l =
    l.left + heads_in (g.W.Word.numbers l.graph) (g.W.Word.numbers l.work) l.fn.row.start l.fn.row.end
    ≡ l.allowance + heads_in (g.W.Word.numbers l.graph) (g.W.Word.numbers l.work) l.i l.fn.row.end
