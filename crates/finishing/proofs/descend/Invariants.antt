use Rattle.finishing.specs.Walking.{ahead, Walked}
use Rattle.finishing.proofs.descend.Given as goal

abbrev pub invariant-loop-tops : goal.invariant-loop-tops
invariant-loop-tops g l = Walked (g.W.Word.numbers l.graph) l.b (g.W.Word.numbers l.initial.work) (g.W.Word.numbers l.work) l.tops.top l.tops.done

abbrev pub decreases-loop-tops : goal.decreases-loop-tops
decreases-loop-tops g l = ahead (g.W.Word.numbers l.graph) l.b (g.W.Word.numbers l.work) l.tops.done
