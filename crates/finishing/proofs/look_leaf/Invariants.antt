use lib.ListN.{length}
use Rattle.theory.specs.Words.{chain}
use Rattle.finishing.proofs.EntryLaws.{InChain}
use Rattle.finishing.proofs.look_leaf.Given as goal

abbrev pub invariant-loop-cursor : goal.invariant-loop-cursor
invariant-loop-cursor g l = InChain (g.W.Word.numbers l.graph) l.b (g.W.Word.numbers l.initial.work) (g.W.Word.numbers l.work) l.v l.cursor

abbrev pub decreases-loop-cursor : goal.decreases-loop-cursor
decreases-loop-cursor g l = length (chain (g.W.Word.numbers l.graph) l.cursor)
