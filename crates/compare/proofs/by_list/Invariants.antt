use Rattle.theory.specs.Words.{chain}
use Rattle.compare.proofs.ListLaws.{Together}
use Rattle.compare.proofs.by_list.Given as goal

abbrev pub invariant-loop-v : goal.invariant-loop-v
invariant-loop-v g l = Together (g.W.Word.numbers l.y) l.other (chain (g.W.Word.numbers l.x) l.first) (chain (g.W.Word.numbers l.v-iterator.words.now) l.v-iterator.link) l.m
