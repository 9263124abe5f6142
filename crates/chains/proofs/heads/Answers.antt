use Rattle.theory.specs.Words.{theory_of}
use Rattle.graph.proofs.DecodeLaws.{the_heads}
use Rattle.chains.proofs.heads.Goals as goal

pub first_head-requires : goal.first_head-requires
unfolding theory_of
first_head-requires g c = record { size = c.requires.accepted.0.size; below = c.requires.accepted.1 }

pub along-requires : goal.along-requires
unfolding theory_of
along-requires g c = rw c.first_head.ensures record { accepted = (c.requires.accepted.0, c.requires.accepted.0.head_chain c.args.p c.requires.accepted.1); follows = rw (the_heads (g.W.Word.numbers c.args.graph.now) c.args.p) at c.requires.follows }

pub returns : goal.returns
returns g c = rw (the_heads (g.W.Word.numbers c.args.graph.now) c.args.p) (rw c.first_head.ensures at c.along.ensures)
