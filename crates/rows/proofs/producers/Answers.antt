use native.Mathlib.Omega.{arith}
use Rattle.theory.specs.Words.{theory_of}
use Rattle.rows.proofs.TurnLaws.{word_same, flat_next, flat_more, flat_done}
use Rattle.rows.proofs.producers.Goals as goal

pub heads-t-requires : goal.heads-t-requires
unfolding theory_of
heads-t-requires g c = record {
  accepted = (c.requires.accepted.0, rw (word_same c.loop-i.invariant (let k = c.requires.inside.1 in omega arith) c.at.ensures.0) (c.requires.accepted.1 c.loop-i.i (omega arith) (omega arith)));
  follows = flat_next (theory_of (g.W.Word.numbers c.args.graph.now)).heads c.loop-i.i c.args.row.end c.loop-i.invariant c.requires.inside.2 c.requires.inside.1 (omega arith) c.at.ensures.0 c.requires.follows;
}

pub loop-i-preserved : goal.loop-i-preserved
loop-i-preserved g c = flat_more (theory_of (g.W.Word.numbers c.args.graph.now)).heads c.loop-i.i c.args.row.end c.loop-i.invariant c.requires.inside.2 c.requires.inside.1 (omega arith) c.at.ensures.0 c.heads-t.ensures

pub returns : goal.returns
returns g c = flat_done (theory_of (g.W.Word.numbers c.args.graph.now)).heads c.loop-i.i c.args.row.end c.loop-i.invariant (omega arith) (omega arith)
