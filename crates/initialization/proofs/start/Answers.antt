use native.Mathlib.Omega.{arith}
use Rattle.theory.specs.Words.{bit_at}
use Rattle.initialization.proofs.StartLaws.{facts_stay, facts_follow, nodes_stay, nodes_follow, begun}
use Rattle.initialization.proofs.start.Goals as goal

pub backwards-tail-requires : goal.backwards-tail-requires
backwards-tail-requires g c =
    let b = c.requires.1 in let l = b.laid in let e = b.ends in let p = c.requires.4 in let k = p.facts_few in let s = c.first_counts.ensures.outside.size in
    record { stays = (omega arith, facts_stay l); follows = facts_follow g.met.W.Word.holds c.requires.0 (bit_at c.args.never.now) _ c.requires.1 c.first_counts.ensures c.requires.2 c.requires.3 p }

pub backwards-requires : goal.backwards-requires
backwards-requires g c =
    let b = c.requires.1 in let l = b.laid in let e = b.ends in let p = c.requires.4 in let k = p.nodes_few in let s = c.first_counts.ensures.outside.size in let u = c.backwards-tail.ensures.size in
    record { stays = (omega arith, nodes_stay); follows = nodes_follow g.met.W.Word.holds c.requires.0 _ _ c.requires.1 c.first_counts.ensures c.requires.2 c.requires.3 p c.backwards-tail.ensures }

pub returns : goal.returns
returns g c = let p = c.requires.4 in begun g.met.W.Word.holds c.requires.0 _ _ c.requires.1 c.first_counts.ensures c.requires.2 c.requires.3 p c.backwards-tail.ensures c.backwards.ensures
