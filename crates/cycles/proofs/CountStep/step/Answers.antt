use native.Mathlib.Omega.{arith}
use Rattle.words.proofs.NumberLaws.{numbers_length}
use Rattle.cycles.proofs.LoopLaws.{count_place, count_fits, count_more}
use Rattle.cycles.proofs.CountStep.step.Goals as goal

pub overflow_add-self : goal.overflow_add-self
overflow_add-self g c =
    let long = numbers_length g.met.W.Word.each c.args.work.now in
    let l = count_place c.requires in
    omega arith

pub add-requires : goal.add-requires
add-requires g c = (count_place c.requires, count_fits c.requires)

pub returns : goal.returns
returns g c = rw (c.add.ensures.1, c.add.ensures.0) count_more
