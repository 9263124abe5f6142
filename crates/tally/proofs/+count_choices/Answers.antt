use mathlib.Core.Path.{refl, sym, ◌∙◌}
use native.Mathlib.Omega.{arith}
use Rattle.tally.proofs.OverLaws.{begun, word_in, ready_first, ready_second, over_both}
use Rattle.tally.proofs.+count_choices.Goals as goal

pub bounds-cut-atom : goal.bounds-cut-atom
bounds-cut-atom t c = (word_in (begun c.in-Some.ensures.cases.0 c.requires) _ c.from-atom.ensures refl).0

pub count_choices-requires : goal.count_choices-requires
count_choices-requires t c = (let l = c.in-Some.ensures.cases.1 in let d = c.decreases in omega arith, ready_first (begun c.in-Some.ensures.cases.0 c.requires))

pub set_bit-requires : goal.set_bit-requires
set_bit-requires t c = (word_in (begun c.in-Some.ensures.cases.0 c.requires) _ c.from-atom.ensures c.count_choices.ensures.cut_size).1

pub count_choices-requires-2 : goal.count_choices-requires-2
count_choices-requires-2 t c = (let l = c.in-Some.ensures.cases.1 in let d = c.decreases in omega arith, ready_second (begun c.in-Some.ensures.cases.0 c.requires) c.count_choices.ensures _ c.set_bit.ensures)

pub bounds-cut-atom-2 : goal.bounds-cut-atom-2
bounds-cut-atom-2 t c =
    let second = ready_second (begun c.in-Some.ensures.cases.0 c.requires) c.count_choices.ensures _ c.set_bit.ensures in
    (word_in (begun c.in-Some.ensures.cases.0 c.requires) _ c.from-atom.ensures (c.count_choices-2.ensures.cut_size ∙ second.words ∙ sym c.requires.words)).0

pub returns : goal.returns
returns t c =
    rw c.in-Some.ensures.cases.0
    (over_both (begun c.in-Some.ensures.cases.0 c.requires) c.count_choices.ensures c.from-atom.ensures refl c.set_bit.ensures c.count_choices-2.ensures refl)
