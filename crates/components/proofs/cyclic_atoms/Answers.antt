use Rattle.area.proofs.FillLaws.{filled_words}
use Rattle.components.proofs.StartLaws.{flags_part, sizes, sweep_begin, sweep_finish}
use Rattle.components.proofs.cyclic_atoms.Goals as goal

pub classify-requires : goal.classify-requires
classify-requires g c =
    let f = filled_words g.met.W.Word.each (flags_part c.requires.0 c.requires.1.based c.requires.2 c.finish_order-count.ensures) c.clear.ensures in
    (c.requires.0, rw (sizes c.requires.0 c.requires.1.based c.requires.2 c.finish_order-count.ensures f) c.requires.1.based, sweep_begin c.requires.0 c.requires.1.based c.requires.2 c.finish_order-count.ensures f)

pub returns : goal.returns
returns g c =
    let f = filled_words g.met.W.Word.each (flags_part c.requires.0 c.requires.1.based c.requires.2 c.finish_order-count.ensures) c.clear.ensures in
    sweep_finish c.requires.0 c.requires.1.based c.requires.2 c.finish_order-count.ensures f c.classify.ensures
