use native.Mathlib.Omega.{arith}
use mathlib.Core.Path.{◌∙◌}
use Prim.Native.Nat.{◌≤◌}
use lib.ListN.{length}
use borrow.Author.Rules.{rules, scaled_fits≤}
use Rattle.area.proofs.FillLaws.{filled_words}
use Rattle.words.proofs.NumberLaws.{numbers_length}
use Rattle.cycles.proofs.SetupLaws.{counts_part, set_up_started}
use Rattle.cycles.proofs.set_up.Goals as goal

pub offset_bounds-work-from : goal.offset_bounds-work-from
offset_bounds-work-from g c =
    let holds = g.met.W.Word.holds in
    let long = numbers_length g.met.W.Word.each c.args.work.now in
    let b = c.requires.1 in let l = b.laid in let e = b.ends in
    let low : c.args.b.dependencies ≤ length c.args.work.now = omega arith in
    search (rules, scaled_fits≤)

pub returns : goal.returns
returns g c =
    let holds = g.met.W.Word.holds in
    let f = filled_words g.met.W.Word.each (counts_part c.requires.1.laid c.requires.1.ends (c.build_in-3.ensures.size ∙ c.build_in-2.ensures.size ∙ c.build_in.ensures.size)) c.clear.ensures in
    set_up_started c.requires.0 (omega arith) (omega arith) c.requires.1 c.build_in.ensures c.build_in-2.ensures c.build_in-3.ensures f
