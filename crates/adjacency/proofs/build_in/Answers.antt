use mathlib.Core.Path.{◌≡◌, ◌∙◌}
use native.Mathlib.Omega.{arith}
use Prim.Native.Nat.{◌-◌, ◌≤◌}
use lib.ListN.{length, length-take, length-drop}
use Rattle.words.proofs.NumberLaws.{numbers_length, numbers_part, numbers_splice}
use Rattle.adjacency.proofs.KeyLaws.{part_fits}
use Rattle.adjacency.proofs.TableLaws.{stood}
use borrow.Author.Rules.{rules}
use Rattle.adjacency.proofs.build_in.Goals as goal

pub offset_bounds-work-span : goal.offset_bounds-work-span
offset_bounds-work-span g c =
    let f = part_fits c.requires.1 c.args.table c.span.ensures in
    let long = numbers_length g.met.W.Word.each c.args.work.now in
    let low : c.span.result.start ≤ length c.args.work.now = omega arith in
    search rules

pub build-requires : goal.build-requires
build-requires g c =
    let f = part_fits c.requires.1 c.args.table c.span.ensures in
    (c.requires.0, rw (numbers_part g.met.W.Word.each c.span.result.start (c.span.result.end - c.span.result.start) c.args.work.now) (simp (length-take, length-drop) (omega arith)))

pub returns : goal.returns
returns g c =
    let n : _ = c.span.result.end - c.span.result.start in
    let part : length (g.W.Word.numbers c.build.new.part) ≡ n = numbers_length g.met.W.Word.each c.build.new.part ∙ search rules in
    let built = rw (numbers_part g.met.W.Word.each c.span.result.start n c.args.work.now) at c.build.ensures in
    rw (numbers_splice g.met.W.Word.each c.span.result.start n c.args.work.now c.build.new.part)
    (stood (g.W.Word.numbers c.args.work.now) (g.W.Word.numbers c.build.new.part) c.span.ensures (part_fits c.requires.1 c.args.table c.span.ensures) part built)
