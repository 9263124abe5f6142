use Rattle.std.proofs.Common.{rules, ◌≡◌, ◌∙◌, sym, ap, List, length, replicate, take, arith, ◌+◌, ◌-◌, ◌*◌, ◌/◌}
use lib.Seq.{take_all}
use borrow.Rule.Slice.PartMut.{put_mid}
use Rattle.words.proofs.NumberLaws.{numbers_length, numbers_part, numbers_splice}
use Rattle.area.proofs.WipeLaws.{wiped_part}
use Rattle.area.proofs.wipe.Goals as goal

pub loop-block-preserved : goal.loop-block-preserved
loop-block-preserved g c =
    let each = g.met.W.Word.each in
    let from : _ = 512 * c.loop-block.block in
    let long = numbers_length each c.loop-block.words in
    let cleared = c.wipe_block.ensures ∙ ap (λ (l : List _). replicate (length l) 0) (numbers_part each from (from + 512 - from) c.loop-block.words) in
    let part = wiped_part from (from + 512) (g.W.Word.numbers c.loop-block.words) (g.W.Word.numbers c.wipe_block.new.words) (omega arith) (omega arith) c.loop-block.invariant cleared in
    let to : 512 * (c.loop-block.block + 1) ≡ from + 512 = omega arith in
    rw (to, numbers_splice each from (from + 512 - from) c.loop-block.words c.wipe_block.new.words) part

pub returns : goal.returns
returns g c =
    let each = g.met.W.Word.each in
    let size : _ = length c.args.words.now in
    let from : _ = 512 * (size / 512) in
    let words : _ = put_mid from (length c.loop-block.words - from) c.loop-block.words c.clear.new.words in
    let long = numbers_length each c.loop-block.words in
    let cleared = c.clear.ensures ∙ ap (λ (l : List _). replicate (length l) 0) (numbers_part each from (length c.loop-block.words - from) c.loop-block.words) in
    let here : c.loop-block.block ≡ size / 512 = omega arith in
    let part = wiped_part from (length c.loop-block.words) (g.W.Word.numbers c.loop-block.words) (g.W.Word.numbers c.clear.new.words) (omega arith) (omega arith) (rw here at c.loop-block.invariant) cleared in
    let splice = numbers_splice each from (length c.loop-block.words - from) c.loop-block.words c.clear.new.words in
    let all = numbers_length each words in
    let whole : length words ≡ length c.loop-block.words = search rules in
    let kept : length c.loop-block.words ≡ length (g.W.Word.numbers c.args.words.now) = omega (arith, numbers_length each c.args.words.now) in
    sym (take_all (length c.loop-block.words) _ (omega arith)) ∙ ap (take (length c.loop-block.words)) splice ∙ part ∙ ap (λ (n : _). replicate n 0) kept
