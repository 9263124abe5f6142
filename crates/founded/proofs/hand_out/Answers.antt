use Rattle.std.proofs.Common.{◌≡◌, ◌-◌, ◌+◌, ◌∙◌, length, take, drop, arith}
use Rattle.words.proofs.NumberLaws.{numbers_part}
use Rattle.mask.specs.Mask.{pack, flagged}
use Rattle.founded.proofs.OutputLaws.{part_pack}
use Rattle.founded.proofs.hand_out.Goals as goal

pub returns-clause-output_after : goal.returns-clause-output_after
returns-clause-output_after g c =
    let n = c.args.from + c.args.atoms - c.args.from in
    let part = g.W.Word.numbers (take n (drop c.args.from c.args.words.now)) in
    let packed : c.pack_flags.new.mask ≡ pack (length part) (flagged part) = c.pack_flags.ensures in
    (rw (numbers_part g.met.W.Word.each c.args.from n c.args.words.now) at packed) ∙ part_pack c.args.from c.args.atoms n (g.W.Word.numbers c.args.words.now) c.requires.0 (omega arith)
