use Rattle.tally.proofs.EveryLaws.{ready_all, copied_bits, every}
use Rattle.tally.proofs.every_choice.Goals as goal

pub count_choices-requires : goal.count_choices-requires
count_choices-requires c =
    rw c.clear.ensures (ready_all c.args.output.now c.requires.stands.0 c.requires.stands.1 c.requires.fits.0 c.requires.fits.2 c.requires.fits.3 c.requires.fits.1 c.copy_from_slice.ensures.after)

pub returns : goal.returns
returns c =
    every c.args.output.now c.args.atom_never.now c.requires.stands.1 c.requires.fits.0 (copied_bits 16 c.copy_from_slice.ensures.after) (rw c.clear.ensures at c.count_choices.ensures)
