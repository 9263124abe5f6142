use Rattle.area.proofs.FillLaws.{filled_words}
use Rattle.preparation.proofs.WalkLaws.{atoms_part, ready₁, tables₁, marked₁, marking₁}
use Rattle.preparation.proofs.walk.Goals as goal

pub cyclic_atoms-requires : goal.cyclic_atoms-requires
cyclic_atoms-requires g c =
    let f = (rw c.of.ensures at (filled_words g.met.W.Word.each (atoms_part c.requires.1.based.laid c.requires.1.based.ends) c.fill.ensures)) in
    (c.requires.0, ready₁ c.requires.0 c.requires.1 f, tables₁ c.requires.0 c.requires.1 f, marked₁ c.requires.0 c.requires.1 f)

pub returns : goal.returns
returns g c = marking₁ c.requires.0 c.requires.1 ((rw c.of.ensures at (filled_words g.met.W.Word.each (atoms_part c.requires.1.based.laid c.requires.1.based.ends) c.fill.ensures))) c.cyclic_atoms.ensures
