use mathlib.Core.Path.{refl}
use native.Mathlib.Omega.{arith}
use Rattle.area.specs.Layout.{lay_out}
use Rattle.area.proofs.lay_out.Goals as goal

pub returns : goal.returns
unfolding lay_out
returns c = record {
  laid = omega arith;
  atoms_are = refl;
  nodes_are = refl;
  producers_are = refl;
  leaves_are = refl;
  heads_are = refl;
  ends = omega arith;
  is = refl;
}
