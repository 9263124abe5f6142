use Prim.Native.Nat.{◌-◌}
use Rattle.theory.specs.Words.{theory_of}
use Rattle.theory.specs.Rows.{stream}
use Rattle.theory.specs.Drive.{Drives}
use Rattle.adjacency.specs.Tables.{keys_of, items_of, edges_of}
use Rattle.adjacency.proofs.Table.place_all.Given as goal

abbrev pub invariant-loop-i : goal.invariant-loop-i
invariant-loop-i g l = Drives (g.P.Place.building l.place) 0 (g.W.Word.numbers l.initial.part) 0 (edges_of (theory_of (g.W.Word.numbers l.graph)) l.self) (g.W.Word.numbers l.part) 0 (stream (keys_of (theory_of (g.W.Word.numbers l.graph)) l.self) l.i (items_of (theory_of (g.W.Word.numbers l.graph)) l.self - l.i))
