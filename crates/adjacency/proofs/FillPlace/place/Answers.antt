use native.Mathlib.Omega.{arith}
use Rattle.words.proofs.NumberLaws.{numbers_length}
use Rattle.adjacency.proofs.BuildLaws.{placeable, drives_filled}
use borrow.Author.Rules.{rules}
use Rattle.adjacency.proofs.FillPlace.place.Goals as goal

pub add-cursor-requires : goal.add-cursor-requires
add-cursor-requires g c = (placeable c.requires).counted

pub overflow_add-self-2 : goal.overflow_add-self-2
overflow_add-self-2 g c = let long = numbers_length g.met.W.Word.each c.args.part.now in let s = (placeable c.requires).slot in let e = c.add-cursor.ensures.0 in omega arith

pub put-requires : goal.put-requires
put-requires g c = let p = placeable c.requires in let s = p.slot in let e = c.add-cursor.ensures.0 in (search rules, p.entry)

pub returns : goal.returns
returns g c = rw (c.put.ensures, c.add-cursor.ensures.1, c.add-cursor.ensures.0) drives_filled
