use native.Mathlib.Omega.{arith}
use mathlib.Core.Path.{refl}
use Rattle.later.proofs.ReadLaws.{table_spanned, atom_reads, parents_next, heads_next, row_done}
use Rattle.later.proofs.ProjectionRowsU16.settle.Goals as goal

pub along-requires : goal.along-requires
along-requires c =
    let s = c.requires.stand.0 in
    record {
      accepted = (s.graph.accepted, s.graph.based, c.requires.stand.1, s.graph.tables);
      kept = refl;
      follows = rw (atom_reads c.args.self.graph.now c.args.self.bases c.args.v c.if-v-b.true) at c.requires.follows;
    }

pub returns-then-v-b : goal.returns-then-v-b
returns-then-v-b c = rw (atom_reads c.args.self.graph.now c.args.self.bases c.args.v c.if-v-b.true) c.along.ensures

pub along-t-requires : goal.along-t-requires
along-t-requires c =
    let s = c.requires.stand.0 in let k = c.requires.stand.1 in let l = c.if-v-b.false in
    record {
      spanned = table_spanned s.parent_rows _ (omega arith);
      follows = parents_next c.args.self.graph.now c.args.self.bases c.args.v s.parent_rows s.head_rows l k c.requires.follows;
    }

pub along-requires-2 : goal.along-requires-2
along-requires-2 c =
    let s = c.requires.stand.0 in let k = c.requires.stand.1 in let l = c.if-v-b.false in
    record {
      spanned = table_spanned s.head_rows _ (omega arith);
      follows = heads_next c.args.self.graph.now c.args.self.bases c.args.v s.parent_rows s.head_rows l k c.requires.follows c.along-t.ensures;
    }

pub returns : goal.returns
returns c =
    let s = c.requires.stand.0 in let k = c.requires.stand.1 in let l = c.if-v-b.false in
    row_done c.args.self.graph.now c.args.self.bases c.args.v s.parent_rows s.head_rows l k c.requires.follows c.along-t.ensures c.along-2.ensures
