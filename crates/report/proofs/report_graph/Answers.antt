use Rattle.std.proofs.Common.{rules}
use mathlib.Core.Path.{◌≡◌, sym}
use native.Mathlib.Omega.{arith}
use lib.ListN.{get_or, take}
use lib.Seq.{length-take-le}
use Rattle.mask.specs.Mask.{words_of}
use Rattle.report.specs.Report.{node_mask, atom_mask}
use Rattle.report.proofs.CallLaws.{answered_few, print_both, lines_same}
use Rattle.report.proofs.report_graph.Goals as goal

pub atoms-atoms-requires : goal.atoms-atoms-requires
atoms-atoms-requires c = (answered_few c.args.masks.now c.in-Ok.ensures).long

pub slice_bounds-output-end : goal.slice_bounds-output-end
slice_bounds-output-end c = let few = answered_few c.args.masks.now c.in-Ok.ensures in search rules

pub put_lines-requires : goal.put_lines-requires
put_lines-requires c = let few = answered_few c.args.masks.now c.in-Ok.ensures in search rules

pub slice_bounds-put_lines-end : goal.slice_bounds-put_lines-end
slice_bounds-put_lines-end c = sym (length-take-le _ _ (omega (arith, c.words.ensures, c.atoms-atoms.ensures, (answered_few c.args.masks.now c.in-Ok.ensures).atoms)))

pub returns-in-Ok : goal.returns-in-Ok
returns-in-Ok c =
    let same : c.words.result ≡ words_of (get_or c.args.graph.now 1 0) = rw (← c.atoms-atoms.ensures) c.words.ensures in
    let graph = c.args.graph.now in
    let masks = c.args.masks.now in
    let list = lines_same graph (node_mask graph masks) (atom_mask graph masks) (take c.words.result c.answer.new.output) c.in-Ok.cycle c.atoms-atoms.result c.in-Ok.ensures.cycle c.atoms-atoms.ensures (rw same c.in-Ok.ensures.listed) in
    print_both c.in-Ok.ensures list c.put_lines.ensures
