use lib.ListN.{take, drop}
use Rattle.input.specs.Bytes.{words}
use Rattle.report.specs.Report.{ReportedOf}
use Rattle.report.proofs.InputLaws.{report_whole}
use Rattle.report.proofs.report.Goals as goal

pub returns : goal.returns
returns c =
    let b = c.graph_bytes.result in
    let part : ReportedOf (words 2 (take b c.args.input.now)) (drop b c.args.input.now) c.args.out.now c.report_graph.new.out c.report_graph.result =
    rw (c.words-words.ensures.decoded, c.split_at.ensures.front, c.split_at.ensures.back) at c.report_graph.ensures in
    report_whole c.args.input.now c.args.out.now c.report_graph.new.out c.report_graph.result b c.graph_bytes.ensures part
