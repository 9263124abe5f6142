use borrow.Author.Rules.{rules}
use Rattle.report.specs.Report.{report_text}
use Rattle.agreement.proofs.program_agrees.Goals as goal

pub returns : goal.returns
unfolding report_text
returns c = search rules
