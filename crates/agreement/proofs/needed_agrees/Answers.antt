use borrow.Author.Rules.{rules}
use Rattle.agreement.proofs.needed_agrees.Goals as goal

pub returns-then-code-needed_code : goal.returns-then-code-needed_code
returns-then-code-needed_code c =
    record {
      code = c.founded_needed-code.result;
      work = c.founded_needed-code.new.work;
      promised = search rules;
      told = search rules;
    }
