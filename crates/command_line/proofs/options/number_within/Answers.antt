use Rattle.std.proofs.Common.{rules, arith, sym}
use Rattle.command_line.proofs.Numbers.{number_within_long}
use Rattle.command_line.proofs.options.number_within.Goals.{then-text-gt18-via-then-text-gt18, then-text-gt18-via-else-text-gt18+then-leads_with_zero}
use Rattle.command_line.proofs.options.number_within.Goals as goal

pub returns-then-text-gt18 : goal.returns-then-text-gt18
returns-then-text-gt18 c =
    elim c.then-text-gt18.branch [
      | then-text-gt18-via-then-text-gt18 w ↦ sym (number_within_long c.args.least c.args.most c.args.text.now (omega arith) (omega arith))
      | then-text-gt18-via-else-text-gt18+then-leads_with_zero w ↦ search rules
    ]
