use Rattle.std.proofs.Common.{◌≡◌, ◌++◌, drop}
use Rattle.run_report.specs.PlanTexts.{begun_text}
use Rattle.run_report.proofs.plan_lines.add_begun.Given as goal

abbrev pub invariant-loop-number : goal.invariant-loop-number
invariant-loop-number l =
    l.text.items ++ begun_text l.checked l.op l.number (drop l.number l.regions) ≡ l.fn.text.items ++ begun_text l.checked l.op 0 l.regions
