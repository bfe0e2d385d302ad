use Rattle.std.proofs.Common.{◌≡◌, ◌++◌, drop}
use Rattle.std.specs.Prelude.{flat_map}
use Rattle.run_report.specs.PlanTexts.{operator_text, plan_text}
use Rattle.run_report.proofs.plan_lines.plan_text.Given as goal

abbrev pub invariant-loop-op : goal.invariant-loop-op
invariant-loop-op l =
    l.text.items ++ flat_map (operator_text l.checked l.plan) (drop l.op-index l.checked.graph.topo) ≡ plan_text l.checked l.plan
