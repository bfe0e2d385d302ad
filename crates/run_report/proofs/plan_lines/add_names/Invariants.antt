use Rattle.std.proofs.Common.{◌≡◌, ◌++◌, drop}
use Rattle.std.specs.Prelude.{codes, flat_map, Some}
use Rattle.run_report.specs.Texts.{operator_name}
use Rattle.run_report.proofs.plan_lines.add_names.Given as goal

abbrev pub invariant-loop-op : goal.invariant-loop-op
invariant-loop-op l =
    l.text.items ++ flat_map (λ n. codes " " ++ operator_name (Some l.checked) n) (drop l.op-index l.ops)
    ≡ l.fn.text.items ++ flat_map (λ n. codes " " ++ operator_name (Some l.checked) n) l.ops
