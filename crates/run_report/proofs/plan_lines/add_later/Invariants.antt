use Rattle.std.proofs.Common.{◌≡◌, ◌++◌, drop}
use Rattle.std.specs.Prelude.{codes, flat_map}
use Rattle.run_report.specs.PlanTexts.{attribute_name}
use Rattle.run_report.proofs.plan_lines.add_later.Given as goal

abbrev pub invariant-loop-place : goal.invariant-loop-place
invariant-loop-place l =
    l.text.items ++ flat_map (λ later. codes "," ++ attribute_name l.schema later) (drop l.place-index l.places)
    ≡ l.fn.text.items ++ flat_map (λ later. codes "," ++ attribute_name l.schema later) l.places
