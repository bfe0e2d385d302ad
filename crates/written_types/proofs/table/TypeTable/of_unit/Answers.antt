use Rattle.std.proofs.Common.{ap, map, ◌∙◌}
use Rattle.written_types.proofs.Gathering.{gathered, passed_by}
use Rattle.written_types.proofs.table.TypeTable.of_unit.Goals.{in-Type+in_ok-push, in_default}
use Rattle.written_types.proofs.table.TypeTable.of_unit.Goals as goal

pub loop-definition-preserved : goal.loop-definition-preserved
loop-definition-preserved c =
    let unit = c.as_slice-definition-items.result.now in
    let i = c.loop-definition.definition-index in
    let d = c.definition-item.result in
    let within = c.loop-definition-test.true in
    let here = c.definition-item.is in
    elim c.match-definition.branch [
      | in-Type+in_ok-push w ↦
          gathered unit i d within here _ c.loop-definition.list.items c.match-definition.list.items w.in-Type.is c.loop-definition.invariant (ap (λ v. v.items) w.list-is ∙ w.in_ok-push.ensures.items)
      | in_default w ↦
          ap (λ v. map (λ x. x.now) v.items) w.list-is ∙ c.loop-definition.invariant ∙ passed_by unit i d within here w.in_default.not-Type
    ]
