use Rattle.std.proofs.Common.{◌∙◌, []}
use Rattle.language_model.specs.parts.OutputTyping.{places}
use Rattle.output_rules.proofs.OutputRows.{assigned_on, told_on}
use Rattle.output_rules.proofs.outputs.assigned.assignments.Goals as goal

pub loop-field-preserved : goal.loop-field-preserved
loop-field-preserved g c =
    let given = c.loop-field.given in
    let x = c.in_ok-assignment.field-0 in
    let more = c.in_ok-push.ensures.ok in
    record {
      same =
          c.loop-field.invariant.same
          ∙ assigned_on (g.T.Gives.assigns c.args.gives.now) c.args.schema.now.schema.now c.args.fields.now c.loop-field.field-index given c.field-item.result c.loop-field-test.true c.field-item.is x
          c.push.new.self (c.in_ok-assignment.ensures.given (places [] given) c.loop-field.invariant.told) more;
      told = told_on given c.push.new.self x c.loop-field.marks c.assignment.new.marks c.loop-field.invariant.told c.in_ok-assignment.ensures.within c.in_ok-assignment.ensures.marked more;
    }
