use Rattle.std.proofs.Common.{◌≡◌, drop, []}
use Rattle.language_model.specs.OutputTyping.{assignments_typing}
use Rattle.language_model.specs.parts.OutputTyping.{places}
use Rattle.language_model.specs.Finds.{with_front}
use Rattle.output_rules.specs.steps.Marking.{Tells}
use Rattle.output_rules.proofs.outputs.assigned.assignments.Given as goal

abbrev pub invariant-loop-field : goal.invariant-loop-field
invariant-loop-field g l = record {
  same :
      with_front l.fn.front (assignments_typing (g.T.Gives.assigns l.gives) l.schema.schema.now (places [] l.fn.front) l.fields)
      ≡ with_front l.given (assignments_typing (g.T.Gives.assigns l.gives) l.schema.schema.now (places [] l.given) (drop l.field-index l.fields));
  told : Tells (places [] l.given) l.marks;
}
