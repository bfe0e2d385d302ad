use Rattle.std.proofs.Common.{◌≡◌, drop, []}
use Rattle.language_model.specs.OutputTyping.{rows_typing}
use Rattle.language_model.specs.parts.OutputTyping.{places}
use Rattle.language_model.specs.Finds.{with_front}
use Rattle.output_rules.specs.steps.Marking.{Tells}
use Rattle.output_rules.proofs.outputs.assigned.rows.Given as goal

abbrev pub invariant-loop-row : goal.invariant-loop-row
invariant-loop-row g l = record {
  same :
      rows_typing (g.T.Gives.assigns l.gives) l.schema.schema.now l.output [] l.rows
      ≡ with_front l.given (rows_typing (g.T.Gives.assigns l.gives) l.schema.schema.now l.output (places [] l.given) (drop l.row-index l.rows));
  told : Tells (places [] l.given) l.marks;
}
