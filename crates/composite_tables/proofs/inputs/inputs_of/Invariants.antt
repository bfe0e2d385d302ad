use Rattle.std.proofs.Common.{◌≡◌, List, Some, length, slice_get}
use Rattle.language_model.specs.Expansion.{Inlined}
use Rattle.composite_tables.specs.Inputs.{IsBody}
use Rattle.composite_tables.specs.steps.Reading.{PortsStand}
use Rattle.composite_tables.proofs.inputs.inputs_of.Given as goal

abbrev pub invariant-loop-place : goal.invariant-loop-place
invariant-loop-place l = record {
  count : length l.inputs ≡ l.place;
  stand : (xs : List Inlined) → IsBody xs l.site.expansion l.scope.composite.now l.row → slice_get l.scope.composite.now.graph l.site.invocation ≡ Some l.invocation
      → PortsStand xs l.site l.inputs;
}
