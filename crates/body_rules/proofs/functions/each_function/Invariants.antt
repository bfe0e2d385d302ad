use Rattle.std.proofs.Common.{◌≡◌, drop}
use Rattle.language_model.specs.Composites.{functions}
use Rattle.language_model.specs.FunctionTyping.{unit_scope}
use Rattle.language_model.proofs.parts.FunctionTyping.{each_typed}
use Rattle.language_model.specs.Finds.{with_front}
use Rattle.body_rules.proofs.functions.each_function.Given as goal

abbrev pub invariant-loop-definition : goal.invariant-loop-definition
invariant-loop-definition l = record {
  same : each_typed l.unit (functions l.unit) ≡ with_front l.functions (each_typed l.unit (functions (drop l.definition-index l.unit)));
  kept : l.scope ≡ unit_scope l.unit;
}
