use Rattle.std.proofs.Common.{◌≡◌, drop}
use Rattle.language_model.specs.parts.Checking.{operators_checked}
use Rattle.language_model.specs.FunctionTyping.{unit_scope}
use Rattle.language_model.specs.Finds.{with_front}
use Rattle.clause_rules.specs.steps.Programs.{program_unit}
use Rattle.clause_rules.proofs.operators.operators_checked.Given as goal

abbrev pub invariant-loop-op : goal.invariant-loop-op
invariant-loop-op l = record {
  same : operators_checked (program_unit l.program) l.program.graph.now l.fn.tables l.program.graph.now.ops
      ≡ with_front l.parts (operators_checked (program_unit l.program) l.program.graph.now l.fn.tables (drop l.op-index l.program.graph.now.ops));
  scope : l.scope ≡ unit_scope (program_unit l.program);
  tables : l.tables ≡ l.fn.tables;
}
