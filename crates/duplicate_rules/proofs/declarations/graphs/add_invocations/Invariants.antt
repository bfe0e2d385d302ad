use Rattle.std.proofs.Common.{◌≡◌, ◌++◌, drop, map}
use Rattle.std.specs.Prelude.{flat_map}
use Rattle.language_model.specs.parts.Declarations.{invocation_names}
use Rattle.duplicate_rules.specs.steps.Graphs.{shown}
use Rattle.duplicate_rules.proofs.declarations.graphs.add_invocations.Given as goal

abbrev pub invariant-loop-invocation : goal.invariant-loop-invocation
invariant-loop-invocation l = map shown l.names.items ++ flat_map invocation_names (drop l.invocation-index l.graph) ≡ map shown l.initial.names.items ++ flat_map invocation_names l.graph
