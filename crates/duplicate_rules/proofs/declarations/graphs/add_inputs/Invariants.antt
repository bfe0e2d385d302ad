use Rattle.std.proofs.Common.{◌≡◌, ◌++◌, drop, map}
use Rattle.language_model.specs.Declarations.{InputPort}
use Rattle.duplicate_rules.specs.steps.Graphs.{shown}
use Rattle.duplicate_rules.proofs.declarations.graphs.add_inputs.Given as goal

abbrev pub invariant-loop-port : goal.invariant-loop-port
invariant-loop-port l = map shown l.names.items ++ map (λ x. InputPort x.name) (drop l.port-index l.ports) ≡ map shown l.initial.names.items ++ map (λ x. InputPort x.name) l.ports
