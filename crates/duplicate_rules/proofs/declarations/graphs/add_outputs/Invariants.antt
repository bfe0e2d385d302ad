use Rattle.std.proofs.Common.{◌≡◌, ◌++◌, drop, map}
use Rattle.language_model.specs.Declarations.{OutputPort}
use Rattle.duplicate_rules.specs.steps.Graphs.{shown}
use Rattle.duplicate_rules.proofs.declarations.graphs.add_outputs.Given as goal

abbrev pub invariant-loop-port : goal.invariant-loop-port
invariant-loop-port l = map shown l.names.items ++ map (λ x. OutputPort x.name) (drop l.port-index l.ports) ≡ map shown l.initial.names.items ++ map (λ x. OutputPort x.name) l.ports
