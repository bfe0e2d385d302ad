use Rattle.std.proofs.Common.{◌≡◌, ◌++◌, drop, map}
use Rattle.language_model.specs.Declarations.{MadeStream}
use Rattle.duplicate_rules.specs.steps.Graphs.{shown}
use Rattle.duplicate_rules.proofs.declarations.graphs.add_streams.Given as goal

abbrev pub invariant-loop-stream : goal.invariant-loop-stream
invariant-loop-stream l = map shown l.names.items ++ map (λ x. MadeStream x.name) (drop l.stream-index l.streams) ≡ map shown l.initial.names.items ++ map (λ x. MadeStream x.name) l.streams
