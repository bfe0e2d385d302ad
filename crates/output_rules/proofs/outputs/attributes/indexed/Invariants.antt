use Rattle.std.proofs.Common.{◌≡◌, map, take}
use Rattle.output_rules.proofs.outputs.attributes.indexed.Given as goal

abbrev pub invariant-loop-port : goal.invariant-loop-port
invariant-loop-port l = map (λ x. x.schema.now) l.indices.items ≡ map (λ p. p.schema) (take l.port-index l.ports)
