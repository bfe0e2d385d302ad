use Rattle.std.proofs.Common.{◌≡◌, ◌++◌, drop, map}
use Rattle.std.specs.List.{concat}
use Rattle.stream_model.specs.CheckedMeaning.{schema_at}
use Rattle.pe_fusion.specs.ElementPorts.{first_ins, read_schemas}
use Rattle.pe_fusion.proofs.porting.read_schemas.Given as goal

abbrev pub invariant-loop-port : goal.invariant-loop-port
invariant-loop-port l = l.schemas ++ map (schema_at l.checked) (concat (drop l.port-index (first_ins l.checked.graph.ops l.ids))) ≡ read_schemas l.checked l.ids
