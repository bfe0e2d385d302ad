use Rattle.std.proofs.Common.{◌≡◌, ◌++◌, drop, map}
use Rattle.stream_model.specs.CheckedMeaning.{schema_at}
use Rattle.pe_fusion.proofs.porting.add_schemas.Given as goal

abbrev pub invariant-loop-stream : goal.invariant-loop-stream
invariant-loop-stream l = l.schemas ++ map (schema_at l.checked) (drop l.stream-index l.streams) ≡ l.fn.schemas ++ map (schema_at l.checked) l.streams
