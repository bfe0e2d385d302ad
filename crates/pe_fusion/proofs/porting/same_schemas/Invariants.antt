use Rattle.std.proofs.Common.{◌≡◌, replicate}
use Rattle.stream_model.specs.CheckedMeaning.{schema_at}
use Rattle.pe_fusion.proofs.porting.same_schemas.Given as goal

abbrev pub invariant-many : goal.invariant-many
invariant-many l = l.schemas ≡ replicate l.counter (schema_at l.checked l.stream)
