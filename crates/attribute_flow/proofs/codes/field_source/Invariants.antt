use Rattle.std.proofs.Common.{◌≡◌, drop}
use Rattle.std.specs.Option.{option_and_then}
use Rattle.stream_model.specs.Copies.{attribute_alone, code_at}
use Rattle.attribute_flow.proofs.codes.field_source.Given as goal

abbrev pub invariant-loop-place : goal.invariant-loop-place
invariant-loop-place l = option_and_then attribute_alone (code_at l.attribute l.fields) ≡ option_and_then attribute_alone (code_at l.attribute (drop l.place-index l.fields))
