use Rattle.std.proofs.Common.{◌≡◌, drop}
use Rattle.stream_model.specs.Copies.{aggregate_source}
use Rattle.attribute_flow.proofs.flow.aggregate_source.Given as goal

abbrev pub invariant-loop-x : goal.invariant-loop-x
invariant-loop-x l = aggregate_source l.partition l.output l.attribute ≡ aggregate_source l.partition (drop l.x-index l.output) l.attribute
