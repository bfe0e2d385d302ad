use Rattle.std.proofs.Common.{◌≡◌, ◌<◌, ℕ, Some, length}
use Rattle.std.specs.Prelude.{slice_get}
use Rattle.language_model.specs.StreamTypes.{stream_attributes}
use Rattle.stream_rules.proofs.streams.all_found.Given as goal

abbrev pub invariant-loop-stream : goal.invariant-loop-stream
invariant-loop-stream l = record {
  size : length l.all.items ≡ l.stream;
  each : (k : ℕ) → k < l.stream → slice_get l.all.items k ≡ Some (stream_attributes l.sites.unit.now l.graph k);
}
