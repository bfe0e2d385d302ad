use Rattle.std.proofs.Common.{◌≡◌, ◌<◌, ℕ, length}
use Rattle.std.specs.Option.{option_to_list}
use Rattle.language_model.specs.StreamTypes.{stream_leads}
use Rattle.stream_rules.specs.steps.Origins.{lead_at}
use Rattle.stream_rules.proofs.origins.all_leads.Given as goal

abbrev pub invariant-loop-stream : goal.invariant-loop-stream
invariant-loop-stream l = record {
  size : length l.next.items ≡ l.stream;
  each : (k : ℕ) → k < l.stream → option_to_list (lead_at l.next.items k) ≡ stream_leads l.sites.unit.now l.graph k;
}
