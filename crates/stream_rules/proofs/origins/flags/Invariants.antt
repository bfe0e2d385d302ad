use Rattle.std.proofs.Common.{◌≡◌, ◌<◌, ℕ, List, length}
use Rattle.language_model.specs.Leading.{leads_back}
use Rattle.stream_rules.specs.Circles.{flag_at}
use Rattle.stream_rules.specs.steps.Origins.{Steps}
use Rattle.stream_rules.proofs.origins.flags.Given as goal

abbrev pub invariant-loop-stream : goal.invariant-loop-stream
invariant-loop-stream l = record {
  size : length l.back.items ≡ l.stream;
  each : (f : ℕ → List ℕ) → Steps (length l.next) l.next f → (k : ℕ) → k < l.stream → flag_at l.back.items k ≡ leads_back (length l.next) f k;
}
