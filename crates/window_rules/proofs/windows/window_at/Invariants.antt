use Rattle.std.proofs.Common.{◌≡◌, drop}
use Rattle.language_model.specs.Policies.{window_at}
use Rattle.window_rules.proofs.windows.window_at.Given as goal

abbrev pub invariant-loop-place : goal.invariant-loop-place
invariant-loop-place l = window_at l.at l.port l.windows ≡ window_at l.at l.port (drop l.place-index l.windows)
