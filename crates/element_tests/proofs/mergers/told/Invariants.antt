use Rattle.std.proofs.Common.{◌≡◌}
use Rattle.channel_heads.specs.Held.{width_of}
use Rattle.element_tests.specs.Driving.{AreFans}
use Rattle.element_tests.proofs.mergers.told.Given as goal

-- the merger keeps its width
abbrev pub invariant-words : goal.invariant-words
invariant-words g l = (width_of (g.M.Merge.held l.merger) ≡ l.width) × AreFans l.fans
