use Rattle.std.proofs.Common.{◌≡◌, ◌<◌, ◌+◌, ℕ, Some, length, slice_get}
use Rattle.enabled_events.specs.Moments.{Moment}
use Rattle.enabled_events.specs.Standing.{PartsAt}
use Rattle.enabled_events.proofs.Righting.{Popping}
use Rattle.enabled_events.proofs.refreshing.mark_pops.Given as goal

-- the pops from the links so far are right
abbrev pub invariant-row : goal.invariant-row
invariant-row g l =
    (m : Moment) → PartsAt g.R.React.spec g.R.React.stands m l.elements l.links → length l.initial.marks ≡ m.net.size + m.net.links + m.net.links
    → ((j k : ℕ) → slice_get l.row j ≡ Some k → k < m.net.links) → Popping m.net m.state l.row l.link-index l.initial.marks l.marks
