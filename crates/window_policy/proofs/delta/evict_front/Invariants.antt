use Rattle.std.proofs.Common.{◌≡◌, filter, length}
use Rattle.window_policy.specs.Deltas.{Rises}
use Rattle.window_policy.specs.steps.Deltas.{is_left}
use Rattle.window_policy.proofs.delta.evict_front.Given as goal

abbrev pub invariant-fronts : goal.invariant-fronts
invariant-fronts l = (Rises l.attr l.fn.kept.items → Rises l.attr l.kept.items)
    × (filter (is_left l.attr l.limit l.new) l.fn.kept.items ≡ filter (is_left l.attr l.limit l.new) l.kept.items)

abbrev pub decreases-fronts : goal.decreases-fronts
decreases-fronts l = length l.kept.items
