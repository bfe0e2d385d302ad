use Rattle.std.proofs.Common.{◌≡◌, map, reverse, drop, []}
use Rattle.language_model.specs.Checking.{policy_of}
use Rattle.language_model.specs.Policies.{windows_typing}
use Rattle.language_model.specs.Finds.{with_front}
use Rattle.literal_sites.specs.Sites.{numbers_at}
use Rattle.window_rules.proofs.windows.windows_typing.Given as goal

abbrev pub invariant-loop-window : goal.invariant-loop-window
invariant-loop-window l =
    windows_typing (policy_of l.form (numbers_at l.site)) l.ports [] l.windows
    ≡ with_front l.found (windows_typing (policy_of l.form (numbers_at l.site)) l.ports (reverse (map (λ x. x.0) l.found)) (drop l.window-index l.windows))
