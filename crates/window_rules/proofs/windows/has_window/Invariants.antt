use Rattle.std.specs.Prelude.{◌==◌}
use Rattle.std.specs.List.{list_any}
use Rattle.std.proofs.Common.{◌≡◌, map, reverse, drop}
use Rattle.window_rules.proofs.windows.has_window.Given as goal

abbrev pub invariant-loop-port : goal.invariant-loop-port
invariant-loop-port l =
    list_any (λ n. n == l.place) (reverse (map (λ x. x.0) l.found)) ≡ list_any (λ x. x.0 == l.place) (drop l.port-index l.found)
