use Rattle.std.proofs.Common.{◌≡◌, drop}
use Rattle.language_model.specs.Composites.{composites, has_no_ports}
use Rattle.language_model.specs.Scopes.{first_from}
use Rattle.composite_tables.proofs.main_composite.portless_from.Given as goal

abbrev pub invariant-loop-place : goal.invariant-loop-place
invariant-loop-place l =
    first_from has_no_ports l.fn.from (drop l.fn.from (composites l.composites.unit.now)) ≡ first_from has_no_ports l.place (drop l.place (composites l.composites.unit.now))
