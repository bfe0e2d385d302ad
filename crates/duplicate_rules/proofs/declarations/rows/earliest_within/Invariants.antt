use Rattle.std.proofs.Common.{◌≡◌, drop}
use Rattle.std.specs.Prelude.{flat_map}
use Rattle.std.specs.Option.{option_copied}
use Rattle.duplicate_rules.specs.steps.Earliest.{earliest_in}
use Rattle.duplicate_rules.proofs.declarations.rows.earliest_within.Given as goal

abbrev pub invariant-loop-part : goal.invariant-loop-part
invariant-loop-part g l =
    earliest_in (option_copied l.fn.best) (flat_map g.T.Encloses.inner l.row) ≡ earliest_in (option_copied l.found) (flat_map g.T.Encloses.inner (drop l.part-index l.row))
