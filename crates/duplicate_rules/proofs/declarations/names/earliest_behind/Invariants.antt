use Rattle.std.proofs.Common.{◌≡◌, drop}
use Rattle.std.specs.Prelude.{List, filter_map}
use Rattle.std.specs.Option.{option_copied}
use Rattle.language_model.specs.Declarations.{Name, repeated_names}
use Rattle.duplicate_rules.specs.steps.Earliest.{earliest}
use Rattle.duplicate_rules.specs.steps.NamesBefore.{Hold, again}
use Rattle.duplicate_rules.proofs.declarations.names.earliest_behind.Given as goal

abbrev pub invariant-loop-part : goal.invariant-loop-part
invariant-loop-part g l =
    (before : List Name) × Hold l.before before
    × (earliest (option_copied l.fn.best) (repeated_names (filter_map g.T.Declares.own l.row))
    ≡ earliest (option_copied l.found) (again before (filter_map g.T.Declares.own (drop l.part-index l.row))))
