use Rattle.std.proofs.Common.{◌≡◌, drop}
use Rattle.std.specs.Prelude.{List, filter_map}
use Rattle.language_model.specs.Declarations.{Name, first_of, repeated_names}
use Rattle.duplicate_rules.specs.steps.NamesBefore.{Hold, again}
use Rattle.duplicate_rules.proofs.declarations.names.first_behind.Given as goal

abbrev pub invariant-loop-part : goal.invariant-loop-part
invariant-loop-part g l =
    (before : List Name) × Hold l.before before
    × (first_of (repeated_names (filter_map g.T.Declares.own l.row)) ≡ first_of (again before (filter_map g.T.Declares.own (drop l.part-index l.row))))
