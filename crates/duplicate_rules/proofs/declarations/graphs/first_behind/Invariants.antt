use Rattle.std.proofs.Common.{◌≡◌, drop, map}
use Rattle.std.specs.Prelude.{List}
use Rattle.language_model.specs.Declarations.{Declared, declared_name, first_of, repeated, repeated_after}
use Rattle.language_model.specs.parts.Declarations.{is_declared}
use Rattle.duplicate_rules.specs.steps.Graphs.{Stand, shown}
use Rattle.duplicate_rules.proofs.declarations.graphs.first_behind.Given as goal

abbrev pub invariant-loop-next : goal.invariant-loop-next
invariant-loop-next l =
    (before : List Declared) × Stand l.before before
    × (first_of (map declared_name (repeated is_declared (map shown l.names)))
    ≡ first_of (map declared_name (repeated_after is_declared before (map shown (drop l.next-index l.names)))))
