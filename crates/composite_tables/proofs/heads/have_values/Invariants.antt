use Rattle.std.proofs.Common.{◌≡◌, List, ℕ, drop}
use Rattle.std.specs.Prelude.{◌||◌, is_some}
use Rattle.std.specs.List.{list_all}
use Rattle.language_model.specs.Names.{is_named}
use Rattle.program_tables.specs.Names.{HoldsNames}
use Rattle.composite_tables.proofs.heads.have_values.Given as goal

abbrev pub invariant-loop-parameter : goal.invariant-loop-parameter
invariant-loop-parameter l =
    (names : List (List ℕ)) → HoldsNames l.given names
    → list_all (λ p. is_some p.default || is_named names p.name.what) l.parameters
    ≡ list_all (λ p. is_some p.default || is_named names p.name.what) (drop l.parameter-index l.parameters)
