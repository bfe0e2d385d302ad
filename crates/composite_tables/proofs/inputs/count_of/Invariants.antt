use Rattle.std.proofs.Common.{List, flat_map, take}
use Rattle.language_model.specs.Expansion.{Inlined, sources_of}
use Rattle.composite_tables.specs.Inputs.{IsBody}
use Rattle.composite_tables.specs.steps.Reading.{CountsSources}
use Rattle.composite_tables.proofs.inputs.count_of.Given as goal

abbrev pub invariant-loop-name : goal.invariant-loop-name
invariant-loop-name l = (xs : List Inlined) → IsBody xs l.number l.scope.composite.now l.row
    → CountsSources l.all (flat_map (λ n. sources_of xs l.number n.what) (take l.name-index l.names))
