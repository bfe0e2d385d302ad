-- Bodies as the code has them.
use Rattle.std.specs.Prelude.{ℕ, List, Option, slice_get}
use Rattle.std.specs.Option.{option_and_then, option_map}
use Rattle.spl_tree.specs.declared.graph.Expansion.{Expansion}
use Rattle.spl_tree.specs.declared.unit.Definition.{Definition}
use Rattle.language_model.specs.DollarTargets.{composite_of}
use Rattle.language_model.specs.StreamTypes.{Body}
use Rattle.body_sites.specs.declared.bodies.Body.{Body as Kept}

abbrev pub body_seen : Kept → Body
body_seen b = record { number = b.number; expansion = b.expansion.now; composite = b.composite.now }

-- `body_at` by the expansions of the graph
abbrev pub body_at_sites : List Definition → List Expansion → ℕ → Option Body
body_at_sites unit expansions number =
    option_and_then (λ x. option_map (λ c. record { number = number; expansion = x; composite = c }) (composite_of unit x)) (slice_get expansions number)
