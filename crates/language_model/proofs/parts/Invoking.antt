-- Words for parts of the rules of invocations.
use Rattle.std.specs.Prelude.{ℕ, Bool, ◌||◌, List, Option, is_some}
use Rattle.std.specs.List.{list_any}
use Rattle.std.specs.Option.{option_map_or}
use Rattle.std.specs.Str.{bytes_eq}
use Rattle.spl_tree.specs.declared.graph.OpKind.{OpKind}
use Rattle.spl_tree.specs.declared.unit.Composite.{Composite}
use Rattle.spl_tree.specs.declared.unit.CompositeParameter.{CompositeParameter}
use Rattle.spl_tree.specs.declared.unit.Parameter.{Parameter}
use Rattle.language_model.specs.Invoking.{Target, Operator, Body, Nothing}
use Rattle.language_model.specs.Kinds.{kind_named}
use Rattle.language_model.specs.Scopes.{At}

abbrev pub operator_or_nothing : Option OpKind → Target
operator_or_nothing kind = option_map_or Operator kind Nothing

abbrev pub body_or_operator : List ℕ → Option (At Composite) → Target
body_or_operator name c = option_map_or Body c (operator_or_nothing (kind_named name))

-- a parameter has a default or an argument
abbrev pub has_value : List Parameter → CompositeParameter → Bool
has_value arguments p = is_some p.default || list_any (λ a. bytes_eq a.name.what p.name.what) arguments
