-- What an invocation names, as the code has it.
use Rattle.std.specs.Prelude.{ℕ, not, List, [], ◌∷◌, flat_map, filter, if◌then◌else◌, Option}
use Rattle.std.specs.Borrow.{Bor}
use Rattle.std.specs.Option.{option_map}
use Rattle.spl_tree.specs.declared.expression.Placed.{Placed}
use Rattle.spl_tree.specs.declared.unit.Composite.{Composite}
use Rattle.spl_tree.specs.declared.unit.Definition.{Definition}
use Rattle.spl_tree.specs.declared.unit.Invocation.{Invocation}
use Rattle.spl_tree.specs.Trees.{placed}
use Rattle.language_model.specs.Invoking.{Operator, Body, Nothing, target_of, is_nothing, is_parameter}
use Rattle.language_model.specs.parts.Invoking.{is_readable}
use Rattle.language_model.specs.Mentions.{Mentions, dollars}
use Rattle.language_model.specs.Invoking as I
use Rattle.language_model.specs.Scopes.{at_place}
use Rattle.composite_expand.specs.declared.invoking.Target.{Target}
use Rattle.composite_expand.specs.declared.invoking.Target.TheVariants as T

abbrev pub seen : Target → I.Target
seen (T.Operator kind) = Operator kind
seen (T.Body place scope) = Body (at_place place scope.now.composite.now)
seen T.Nothing = Nothing

-- the names of streams that an invocation in the composite may not read
abbrev pub unreadable : Composite → List (Placed (List ℕ)) → List (Placed (List ℕ))
unreadable c names = filter (λ n. not (is_readable c n.what)) names

abbrev pub undeclared_operator : List Definition → Invocation → List (Placed (List ℕ))
undeclared_operator unit i = if is_nothing (target_of unit i.operator.what) then i.operator ∷ [] else []

-- the streams that the input ports name
abbrev pub streams_read : Invocation → List (Placed (List ℕ))
streams_read i = flat_map (λ p. p.streams) i.inputs

-- the `$` parameters that the composite doesn't have
abbrev pub undeclared_parameters : Composite → Mentions → List (Placed (List ℕ))
undeclared_parameters c mentions = filter (λ n. not (is_parameter c n.what)) (dollars mentions)

-- a name that is found, as the definitions see it
abbrev pub named : Option (Placed (Bor (List ℕ))) → Option (Placed (List ℕ))
named found = option_map (λ n. placed n.at n.what.now) found
