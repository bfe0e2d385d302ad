-- What an Aggregate gives for contents whose tuples have the values of their arguments after them.
use Rattle.std.specs.Prelude.{◌≡◌, List, [], ◌∷◌, ◌++◌, Option, Some}
use Rattle.std.specs.Option.{option_and_then, option_map}
use Rattle.spl_value.specs.declared.item.Item.TheVariants as I
use Rattle.spl_value.specs.declared.value.Value.{Value}
use Rattle.language_model.specs.declared.outs.Output.{Output}
use Rattle.stream_model.specs.parts.Aggregates.{marker_after}
use Rattle.stream_model.specs.Bodies.{on_first}
use Rattle.stream_model.specs.Groups.{groups}
use Rattle.tuple_groups.specs.Columns.{tuple_at}
use Rattle.aggregate_op.specs.declared.clauses.Clauses.{Clauses}

-- the tuple of a group
abbrev pub tuple_given : Clauses → List (List Value) → Option (List Value)
tuple_given clauses us = tuple_at clauses.width clauses.output.now us

-- those of groups, with their keys
abbrev pub groups_given : Clauses → List (List Value × List (List Value)) → Option (List Output)
groups_given clauses [] = Some []
groups_given clauses (g ∷ gs) =
    option_and_then (λ t. option_map (λ outs. on_first (I.Tuple t) ++ outs) (groups_given clauses gs)) (tuple_given clauses g.1)

-- what a content gives: the tuples of its groups, and what follows them
abbrev pub content_given : Clauses → List (List Value) → Option (List Output)
content_given clauses us = option_map (λ outs. outs ++ marker_after clauses.window.now.rule) (groups_given clauses (groups clauses.group.now us))

-- what contents give
abbrev pub contents_given : Clauses → List (List (List Value)) → Option (List Output)
contents_given clauses [] = Some []
contents_given clauses (us ∷ contents) = option_and_then (λ outs. option_map (λ more. outs ++ more) (contents_given clauses contents)) (content_given clauses us)

-- what is given is added after the others
abbrev pub AreGiven : Option (List Output) → List Output → List Output → Type 0
AreGiven given old new = (outs : List Output) → given ≡ Some outs → new ≡ old ++ outs
