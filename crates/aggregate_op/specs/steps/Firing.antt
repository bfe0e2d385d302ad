-- What an Aggregate asks and makes of what comes into its window, where tuples have the values of their arguments after them.
use Rattle.std.specs.Prelude.{◌≡◌, ⊤, ℕ, List, [], ◌∷◌, ◌++◌, length, Option, Some}
use Rattle.spl_value.specs.declared.item.Item.{Item}
use Rattle.spl_value.specs.declared.item.Item.TheVariants as I
use Rattle.spl_value.specs.declared.value.Value.{Value}
use Rattle.language_model.specs.declared.checked.WindowRule.{WindowRule}
use Rattle.language_model.specs.declared.outs.Output.{Output}
use Rattle.language_model.specs.Outcomes.{Done, followed, need}
use Rattle.stream_model.specs.Aggregates.{arguments}
use Rattle.stream_model.specs.parts.Aggregates.{marker_passed}
use Rattle.stream_model.specs.Bodies.{Makes, at_tuple, most_turns}
use Rattle.stream_model.specs.Windows.{WindowEvent, Insert, Mark, fired_contents}
use Rattle.aggregate_op.specs.declared.clauses.Clauses.{Clauses}
use Rattle.aggregate_op.specs.declared.kept.Kept.{Kept}
use Rattle.aggregate_op.specs.Kept.{KeptStands}
use Rattle.aggregate_op.specs.steps.Arguments.{ArgumentsFit}
use Rattle.aggregate_op.specs.Standing.{key_of_tuple, tuple_with_arguments}
use Rattle.aggregate_op.specs.steps.Giving.{contents_given}

abbrev pub tuple_event : Clauses → List Value → WindowEvent
tuple_event clauses t = Insert (key_of_tuple clauses t) (tuple_with_arguments clauses t)

-- where something stands for histories, the contents with which an event of the window fires after one of them give something
abbrev pub Gives : Clauses → (WindowRule → List WindowEvent → Type 0) → WindowEvent → Type 0
Gives clauses Stood e =
    (rule : WindowRule) × (h : List WindowEvent) × (given : List Output) × Stood rule h × (contents_given clauses (fired_contents rule e h) ≡ Some given)

abbrev pub EventGives : Clauses → Kept → WindowEvent → Type 0
EventGives clauses kept e = Gives clauses (λ rule h. KeptStands clauses rule kept h) e

-- those of a tuple do, where its arguments have values
abbrev pub TupleGives : Clauses → Kept → List Value → Type 0
TupleGives clauses kept t = (args : List (Option Value)) (turns : ℕ)
    → arguments clauses.at.checked.now.functions clauses.output.now (at_tuple t) most_turns ≡ Done args turns → EventGives clauses kept (tuple_event clauses t)

-- what is made of a tuple, and of a window marker
abbrev pub tuple_makes : Clauses → WindowRule → List WindowEvent → List Value → Makes
tuple_makes clauses rule h t =
    followed (arguments clauses.at.checked.now.functions clauses.output.now (at_tuple t) most_turns) (λ args turns.
    need (contents_given clauses (fired_contents rule (tuple_event clauses t) h)) (λ outs. Done outs turns))

abbrev pub event_makes : Clauses → WindowRule → List WindowEvent → Makes
event_makes clauses rule h = need (contents_given clauses (fired_contents rule Mark h)) (λ outs. Done (outs ++ marker_passed clauses.window.now.rule) most_turns)

abbrev pub item_makes : Clauses → WindowRule → List WindowEvent → Item → Makes
item_makes clauses rule h (I.Tuple t) = tuple_makes clauses rule h t
item_makes clauses rule h I.Window = event_makes clauses rule h
item_makes clauses rule h I.Final = Done [] most_turns
item_makes clauses rule h (I.Bad f) = Done [] most_turns

-- an item may come
abbrev pub MayCome : Clauses → Kept → Item → Type 0
MayCome clauses kept (I.Tuple t) = (length t ≡ clauses.width) × ArgumentsFit clauses.at.checked.now.functions clauses.output.now (at_tuple t) × TupleGives clauses kept t
MayCome clauses kept I.Window = EventGives clauses kept Mark
MayCome clauses kept I.Final = ⊤
MayCome clauses kept (I.Bad f) = ⊤

-- what is in the window after an item
abbrev pub events_after : Clauses → Item → List WindowEvent → List WindowEvent
events_after clauses (I.Tuple t) h = tuple_event clauses t ∷ h
events_after clauses I.Window h = Mark ∷ h
events_after clauses I.Final h = h
events_after clauses (I.Bad f) h = h
