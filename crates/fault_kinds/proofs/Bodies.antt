-- What operators of each kind make of an item.
use Rattle.std.specs.Prelude.{ℕ, List, [], ◌∷◌, Option, Some, None, slice_get}
use Rattle.spl_value.specs.declared.item.Item.{Item}
use Rattle.spl_value.specs.declared.item.Item.TheVariants as I
use Rattle.spl_value.specs.declared.value.Value.{Value}
use Rattle.spl_value.specs.declared.value.Value.TheViews.{out-Value}
use Rattle.spl_tree.specs.declared.body.Function.{Function}
use Rattle.spl_tree.specs.declared.body.Statement.{Statement}
use Rattle.spl_tree.specs.declared.code.Code.{Code}
use Rattle.spl_tree.specs.declared.code.Marker.TheVariants as M
use Rattle.spl_tree.specs.declared.code.Slot.{Slot}
use Rattle.language_model.specs.declared.checked.CollectedAttribute.{CollectedAttribute}
use Rattle.language_model.specs.declared.checked.Handlers.{Handlers}
use Rattle.language_model.specs.declared.checked.CheckedClauses.{CheckedClauses}
use Rattle.language_model.specs.declared.checked.CheckedClauses.TheVariants as A
use Rattle.language_model.specs.declared.checked.Policy.{Policy}
use Rattle.language_model.specs.declared.env.Env.{Env}
use Rattle.language_model.specs.declared.outs.Output.{Output}
use Rattle.language_model.specs.Evaluation.{world_of}
use Rattle.language_model.specs.Functions.{value}
use Rattle.language_model.specs.parts.Operators.{truth_of}
use Rattle.language_model.specs.Statements.{level_tuple}
use Rattle.stream_model.specs.Stream.{Event}
use Rattle.stream_model.specs.Operators.{Operator}
use Rattle.stream_model.specs.PortEvents.{port_items}
use Rattle.stream_model.specs.Bodies.{Makes, at_tuple, by_item, holds, made_where, most_turns, passes, tuple_by, values_at}
use Rattle.stream_model.specs.Customs.{handler, item_leaves, left_by, marker_env, state}
use Rattle.stream_model.specs.parts.Customs.{tuple_env}
use Rattle.stream_model.specs.Aggregates.{aggregate_body, arguments, fired_give}
use Rattle.stream_model.specs.parts.Aggregates.{argument}
use Rattle.stream_model.specs.Joins.{pairs_at, pairs_give}
use Rattle.stream_model.specs.React.{makes_by}
use Rattle.fault_kinds.proofs.Outcomes.{Own, own_followed, own_need, own_either}
use Rattle.fault_kinds.proofs.Functions.{own_value, own_runs}

own_item : (tuple : List Value → Makes) (marker : List Output) → ((vs : List Value) → Own (tuple vs)) → (x : Item) → Own (by_item tuple marker x)
own_item tuple marker h (I.Tuple vs) = h vs
own_item tuple marker h I.Window = tt
own_item tuple marker h I.Final = tt
own_item tuple marker h (I.Bad f) = tt

module _ (functions : List Function) where
  -- ---- expressions

  own_holds : (condition : Code Slot) (env : Env) (turns : ℕ) → Own (holds functions condition env turns)
  own_holds condition env turns =
      own_followed (value functions condition (world_of env) turns) _ (own_value functions condition (world_of env) turns) (λ v turns. own_need (truth_of v) _ (λ b. tt))

  own_passes : (condition : Option (Code Slot)) (env : Env) (turns : ℕ) → Own (passes functions condition env turns)
  own_passes None env turns = tt
  own_passes (Some condition) env turns = own_holds condition env turns

  own_tuple : (code : Code Slot) (env : Env) (turns : ℕ) → Own (tuple_by functions code env turns)
  own_tuple code env turns =
      own_followed (value functions code (world_of env) turns) _ (own_value functions code (world_of env) turns) (λ v turns.
      own_need (level_tuple (out-Value v)) _ (λ vs. tt))

  own_where : (condition : Option (Code Slot)) (code : Code Slot) (env : Env) (turns : ℕ) → Own (made_where functions condition code env turns)
  own_where condition code env turns =
      own_followed (passes functions condition env turns) _ (own_passes condition env turns) (λ b turns.
      own_either b _ _ (own_followed (tuple_by functions code env turns) _ (own_tuple code env turns) (λ vs turns. tt)) tt)

  -- ---- a Custom

  own_handler : (body : Option (List Statement)) (env : Env) → Own (left_by functions body env)
  own_handler None env = tt
  own_handler (Some body) env = own_runs functions body env most_turns

  own_leaves : (handlers : Handlers) (vars : List Value) (port : ℕ) (x : Item) → Own (item_leaves functions handlers vars port x)
  own_leaves handlers vars port (I.Tuple vs) = own_handler (handler handlers.on_tuple port) (tuple_env vars vs)
  own_leaves handlers vars port I.Window = own_handler (handler handlers.on_punct port) (marker_env vars M.Window)
  own_leaves handlers vars port I.Final = own_handler (handler handlers.on_punct port) (marker_env vars M.Final)
  own_leaves handlers vars port (I.Bad f) = tt

  -- ---- an Aggregate

  own_argument : (code : Option (Code Slot)) (env : Env) (turns : ℕ) → Own (argument functions code env turns)
  own_argument None env turns = tt
  own_argument (Some code) env turns = own_followed (value functions code (world_of env) turns) _ (own_value functions code (world_of env) turns) (λ v turns. tt)

  own_arguments : (xs : List CollectedAttribute) (env : Env) (turns : ℕ) → Own (arguments functions xs env turns)
  own_arguments [] env turns = tt
  own_arguments (x ∷ xs) env turns =
      own_followed (argument functions x.argument env turns) _ (own_argument x.argument env turns) (λ a turns.
      own_followed (arguments functions xs env turns) _ (own_arguments xs env turns) (λ more turns. tt))

  own_aggregate : (window : Policy) (partition group : List ℕ) (collects : List CollectedAttribute) (earlier : List Item) (x : Item)
      → Own (aggregate_body functions window partition group collects earlier x)
  own_aggregate window partition group collects earlier (I.Tuple t) =
      own_followed (arguments functions collects (at_tuple t) most_turns) _ (own_arguments collects (at_tuple t) most_turns) (λ values turns.
      own_need (fired_give functions window partition group collects earlier (I.Tuple t)) _ (λ outs. tt))
  own_aggregate window partition group collects earlier I.Window = own_need (fired_give functions window partition group collects earlier I.Window) _ (λ outs. tt)
  own_aggregate window partition group collects earlier I.Final = tt
  own_aggregate window partition group collects earlier (I.Bad f) = tt

  -- ---- a Join

  own_pairs : (condition : Option (Code Slot)) (code : Code Slot) (pairs : List Env) (turns : ℕ) → Own (pairs_give functions condition code pairs turns)
  own_pairs condition code [] turns = tt
  own_pairs condition code (pair ∷ pairs) turns =
      own_followed (made_where functions condition code pair turns) _ (own_where condition code pair turns) (λ outs turns.
      own_followed (pairs_give functions condition code pairs turns) _ (own_pairs condition code pairs turns) (λ more turns. tt))

pub own_makes : (part : CheckedClauses) (op : Operator) (h : List Event) (port : ℕ) (x : Item) → Own (makes_by part op h port x)
own_makes (A.FileSource file strict) op h port x = tt
own_makes (A.FileSink file) op h port x = own_item _ [] (λ vs. tt) x
own_makes (A.Filter condition) op h port x = own_item _ _ (λ vs. own_followed (passes op.functions condition (at_tuple vs) most_turns) _ (own_passes op.functions condition (at_tuple vs) most_turns) (λ b turns. tt)) x
own_makes (A.Functor condition made) op h port x = own_item _ _ (λ vs. own_where op.functions condition made (at_tuple vs) most_turns) x
own_makes (A.Punctor condition position) op h port x =
    own_item _ _ (λ vs. own_followed (holds op.functions condition (at_tuple vs) most_turns) _ (own_holds op.functions condition (at_tuple vs) most_turns) (λ b turns. tt)) x
own_makes (A.Split index) op h port x =
    own_item _ _ (λ vs. own_followed (value op.functions index (world_of (at_tuple vs)) most_turns) _ (own_value op.functions index (world_of (at_tuple vs)) most_turns) (λ v turns. tt)) x
own_makes (A.Union places) op h port x = own_item _ [] (λ vs. own_need (slice_get places port) _ (λ is. own_need (values_at vs is) _ (λ us. tt))) x
own_makes (A.Custom handlers) op h port x =
    own_followed (item_leaves op.functions handlers (state op.functions handlers h) port x) _ (own_leaves op.functions handlers (state op.functions handlers h) port x) (λ left turns. tt)
own_makes (A.Aggregate window partition group collects) op h port x = own_aggregate op.functions window partition group collects (port_items 0 h) x
own_makes (A.Join left right condition made) op h port x =
    own_item _ [] (λ t. own_pairs op.functions condition made (pairs_at left right (port_items 0 h) (port_items 1 h) port t) most_turns) x
