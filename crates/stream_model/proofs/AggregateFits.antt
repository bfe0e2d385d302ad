-- Aggregates.
use Rattle.std.proofs.Common.{◌≡◌, ◌<◌, ◌==◌, ℕ, zero, suc, true, false, List, [], ◌∷◌, length, slice_get, Option, Some, refl, sym, ap, subst, ◌∙◌, arith}
use Rattle.std.specs.Prelude.{IsTrue}
use Rattle.std.specs.List.{AllByRecursion}
use Rattle.std.specs.Option.{unwrap_or}
use Rattle.spl_value.specs.declared.item.Item.{Item}
use Rattle.spl_value.specs.declared.item.Item.TheVariants as I
use Rattle.spl_value.specs.declared.types.SplType.TheVariants as S
use Rattle.spl_value.specs.declared.value.Value.{Value}
use Rattle.spl_value.specs.declared.value.Value.TheVariants as V
use Rattle.spl_value.specs.Values.{fits}
use Rattle.spl_tree.specs.declared.graph.OpKind.{OpKind}
use Rattle.language_model.specs.declared.checked.CollectedAttribute.{CollectedAttribute}
use Rattle.language_model.specs.declared.checked.CheckedClauses.{CheckedClauses}
use Rattle.language_model.specs.declared.checked.CheckedClauses.TheVariants as A
use Rattle.language_model.specs.declared.checked.Policy.{Policy}
use Rattle.language_model.specs.declared.outs.Output.{Output}
use Rattle.language_model.specs.declared.scope.Scope.{Scope}
use Rattle.language_model.specs.Keeping.{GroupsFit, NamesPorts, PartFits}
use Rattle.language_model.specs.Keeping as K
use Rattle.language_model.specs.Outcomes.{Outcome, Done, Faulted, Stuck, followed, need}
use Rattle.language_model.specs.StreamTypes.{Attributes}
use Rattle.language_model.specs.WorldFits.{EnvFits}
use Rattle.language_model.proofs.Yielding.{IsThere, Yields, yields_need, yields_weaker}
use Rattle.stream_model.specs.Stream.{Event}
use Rattle.stream_model.specs.Operators.{Operator}
use Rattle.stream_model.specs.PortEvents.{port_items}
use Rattle.stream_model.specs.Bodies.{Makes, most_turns, at_tuple}
use Rattle.stream_model.specs.Aggregates.{arguments, fired_give, aggregate_body}
use Rattle.stream_model.proofs.parts.Aggregates.{done_or_none}
use Rattle.stream_model.specs.parts.Aggregates.{marker_passed}
use Rattle.stream_model.specs.React.{answer, makes_by}
use Rattle.stream_model.specs.Replies.{ItemHas, AllFit, given_attributes}
use Rattle.stream_model.specs.Windows.{fired_at, partition_key}
use Rattle.stream_model.specs.Fitting.{IsFitting, HistoryFits, HasPort, NoneFaulted, MakesFit, FitsAt, is_given}
use Rattle.stream_model.proofs.PartKinds.{is_aggregate}
use Rattle.stream_model.proofs.FittingCodes.{TuplesHave, tuples_env}
use Rattle.stream_model.proofs.ContentMembers.{all_append, all_if, all_fired, ItemIs}
use Rattle.stream_model.proofs.GroupTuples.{ArgumentsThere, arguments_there, IsGood, OutputFits, passed_fits, contents_there}
use Rattle.stream_model.proofs.SimpleFits.{as_makes}
use Rattle.spl_value.proofs.Lists.{all_at}

-- ---- clauses

-- an Aggregate has one input and one output, and its assignments fit
record Shape (scope : Scope) (ins outs : List Attributes) (output : List CollectedAttribute) : Type 0 where
  input : Attributes
  schema : Attributes
  takes : ins ≡ input ∷ []
  gives : outs ≡ schema ∷ []
  groups : GroupsFit scope schema output

shape_of : (scope : Scope) (kind : OpKind) (ins outs : List Attributes) (part : CheckedClauses) (window : Policy) (partition group : List ℕ) (output : List CollectedAttribute)
    → part ≡ A.Aggregate window partition group output → PartFits scope kind ins outs part → Shape scope ins outs output
shape_of scope _ _ _ _ window partition group output is (K.aggregate w p g own input schema a b d e f) =
    let same : own ≡ output = cc in record { input = input; schema = schema; takes = refl; gives = refl; groups = subst (GroupsFit scope schema) same f }
shape_of scope _ _ _ _ window partition group output is _ = absurd cc

-- ---- ports

pub only_input : (ins : List Attributes) (input : Attributes) (p : ℕ) → ins ≡ input ∷ [] → p < length ins → unwrap_or (slice_get ins p) [] ≡ input
only_input ins input p e within =
    let one : length ins ≡ 1 = ap length e in
    let first : p ≡ 0 = omega arith in
    λ i. unwrap_or (slice_get (e i) (first i)) []

-- a tuple of the only input
pub one_tuple : (input : Attributes) (t : List Value) → IsTrue (fits (S.Tuple input) (V.Tuple t)) → TuplesHave (input ∷ []) (t ∷ [])
one_tuple input t f zero schema at = let same : input ≡ schema = (let e : Some input ≡ Some schema = at in cc) in (t, refl, subst (λ s. IsTrue (fits (S.Tuple s) (V.Tuple t))) same f)
one_tuple input t f (suc i) schema at = absurd cc

-- ---- the body

module _ (op : Operator) (fit : IsFitting op) (window : Policy) (partition group : List ℕ) (output : List CollectedAttribute) (is : op.clauses ≡ A.Aggregate window partition group output) where
  abbrev shape : Shape fit.scope op.types.ins op.types.outs output
  shape = shape_of fit.scope fit.kind op.types.ins op.types.outs op.clauses window partition group output is fit.clauses

  abbrev Good : List Value → Type 0
  Good = IsGood op.functions fit.scope shape.schema output shape.groups

  abbrev Given : Output → Type 0
  Given = OutputFits op.functions fit.scope shape.schema output shape.groups

  abbrev TupleFits : List Value → Type 0
  TupleFits t = IsTrue (fits (S.Tuple shape.input) (V.Tuple t))

  abbrev evaluated : List Value → Outcome (List (Option Value))
  evaluated t = arguments op.functions output (at_tuple t) most_turns

  env_of : (t : List Value) → TupleFits t → EnvFits fit.scope (at_tuple t)
  env_of t f =
      tuples_env fit.signatures (shape.input ∷ []) fit.scope (t ∷ []) (subst (λ ins. NamesPorts fit.signatures ins fit.scope) shape.takes fit.names)
      (one_tuple shape.input t f)

  -- the arguments of a tuple that fits give values, or a fault
  evaluates : (t : List Value) → TupleFits t → Yields (ArgumentsThere shape.schema output) (evaluated t)
  evaluates t f =
      arguments_there fit.signatures op.functions fit.scope fit.names.functions fit.functions (at_tuple t) (env_of t f) shape.schema output
      shape.groups.fit most_turns

  good_if : (t : List Value) (values : List (Option Value)) (turns : ℕ) → evaluated t ≡ Done values turns → ArgumentsThere shape.schema output values → Good t
  good_if t values turns e h = subst (ArgumentsThere shape.schema output) (sym (ap done_or_none e)) h

  -- a tuple that came, and at which there was no fault, had values
  came_good : (t : List Value) (o : Outcome (List (Option Value))) (f : List (Option Value) → ℕ → Makes) → evaluated t ≡ o → Yields (ArgumentsThere shape.schema output) o
      → is_given (answer (followed o f)) ≡ true → Good t
  came_good t (Done values turns) f e h given = good_if t values turns e h
  came_good t (Faulted kind) f e h given = absurd (let no : false ≡ true = given in cc)
  came_good t Stuck f e h given = absurd h

  item_good : (earlier : List Item) (x : Item) → ItemHas shape.input x → is_given (answer (aggregate_body op.functions window partition group output earlier x)) ≡ true
      → ItemIs Good x
  item_good earlier (I.Tuple t) f given = came_good t (evaluated t) _ refl (evaluates t f) given
  item_good earlier I.Window f given = tt
  item_good earlier I.Final f given = tt
  item_good earlier (I.Bad g) f given = tt

  has_input : (p : ℕ) (x : Item) → HasPort op p x → ItemHas shape.input x
  has_input p x has = subst (λ s. ItemHas s x) (only_input op.types.ins shape.input p shape.takes has.0) has.1

  history_good : (h : List Event) → HistoryFits op h → NoneFaulted op h → AllByRecursion (ItemIs Good) (port_items 0 h)
  history_good [] fits calm = tt
  history_good (e ∷ h) fits calm =
      let rest = history_good h fits.1 calm.1 in
      let given : is_given (answer (aggregate_body op.functions window partition group output (port_items 0 h) e.item)) ≡ true =
      sym (ap (λ c. is_given (answer (makes_by c op h e.input e.item))) is) ∙ calm.0 in
      all_if (ItemIs Good) (e.input == 0) (e.item ∷ port_items 0 h) (port_items 0 h) (item_good (port_items 0 h) e.item (has_input e.input e.item fits.0) given, rest) rest

  -- what is fired gives what fits
  gives : (earlier : List Item) (x : Item) → AllByRecursion (ItemIs Good) earlier → ItemIs Good x
      → IsThere (AllByRecursion Given) (fired_give op.functions window partition group output earlier x)
  gives earlier x all good =
      contents_there op.functions fit.scope shape.schema output shape.groups group window.rule (fired_at window.rule (partition_key window partition) x earlier)
      (all_fired Good window.rule (partition_key window partition) x earlier good all)

  tuple_gives : (earlier : List Item) (t : List Value) → AllByRecursion (ItemIs Good) earlier → (o : Outcome (List (Option Value))) → evaluated t ≡ o
      → Yields (ArgumentsThere shape.schema output) o
      → Yields (AllByRecursion Given) (followed o (λ values turns. need (fired_give op.functions window partition group output earlier (I.Tuple t)) (λ outs. Done outs turns)))
  tuple_gives earlier t all (Done values turns) e h =
      yields_need (AllByRecursion Given) (AllByRecursion Given) (fired_give op.functions window partition group output earlier (I.Tuple t)) _
      (gives earlier (I.Tuple t) all (good_if t values turns e h)) (λ outs g. g)
  tuple_gives earlier t all (Faulted kind) e h = tt
  tuple_gives earlier t all Stuck e h = absurd h

  body_gives : (earlier : List Item) (x : Item) → AllByRecursion (ItemIs Good) earlier → ItemHas shape.input x
      → Yields (AllByRecursion Given) (aggregate_body op.functions window partition group output earlier x)
  body_gives earlier (I.Tuple t) all f = tuple_gives earlier t all (evaluated t) refl (evaluates t f)
  body_gives earlier I.Window all f =
      yields_need (AllByRecursion Given) (AllByRecursion Given) (fired_give op.functions window partition group output earlier I.Window) _
      (gives earlier I.Window all tt)
      (λ outs g. all_append Given outs (marker_passed window.rule) g (passed_fits op.functions fit.scope shape.schema output shape.groups window.rule))
  body_gives earlier I.Final all f = tt
  body_gives earlier (I.Bad g) all f = tt

  output_is : (p : ℕ) → p ≡ 0 → given_attributes op.clauses op p ≡ shape.schema
  output_is p e = (λ i. given_attributes (is i) op (e i)) ∙ (λ i. unwrap_or (slice_get (shape.gives i) 0) [])

  given_fits : (outs : List Output) → AllByRecursion Given outs → AllFit op outs
  given_fits outs all = λ i o at.
      let one : Given o = all_at Given outs i o all at in subst (λ s. ItemHas s o.item) (sym (output_is o.port one.0)) one.1

  aggregate_makes : (h : List Event) (port : ℕ) (x : Item) → HistoryFits op h → NoneFaulted op h → HasPort op port x → MakesFit op (makes_by op.clauses op h port x)
  aggregate_makes h port x history calm has =
      subst (λ c. MakesFit op (makes_by c op h port x)) (sym is)
      (as_makes op (aggregate_body op.functions window partition group output (port_items 0 h) x)
      (yields_weaker (AllByRecursion Given) (AllFit op) (aggregate_body op.functions window partition group output (port_items 0 h) x) given_fits
      (body_gives (port_items 0 h) x (history_good h history calm) (has_input port x has))))

by_part : (op : Operator) (h : List Event) (port : ℕ) (x : Item) (part : CheckedClauses) → op.clauses ≡ part → is_aggregate part ≡ true → IsFitting op → HistoryFits op h → NoneFaulted op h
    → HasPort op port x → MakesFit op (makes_by op.clauses op h port x)
by_part op h port x (A.Aggregate window partition group output) is kind fit history calm has =
    aggregate_makes op fit window partition group output is h port x history calm has
by_part op h port x _ is kind fit history calm has = absurd cc

-- the clauses of an Aggregate make what fits
pub aggregate_fits : FitsAt is_aggregate
aggregate_fits op h port x kind fit history calm has = by_part op h port x op.clauses refl kind fit history calm has
