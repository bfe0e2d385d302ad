-- An Aggregate by its port.
use Rattle.std.proofs.Common.{◌≡◌, ◌<◌, ◌==◌, ℕ, suc, true, false, List, [], ◌∷◌, ◌++◌, map, length, slice_get, Option, Some, None, refl, sym, ap, subst, ◌∙◌, arith}
use Rattle.std.specs.Prelude.{IsTrue, ⊤}
use Rattle.std.specs.Cmp.Lexicographic.{pointwise}
use Rattle.std.specs.List.{AllByRecursion}
use Rattle.std.specs.Option.{unwrap_or}
use Rattle.spl_value.specs.declared.item.Item.{Item}
use Rattle.spl_value.specs.declared.item.Item.TheVariants as I
use Rattle.spl_value.specs.declared.types.Named.{Named}
use Rattle.spl_value.specs.declared.types.SplType.{SplType}
use Rattle.spl_value.specs.declared.types.SplType.TheVariants as S
use Rattle.spl_value.specs.declared.value.Value.{Value}
use Rattle.spl_value.specs.declared.value.Value.TheVariants as V
use Rattle.spl_value.specs.Values.{fits}
use Rattle.spl_value.proofs.FitsLaws.{fits_tuple}
use Rattle.spl_value.proofs.Lists.{get_within}
use Rattle.spl_tree.specs.declared.code.Code.{Code}
use Rattle.spl_tree.specs.declared.code.Slot.{Slot}
use Rattle.spl_tree.specs.declared.graph.OpKind.{OpKind}
use Rattle.language_model.specs.declared.checked.CollectedAttribute.{CollectedAttribute}
use Rattle.language_model.specs.declared.checked.Collector.{Collector}
use Rattle.language_model.specs.declared.checked.CheckedClauses.{CheckedClauses}
use Rattle.language_model.specs.declared.checked.CheckedClauses.TheVariants as A
use Rattle.language_model.specs.declared.checked.Policy.{Policy}
use Rattle.language_model.specs.declared.checked.WindowRule.{WindowRule}
use Rattle.language_model.specs.declared.env.Env.{Env}
use Rattle.language_model.specs.declared.outs.Output.{Output}
use Rattle.language_model.specs.declared.scope.Scope.{Scope}
use Rattle.language_model.specs.CodeFits.{CodeFits}
use Rattle.language_model.specs.Keeping.{AggregateWindow, CollectorFits, GroupsFit, KeysFit, NamesPorts, PartFits}
use Rattle.language_model.specs.Keeping as K
use Rattle.language_model.specs.Outcomes.{Outcome, Done, Faulted, Stuck, followed, need}
use Rattle.language_model.specs.StreamTypes.{Attributes}
use Rattle.language_model.specs.WorldFits.{EnvFits, FunctionsFit}
use Rattle.language_model.proofs.Yielding.{Yields}
use Rattle.stream_model.specs.declared.reply.Reply.{Reply}
use Rattle.stream_model.specs.Stream.{Event, came}
use Rattle.stream_model.specs.Operators.{Operator, input_attributes}
use Rattle.stream_model.specs.PortEvents.{port_items}
use Rattle.stream_model.specs.Bodies.{Makes, at_tuple, most_turns}
use Rattle.stream_model.specs.Aggregates.{aggregate_body, arguments, fired_give}
use Rattle.stream_model.proofs.parts.Aggregates.{done_or_none}
use Rattle.stream_model.specs.parts.Aggregates.{marker_passed}
use Rattle.stream_model.specs.React.{answer, makes_by}
use Rattle.stream_model.specs.Replies.{IsTaken, ItemHas, OutsFit}
use Rattle.stream_model.specs.Windows.{WindowEvent, Insert, Mark, fired_at, integer_at, fired_contents, window_events}
use Rattle.stream_model.specs.WindowLaws.{AllKeep, Keeps, mapped, mapped_event}
use Rattle.stream_model.specs.Fitting.{FitsAt, HasPort, HistoryFits, IsFitting, MakesFit, NoneFaulted, is_given}
use Rattle.stream_model.proofs.ContentMembers.{AllInserted, ItemIs, all_fired, all_if, inserted_of}
use Rattle.stream_model.proofs.FittingCodes.{tuples_env}
use Rattle.stream_model.proofs.GroupTuples.{ArgumentsThere, arguments_there}
use Rattle.stream_model.proofs.MappedWindows.{behind_law, mapped_firing_law}
use Rattle.port_reacts.specs.Bodies.{RepliesToItem}
use Rattle.port_reacts.specs.PortReplies.{MayTakeAt, RepliesAt, WhereOut}
use Rattle.port_reacts.proofs.Replying.{none_faulted, outs_fit, replies_by}
use Rattle.aggregate_op.specs.declared.clauses.Clauses.{Clauses}
use Rattle.aggregate_op.specs.declared.kept.Kept.{Kept}
use Rattle.port_reacts.specs.Evaluation.{idle}
use Rattle.aggregate_op.specs.Arguments.{blank}
use Rattle.aggregate_op.specs.Kept.{KeptStands}
use Rattle.aggregate_op.specs.steps.Arguments.{ArgumentFits, ArgumentsFit}
use Rattle.aggregate_op.specs.Standing.{AggregateStands, came_into, operator_of, key_of_tuple, tuple_with_arguments}
use Rattle.aggregate_op.specs.steps.Firing.{MayCome, events_after, item_makes, tuple_event}
use Rattle.aggregate_op.specs.steps.Giving.{contents_given}
use Rattle.port_reacts.proofs.Answering.{both_out, where_out}
use Rattle.aggregate_op.proofs.Ties.{IsRight, contents_are}
use Rattle.spl_value.proofs.Bools.{and_right}
use Rattle.stream_model.proofs.AggregateFits.{only_input, one_tuple}

-- ---- clauses

-- the clauses of an Aggregate, with the attributes of its ports
pub record Shape (scope : Scope) (ins : List Attributes) (window : Policy) (partition group : List ℕ) (output : List CollectedAttribute) : Type 0 where
  pub input : Attributes
  pub schema : Attributes
  pub takes : ins ≡ input ∷ []
  pub window_fits : AggregateWindow input window.rule
  pub group_fits : KeysFit input group
  pub groups : GroupsFit scope schema output

pub shape_of : (scope : Scope) (kind : OpKind) (ins outs : List Attributes) (part : CheckedClauses) (window : Policy) (partition group : List ℕ) (output : List CollectedAttribute)
    → part ≡ A.Aggregate window partition group output → PartFits scope kind ins outs part → Shape scope ins window partition group output
shape_of scope _ _ _ _ window partition group output is (K.aggregate w p g own input schema a b d e f) =
    let same_window : w ≡ window = cc in
    let same_group : g ≡ group = cc in
    let same_output : own ≡ output = cc in
    record {
      input = input;
      schema = schema;
      takes = refl;
      window_fits = subst (λ (v : Policy). AggregateWindow input v.rule) same_window a;
      group_fits = subst (KeysFit input) same_group e;
      groups = subst (GroupsFit scope schema) same_output f;
    }
shape_of scope _ _ _ _ window partition group output is (K.file_source file strict schema a b) = absurd cc
shape_of scope _ _ _ _ window partition group output is (K.file_sink file schema a b) = absurd cc
shape_of scope _ _ _ _ window partition group output is (K.filter c schema a) = absurd cc
shape_of scope _ _ _ _ window partition group output is (K.functor c fields input schema a b d) = absurd cc
shape_of scope _ _ _ _ window partition group output is (K.punctor c position schema a) = absurd cc
shape_of scope _ _ _ _ window partition group output is (K.split index kind schema outs a b) = absurd cc
shape_of scope _ _ _ _ window partition group output is (K.union places ins schema a b) = absurd cc
shape_of scope _ _ _ _ window partition group output is (K.custom handlers ins outs a) = absurd cc
shape_of scope _ _ _ _ window partition group output is (K.join left right condition fields first second schema a b d e f h i) = absurd cc

places_below : (input : Attributes) (places : List ℕ) → ((i p : ℕ) → slice_get places i ≡ Some p → p < length input) → AllByRecursion (λ p. p < length input) places
places_below input [] k = tt
places_below input (p ∷ places) k = (k 0 p refl, places_below input places (λ i q at. k (suc i) q at))

keys_below : (input : Attributes) (places : List ℕ) → KeysFit input places → AllByRecursion (λ p. p < length input) places
keys_below input places keys = places_below input places (λ i p at. let is = keys.keys i p at in get_within input p is.0 is.1)

-- ---- tuples of the input

as_long : (schema : Attributes) (vs : List Value) → pointwise (λ (a : Named SplType) v. fits a.kind v) schema vs ≡ true → length vs ≡ length schema
as_long [] [] e = refl
as_long [] (v ∷ vs) e = absurd (let no : false ≡ true = e in cc)
as_long (a ∷ schema) [] e = absurd (let no : false ≡ true = e in cc)
as_long (a ∷ schema) (v ∷ vs) e = ap suc (as_long schema vs (and_right (fits a.kind v) (pointwise (λ (b : Named SplType) w. fits b.kind w) schema vs) e))

-- the attribute by which a rule compares tuples is one of the tuple's own
keeps : (input : Attributes) (rule : WindowRule) → AggregateWindow input rule → (f : List Value → List Value) (more : List Value → List Value) (t : List Value)
    → f t ≡ t ++ more t → length t ≡ length input → Keeps rule f t
keeps input _ (K.tumbling_count n is) f more t e long = tt
keeps input _ (K.tumbling_delta place limit is) f more t e long =
    let below = get_within input place is.attribute is.there in
    subst (λ u. integer_at place u ≡ integer_at place t) (sym e) (behind_law place t (more t) (omega (arith, long)))
keeps input _ K.tumbling_punct f more t e long = tt
keeps input _ (K.sliding_count n every is often) f more t e long = tt
keeps input _ (K.sliding_delta place limit every is often) f more t e long =
    let below = get_within input place is.attribute is.there in
    subst (λ u. integer_at place u ≡ integer_at place t) (sym e) (behind_law place t (more t) (omega (arith, long)))

keep_inserted : (P : List Value → Type 0) (rule : WindowRule) (f : List Value → List Value) → ((t : List Value) → P t → Keeps rule f t) → (h : List WindowEvent) → AllInserted P h → AllKeep rule f h
keep_inserted P rule f k [] all = tt
keep_inserted P rule f k (Mark ∷ h) all = keep_inserted P rule f k h all
keep_inserted P rule f k (Insert q t ∷ h) all = (k t all.0, keep_inserted P rule f k h all.1)

abbrev HasCode : Scope → Option (Code Slot) → Type 0
HasCode scope None = ⊤
HasCode scope (Some code) = (t : SplType) × CodeFits scope code t

code_of : (scope : Scope) (collector : Collector) (o : Option (Code Slot)) (t : SplType) → CollectorFits scope collector o t → HasCode scope o
code_of scope _ _ _ (K.sum kind code f) = (S.Int kind, f)
code_of scope _ _ _ (K.least_integer kind code f) = (S.Int kind, f)
code_of scope _ _ _ (K.least_text code f) = (S.Text, f)
code_of scope _ _ _ (K.greatest_integer kind code f) = (S.Int kind, f)
code_of scope _ _ _ (K.greatest_text code f) = (S.Text, f)
code_of scope _ _ _ (K.first code t f) = (t, f)
code_of scope _ _ _ (K.last code t f) = (t, f)
code_of scope _ _ _ K.count = tt

module _ (op : Operator) (fit : IsFitting op) (window : Policy) (partition group : List ℕ) (output : List CollectedAttribute) (is : op.clauses ≡ A.Aggregate window partition group output) where
  abbrev pub shape : Shape fit.scope op.types.ins window partition group output
  shape = shape_of fit.scope fit.kind op.types.ins op.types.outs op.clauses window partition group output is fit.clauses

  abbrev pub Right : List Value → Type 0
  Right = IsRight op.functions fit.scope shape.schema output shape.groups (length shape.input)

  abbrev TupleFits : List Value → Type 0
  TupleFits t = IsTrue (fits (S.Tuple shape.input) (V.Tuple t))

  abbrev evaluated : List Value → Outcome (List (Option Value))
  evaluated t = arguments op.functions output (at_tuple t) most_turns

  env_of : (t : List Value) → TupleFits t → EnvFits fit.scope (at_tuple t)
  env_of t f =
      tuples_env fit.signatures (shape.input ∷ []) fit.scope (t ∷ []) (subst (λ ins. NamesPorts fit.signatures ins fit.scope) shape.takes fit.names) (one_tuple shape.input t f)

  evaluates : (t : List Value) → TupleFits t → Yields (ArgumentsThere shape.schema output) (evaluated t)
  evaluates t f =
      arguments_there fit.signatures op.functions fit.scope fit.names.functions fit.functions (at_tuple t) (env_of t f) shape.schema output shape.groups.fit most_turns

  pub arguments_fit : (t : List Value) → TupleFits t → ArgumentsFit op.functions output (at_tuple t)
  arguments_fit t f k x at = by x.argument (code_of fit.scope x.collector x.argument (shape.groups.fit k x at).0.kind (shape.groups.fit k x at).2)
    where
      by : (o : Option (Code Slot)) → HasCode fit.scope o → ArgumentFits op.functions o (at_tuple t)
      by None code = tt
      by (Some c) code = (code.0, record { scope = fit.scope; code_fits = code.1; env_fits = env_of t f; functions_fit = subst (λ s. FunctionsFit s op.functions) (sym fit.names.functions) fit.functions })

  pub right_if : (t : List Value) (args : List (Option Value)) (turns : ℕ) → evaluated t ≡ Done args turns → TupleFits t → Right t
  right_if t args turns e f = record {
    long = as_long shape.input t (sym (fits_tuple shape.input t) ∙ f);
    values = subst (ArgumentsThere shape.schema output) (sym (ap done_or_none e)) (subst (Yields (ArgumentsThere shape.schema output)) e (evaluates t f));
  }

  came_right : (t : List Value) (o : Outcome (List (Option Value))) (f : List (Option Value) → ℕ → Makes) → evaluated t ≡ o → TupleFits t → is_given (answer (followed o f)) ≡ true → Right t
  came_right t (Done args turns) f e has given = right_if t args turns e has
  came_right t (Faulted kind) f e has given = absurd (let no : false ≡ true = given in cc)
  came_right t Stuck f e has given = absurd (let no : false ≡ true = given in cc)

  item_right : (earlier : List Item) (x : Item) → ItemHas shape.input x → is_given (answer (aggregate_body op.functions window partition group output earlier x)) ≡ true → ItemIs Right x
  item_right earlier (I.Tuple t) f given = came_right t (evaluated t) _ refl f given
  item_right earlier I.Window f given = tt
  item_right earlier I.Final f given = tt
  item_right earlier (I.Bad g) f given = tt

  pub has_input : (p : ℕ) (x : Item) → HasPort op p x → ItemHas shape.input x
  has_input p x has = subst (λ s. ItemHas s x) (only_input op.types.ins shape.input p shape.takes has.0) has.1

  pub history_right : (h : List Event) → HistoryFits op h → NoneFaulted op h → AllByRecursion (ItemIs Right) (port_items 0 h)
  history_right [] fits calm = tt
  history_right (e ∷ h) fits calm =
      let rest = history_right h fits.1 calm.1 in
      let given : is_given (answer (aggregate_body op.functions window partition group output (port_items 0 h) e.item)) ≡ true =
      sym (ap (λ c. is_given (answer (makes_by c op h e.input e.item))) is) ∙ calm.0 in
      all_if (ItemIs Right) (e.input == 0) (e.item ∷ port_items 0 h) (port_items 0 h) (item_right (port_items 0 h) e.item (has_input e.input e.item fits.0) given, rest) rest

-- ---- what is fired

module _ (clauses : Clauses) (fit : IsFitting (operator_of clauses))
    (is : clauses.at.part.now ≡ A.Aggregate clauses.window.now clauses.partition.now clauses.group.now clauses.output.now)
    (wide : clauses.width ≡ length (input_attributes (operator_of clauses) 0)) where
  abbrev op : Operator
  op = operator_of clauses

  abbrev rule : WindowRule
  rule = clauses.window.now.rule

  abbrev own : Shape fit.scope op.types.ins clauses.window.now clauses.partition.now clauses.group.now clauses.output.now
  own = shape op fit clauses.window.now clauses.partition.now clauses.group.now clauses.output.now is

  abbrev OwnRight : List Value → Type 0
  OwnRight = Right op fit clauses.window.now clauses.partition.now clauses.group.now clauses.output.now is

  width_is : clauses.width ≡ length own.input
  width_is = wide ∙ ap length (ap (λ ins. unwrap_or (slice_get ins 0) []) own.takes)

  keep : (t : List Value) → OwnRight t → Keeps rule (tuple_with_arguments clauses) t
  keep t right =
      keeps own.input rule own.window_fits (tuple_with_arguments clauses) (λ u. map blank (done_or_none (arguments op.functions clauses.output.now (at_tuple u) most_turns))) t refl right.long

  module _ (earlier : List Item) (rights : AllByRecursion (ItemIs OwnRight) earlier) where
    abbrev events : List WindowEvent
    events = window_events (key_of_tuple clauses) earlier

    abbrev held : List WindowEvent
    held = mapped (tuple_with_arguments clauses) events

    keep_events : AllKeep rule (tuple_with_arguments clauses) events
    keep_events = keep_inserted OwnRight rule (tuple_with_arguments clauses) keep events (inserted_of OwnRight (key_of_tuple clauses) earlier rights)

    contents_tie : (x : Item) → ItemIs OwnRight x → (e : WindowEvent) → AllKeep rule (tuple_with_arguments clauses) (e ∷ events) → fired_at rule (key_of_tuple clauses) x earlier ≡ fired_contents rule e events
        → fired_give op.functions clauses.window.now clauses.partition.now clauses.group.now clauses.output.now earlier x
        ≡ contents_given clauses (fired_contents rule (mapped_event (tuple_with_arguments clauses) e) held)
    contents_tie x right e keeps_all fires =
        contents_are op.functions fit.scope own.schema clauses.output.now own.groups (length own.input) clauses refl width_is clauses.group.now refl
        (keys_below own.input clauses.group.now own.group_fits) (fired_at rule (key_of_tuple clauses) x earlier) (all_fired OwnRight rule (key_of_tuple clauses) x earlier right rights)
        ∙ ap (λ cs. contents_given clauses (map (map (tuple_with_arguments clauses)) cs)) fires
        ∙ ap (contents_given clauses) (sym ((mapped_firing_law rule (tuple_with_arguments clauses) events).1 e keeps_all))

    tuple_tie : (t : List Value) → OwnRight t → fired_give op.functions clauses.window.now clauses.partition.now clauses.group.now clauses.output.now earlier (I.Tuple t)
        ≡ contents_given clauses (fired_contents rule (tuple_event clauses t) held)
    tuple_tie t right = contents_tie (I.Tuple t) right (Insert (key_of_tuple clauses t) t) (keep t right, keep_events) refl

    mark_tie : fired_give op.functions clauses.window.now clauses.partition.now clauses.group.now clauses.output.now earlier I.Window ≡ contents_given clauses (fired_contents rule Mark held)
    mark_tie = contents_tie I.Window tt Mark keep_events refl

    abbrev body : Item → Makes
    body x = aggregate_body op.functions clauses.window.now clauses.partition.now clauses.group.now clauses.output.now earlier x

    -- what is made of an item is what is made of it with the values of arguments after tuples
    body_is : (x : Item) → ItemHas own.input x → body x ≡ item_makes clauses rule held x
    body_is (I.Tuple t) has = by (arguments op.functions clauses.output.now (at_tuple t) most_turns) refl
      where
        by : (o : Outcome (List (Option Value))) → arguments op.functions clauses.output.now (at_tuple t) most_turns ≡ o
            → followed o (λ values turns. need (fired_give op.functions clauses.window.now clauses.partition.now clauses.group.now clauses.output.now earlier (I.Tuple t)) (λ outs. Done outs turns))
            ≡ followed o (λ args turns. need (contents_given clauses (fired_contents rule (tuple_event clauses t) held)) (λ outs. Done outs turns))
        by (Done args turns) e =
            ap (λ given. need given (λ outs. Done outs turns))
            (tuple_tie t (right_if op fit clauses.window.now clauses.partition.now clauses.group.now clauses.output.now is t args turns e has))
        by (Faulted kind) e = refl
        by Stuck e = refl
    body_is I.Window has = ap (λ given. need given (λ outs. Done (outs ++ marker_passed rule) most_turns)) mark_tie
    body_is I.Final has = refl
    body_is (I.Bad g) has = refl

    given_if : (o : Outcome (List (Option Value))) (given : Option (List Output)) (args : List (Option Value)) (turns : ℕ) → o ≡ Done args turns
        → MakesFit op (followed o (λ args turns. need given (λ outs. Done outs turns))) → (outs : List Output) × (given ≡ Some outs)
    given_if o given args turns e fits = by given (subst (λ p. MakesFit op (followed p (λ args turns. need given (λ outs. Done outs turns)))) e fits)
      where
        by : (given : Option (List Output)) → MakesFit op (need given (λ outs. Done outs turns)) → (outs : List Output) × (given ≡ Some outs)
        by None fits = absurd fits
        by (Some outs) fits = (outs, refl)

    marked_if : (given : Option (List Output)) → MakesFit op (need given (λ outs. Done (outs ++ marker_passed rule) most_turns)) → (outs : List Output) × (given ≡ Some outs)
    marked_if None fits = absurd fits
    marked_if (Some outs) fits = (outs, refl)

    -- what is made isn't stuck, so the item may come
    may_come : (w : Kept) → KeptStands clauses rule w held → (x : Item) → ItemHas own.input x → MakesFit op (item_makes clauses rule held x) → MayCome clauses w x
    may_come w stands (I.Tuple t) has fits = (
      as_long own.input t (sym (fits_tuple own.input t) ∙ has) ∙ sym width_is,
      arguments_fit op fit clauses.window.now clauses.partition.now clauses.group.now clauses.output.now is t has,
      λ args turns e. let there = given_if (arguments op.functions clauses.output.now (at_tuple t) most_turns) (contents_given clauses (fired_contents rule (tuple_event clauses t) held)) args turns e fits in
          (rule, held, there.0, stands, there.1),
    )
    may_come w stands I.Window has fits = let there = marked_if (contents_given clauses (fired_contents rule Mark held)) fits in (rule, held, there.0, stands, there.1)
    may_come w stands I.Final has fits = tt
    may_come w stands (I.Bad g) has fits = tt

-- ---- events

behind_is : (clauses : Clauses) (x : Item) (items : List Item)
    → events_after clauses x (mapped (tuple_with_arguments clauses) (window_events (key_of_tuple clauses) items)) ≡ mapped (tuple_with_arguments clauses) (window_events (key_of_tuple clauses) (x ∷ items))
behind_is clauses (I.Tuple t) items = refl
behind_is clauses I.Window items = refl
behind_is clauses I.Final items = refl
behind_is clauses (I.Bad f) items = refl

module _ (clauses : Clauses) (w : Kept) (env : Env) (h : List Event) (port : ℕ) (x : Item) (law : FitsAt (λ part. true)) (stood : AggregateStands clauses w env h)
    (may : MayTakeAt (operator_of clauses) h port x) where
  abbrev it : Operator
  it = operator_of clauses

  abbrev calm : NoneFaulted it h
  calm = none_faulted it h may.goes_on

  abbrev came_right_so : AllByRecursion (ItemIs (OwnRight clauses may.fitting stood.are stood.width)) (port_items 0 h)
  came_right_so = history_right it may.fitting clauses.window.now clauses.partition.now clauses.group.now clauses.output.now stood.are h may.history calm

  abbrev has : ItemHas (own clauses may.fitting stood.are stood.width).input x
  has = has_input it may.fitting clauses.window.now clauses.partition.now clauses.group.now clauses.output.now stood.are port x may.has

  makes_is : makes_by it.clauses it h port x ≡ item_makes clauses clauses.window.now.rule (came_into clauses h) x
  makes_is = ap (λ part. makes_by part it h port x) stood.are ∙ body_is clauses may.fitting stood.are stood.width (port_items 0 h) came_right_so x has

  pub idle_there : env ≡ idle
  idle_there = stood.no_tuple may.goes_on

  pub may_there : MayCome clauses w x
  may_there =
      may_come clauses may.fitting stood.are stood.width (port_items 0 h) came_right_so w (stood.window may.goes_on) x has
      (subst (MakesFit it) makes_is (law it h port x refl may.fitting may.history calm may.has))

  abbrev ItemReplies : Reply → Type 0
  ItemReplies reply = (rule : WindowRule) (k : List WindowEvent) → KeptStands clauses rule w k
      → RepliesToItem clauses.at.number (length clauses.at.op.now.outs) (answer (item_makes clauses rule k x)) x reply

  pub replies_there : (reply : Reply) → ItemReplies reply → RepliesAt it h port x reply
  replies_there reply k = replies_by it h port x reply _ (ap answer makes_is) (k clauses.window.now.rule (came_into clauses h) (stood.window may.goes_on))

  pub fits_there : (reply : Reply) → ItemReplies reply → OutsFit it reply
  fits_there reply k = outs_fit it h port x reply law may (replies_there reply k)

  first_port : port ≡ 0
  first_port = let one : length it.types.ins ≡ 1 = ap length (own clauses may.fitting stood.are stood.width).takes in omega (arith, may.has.0)

  pub stands_there : (new : Kept) (now : Env) (reply : Reply) → ItemReplies reply → IsTaken reply
      → WhereOut reply ((rule : WindowRule) (k : List WindowEvent) → KeptStands clauses rule w k → KeptStands clauses rule new (events_after clauses x k)) → WhereOut reply (now ≡ idle)
      → AggregateStands clauses new now (came port x ∷ h)
  stands_there new now reply k taken moves ready = record {
    are = stood.are;
    width = stood.width;
    window = λ goes. where_out it h port x reply _ (replies_there reply k) taken goes (both_out reply _ _ _ moves moves (λ move again. behind_so move));
    no_tuple = λ goes. where_out it h port x reply _ (replies_there reply k) taken goes ready;
  }
    where
      behind_so : ((rule : WindowRule) (k : List WindowEvent) → KeptStands clauses rule w k → KeptStands clauses rule new (events_after clauses x k)) → KeptStands clauses clauses.window.now.rule new (came_into clauses (came port x ∷ h))
      behind_so move =
          subst (λ p. KeptStands clauses clauses.window.now.rule new (came_into clauses (came p x ∷ h))) (sym first_port)
          (subst (KeptStands clauses clauses.window.now.rule new) (behind_is clauses x (port_items 0 h)) (move clauses.window.now.rule (came_into clauses h) (stood.window may.goes_on)))
