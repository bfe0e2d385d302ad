-- What the bodies of operators give, kind by kind: each output that a body gives passes a test that those of the kinds pass.
use Rattle.std.proofs.Common.{ℕ, zero, suc, ◌<◌, ◌%◌, ◌==◌, nat_lt, not, ◌||◌, ℤ, pos, negsuc, Bool, true, false, cond, List, [], ◌∷◌, ◌++◌, ◌≡◌, refl, sym, ap, ◌∙◌, length, slice_get, Option, Some, None, option_and_then, option_map, arith}
use Rattle.std.specs.List.{list_all, list_any}
use Rattle.std.proofs.Math.Nat.{mod-lt}
use Rattle.std.proofs.lemmas.Bool.{and_parts, and_from, lt-ltb}
use Rattle.spl_value.specs.declared.item.Item.{Item}
use Rattle.spl_value.specs.declared.item.Item.TheVariants as I
use Rattle.spl_value.specs.declared.value.Value.{Value}
use Rattle.spl_value.specs.declared.value.Value.TheViews.{out-Value}
use Rattle.spl_tree.specs.declared.body.Function.{Function}
use Rattle.spl_tree.specs.declared.body.Statement.{Statement}
use Rattle.spl_tree.specs.declared.code.Code.{Code}
use Rattle.spl_tree.specs.declared.code.Marker.TheVariants as M
use Rattle.spl_tree.specs.declared.code.Slot.{Slot}
use Rattle.language_model.specs.declared.checked.CollectedAttribute.{CollectedAttribute}
use Rattle.language_model.specs.declared.checked.Handlers.{Handlers}
use Rattle.language_model.specs.declared.checked.CheckedClauses.{CheckedClauses}
use Rattle.language_model.specs.declared.checked.CheckedClauses.TheVariants as A
use Rattle.language_model.specs.declared.checked.Policy.{Policy}
use Rattle.language_model.specs.declared.checked.Position.{Position}
use Rattle.language_model.specs.declared.checked.Position.TheVariants as P
use Rattle.language_model.specs.declared.checked.WindowRule.{WindowRule}
use Rattle.language_model.specs.declared.env.Env.{Env}
use Rattle.language_model.specs.declared.outs.Output.{Output}
use Rattle.language_model.specs.Evaluation.{world_of}
use Rattle.language_model.specs.Functions.{runs, value}
use Rattle.language_model.specs.Outcomes.{Outcome, Done, Faulted, Stuck, followed, need}
use Rattle.language_model.specs.Statements.{Left}
use Rattle.language_model.proofs.Returning.{Only}
use Rattle.stream_model.specs.Stream.{Event}
use Rattle.spl_value.specs.Numbered.{closes}
use Rattle.stream_model.specs.Operators.{Operator, ports}
use Rattle.stream_model.specs.parts.Operators.{port_at}
use Rattle.stream_model.specs.PortEvents.{port_items, port_events}
use Rattle.stream_model.specs.Windows.{integer_of, partition_key, fired_at}
use Rattle.stream_model.specs.Groups.{groups}
use Rattle.stream_model.specs.Bodies.{Makes, most_turns, output, on_first, on_each, at_tuple, holds, passes, tuple_by, made_where, by_item, with_marker, on_picked, values_at}
use Rattle.stream_model.specs.Customs.{handler, marker_env, left_by, item_leaves, state, custom_body}
use Rattle.stream_model.specs.parts.Customs.{tuple_env}
use Rattle.stream_model.specs.Aggregates.{arguments, tuples_of, slides, contents_give, fired_give, aggregate_body}
use Rattle.stream_model.proofs.parts.Aggregates.{group_tuple}
use Rattle.stream_model.specs.parts.Aggregates.{marker_after, marker_passed}
use Rattle.stream_model.specs.Joins.{pairs_at, pairs_give}
use Rattle.stream_model.specs.React.{Reaction, Gives, Faults, answer, makes_by, body}
use Rattle.stream_model.specs.Laws.{BodyLaw, BodyPorts, SinkPorts, is_custom}
use Rattle.stream_model.proofs.Submits.{submits_open}

-- the items of an answer
abbrev pub given : Reaction → List Output
given (Gives outs) = outs
given (Faults kind) = []

abbrev pub some_closes : List Output → Bool
some_closes outs = list_any (λ o. closes o.item) outs

-- ---- a test of outputs

-- tuples and window markers on the first port pass, window markers on each of n ports, and tuples on a port that is picked of them
pub record Passes (test : Output → Bool) (n : ℕ) : Type 0 where
  pub tuple : (vs : List Value) → test (output 0 (I.Tuple vs)) ≡ true
  pub window : test (output 0 I.Window) ≡ true
  pub each : (p : ℕ) → p < n → test (output p I.Window) ≡ true
  pub picked : (i : ℕ) (vs : List Value) → test (output (i % n) (I.Tuple vs)) ≡ true

module _ (test : Output → Bool) (n : ℕ) (pass : Passes test n) where
  abbrev pub All : List Output → Type 0
  All outs = list_all test outs ≡ true

  abbrev pub Makes_passing : Makes → Type 0
  Makes_passing o = All (given (answer o))

  all_append : (xs ys : List Output) → All xs → All ys → All (xs ++ ys)
  all_append [] ys h k = k
  all_append (x ∷ xs) ys h k = let parts = and_parts (test x) (list_all test xs) h in and_from (test x) (list_all test (xs ++ ys)) parts.0 (all_append xs ys parts.1 k)

  all_first : (x : Item) → test (output 0 x) ≡ true → All (on_first x)
  all_first x h = and_from (test (output 0 x)) true h refl

  all_each : (m : ℕ) → ((p : ℕ) → p < m → p < n) → All (on_each m I.Window)
  all_each zero below = refl
  all_each (suc m) below =
      all_append (on_each m I.Window) (output m I.Window ∷ []) (all_each m (λ p l. below p (omega (arith, l))))
      (and_from (test (output m I.Window)) true (pass.each m (below m (omega arith))) refl)

  passing_followed : {B : Type 0} (o : Outcome B) (f : B → ℕ → Makes) → ((x : B) (turns : ℕ) → Makes_passing (f x turns)) → Makes_passing (followed o f)
  passing_followed (Done x turns) f h = h x turns
  passing_followed (Faulted kind) f h = refl
  passing_followed Stuck f h = refl

  passing_need : {B : Type 0} (o : Option B) (f : B → Makes) → ((x : B) → Makes_passing (f x)) → Makes_passing (need o f)
  passing_need None f h = refl
  passing_need (Some x) f h = h x

  passing_if : (b : Bool) (o p : Makes) → Makes_passing o → Makes_passing p → Makes_passing (cond b o p)
  passing_if true o p h k = h
  passing_if false o p h k = k

  all_if : (b : Bool) (xs ys : List Output) → All xs → All ys → All (cond b xs ys)
  all_if true xs ys h k = h
  all_if false xs ys h k = k

  passing_item : (tuple : List Value → Makes) (marker : List Output) (x : Item) → ((vs : List Value) → Makes_passing (tuple vs)) → All marker
      → Makes_passing (by_item tuple marker x)
  passing_item tuple marker (I.Tuple vs) h k = h vs
  passing_item tuple marker I.Window h k = k
  passing_item tuple marker I.Final h k = refl
  passing_item tuple marker (I.Bad f) h k = refl

  first_tuple : (vs : List Value) → All (on_first (I.Tuple vs))
  first_tuple vs = all_first (I.Tuple vs) (pass.tuple vs)

  first_window : All (on_first I.Window)
  first_window = all_first I.Window pass.window

  where_passing : (functions : List Function) (condition : Option (Code Slot)) (code : Code Slot) (env : Env) (turns : ℕ)
      → Makes_passing (made_where functions condition code env turns)
  where_passing functions condition code env turns =
      passing_followed (passes functions condition env turns) _ (λ b turns.
      passing_if b _ (Done [] turns) (passing_followed (tuple_by functions code env turns) _ (λ vs turns. first_tuple vs)) refl)

  marked : (position : Position) (vs : List Value) → All (with_marker position vs)
  marked P.Before vs = all_append (on_first I.Window) (on_first (I.Tuple vs)) first_window (first_tuple vs)
  marked P.After vs = all_append (on_first (I.Tuple vs)) (on_first I.Window) (first_tuple vs) first_window

  all_picked : (i : ℤ) (vs : List Value) → All (on_picked n i (I.Tuple vs))
  all_picked (pos i) vs = and_from (test (output (i % n) (I.Tuple vs))) true (pass.picked i vs) refl
  all_picked (negsuc i) vs = refl

  -- where there are some
  abbrev AllOf : Option (List Output) → Type 0
  AllOf o = (outs : List Output) → o ≡ Some outs → All outs

  tuples_pass : (functions : List Function) (collects : List CollectedAttribute) (gs : List (List Value × List (List Value))) → AllOf (tuples_of functions collects gs)
  tuples_pass functions collects [] outs e = let same : [] ≡ outs = cc in ap (list_all test) (sym same)
  tuples_pass functions collects (g ∷ gs) outs e = go (group_tuple functions collects g.1) (tuples_of functions collects gs) (tuples_pass functions collects gs) e
    where
      go : (t : Option (List Value)) (rest : Option (List Output)) → AllOf rest
          → option_and_then (λ t. option_map (λ outs. on_first (I.Tuple t) ++ outs) rest) t ≡ Some outs → All outs
      go None rest h e = absurd cc
      go (Some t) None h e = absurd cc
      go (Some t) (Some more) h e =
          let same : on_first (I.Tuple t) ++ more ≡ outs = cc in
          ap (list_all test) (sym same) ∙ all_append (on_first (I.Tuple t)) more (first_tuple t) (h more refl)

  marker_after_passes : (rule : WindowRule) → All (marker_after rule)
  marker_after_passes rule = all_if (slides rule) [] (on_first I.Window) refl first_window

  contents_pass : (functions : List Function) (group : List ℕ) (collects : List CollectedAttribute) (rule : WindowRule) (contents : List (List (List Value)))
      → AllOf (contents_give functions group collects rule contents)
  contents_pass functions group collects rule [] outs e = let same : [] ≡ outs = cc in ap (list_all test) (sym same)
  contents_pass functions group collects rule (ts ∷ contents) outs e =
      go (tuples_of functions collects (groups group ts)) (contents_give functions group collects rule contents)
      (tuples_pass functions collects (groups group ts)) (contents_pass functions group collects rule contents) e
    where
      go : (first rest : Option (List Output)) → AllOf first → AllOf rest
          → option_and_then (λ outs. option_map (λ more. outs ++ marker_after rule ++ more) rest) first ≡ Some outs → All outs
      go None rest h k e = absurd cc
      go (Some xs) None h k e = absurd cc
      go (Some xs) (Some more) h k e =
          let same : xs ++ marker_after rule ++ more ≡ outs = cc in
          ap (list_all test) (sym same)
          ∙ all_append (xs ++ marker_after rule) more (all_append xs (marker_after rule) (h xs refl) (marker_after_passes rule)) (k more refl)

  passing_some : (o : Option (List Output)) (more : List Output) (turns : ℕ) → AllOf o → All more → Makes_passing (need o (λ outs. Done (outs ++ more) turns))
  passing_some None more turns h k = refl
  passing_some (Some outs) more turns h k = all_append outs more (h outs refl) k

  passing_only : (o : Option (List Output)) (turns : ℕ) → AllOf o → Makes_passing (need o (λ outs. Done outs turns))
  passing_only None turns h = refl
  passing_only (Some outs) turns h = h outs refl

  aggregate_passing : (functions : List Function) (window : Policy) (partition group : List ℕ) (collects : List CollectedAttribute) (earlier : List Item) (x : Item)
      → Makes_passing (aggregate_body functions window partition group collects earlier x)
  aggregate_passing functions window partition group collects earlier (I.Tuple t) =
      passing_followed (arguments functions collects (at_tuple t) most_turns) _ (λ values turns.
      passing_only (fired_give functions window partition group collects earlier (I.Tuple t)) turns
      (contents_pass functions group collects window.rule (fired_at window.rule (partition_key window partition) (I.Tuple t) earlier)))
  aggregate_passing functions window partition group collects earlier I.Window =
      passing_some (fired_give functions window partition group collects earlier I.Window) (marker_passed window.rule) most_turns
      (contents_pass functions group collects window.rule (fired_at window.rule (partition_key window partition) I.Window earlier))
      (all_if (slides window.rule) (on_first I.Window) [] first_window refl)
  aggregate_passing functions window partition group collects earlier I.Final = refl
  aggregate_passing functions window partition group collects earlier (I.Bad f) = refl

  pairs_passing : (functions : List Function) (condition : Option (Code Slot)) (code : Code Slot) (pairs : List Env) (turns : ℕ)
      → Makes_passing (pairs_give functions condition code pairs turns)
  pairs_passing functions condition code [] turns = refl
  pairs_passing functions condition code (pair ∷ pairs) turns =
      go (made_where functions condition code pair turns) (λ turns. pairs_give functions condition code pairs turns)
      (where_passing functions condition code pair turns) (pairs_passing functions condition code pairs)
    where
      append : (outs : List Output) (o : Makes) → All outs → Makes_passing o → Makes_passing (followed o (λ more turns. Done (outs ++ more) turns))
      append outs (Done more turns) h k = all_append outs more h k
      append outs (Faulted kind) h k = refl
      append outs Stuck h k = refl

      go : (first : Makes) (rest : ℕ → Makes) → Makes_passing first → ((turns : ℕ) → Makes_passing (rest turns))
          → Makes_passing (followed first (λ outs turns. followed (rest turns) (λ more turns. Done (outs ++ more) turns)))
      go (Done outs turns) rest h k = append outs (rest turns) h (k turns)
      go (Faulted kind) rest h k = refl
      go Stuck rest h k = refl

  pub makes_passing : (clauses : CheckedClauses) (op : Operator) (earlier : List Event) (port : ℕ) (x : Item) → is_custom clauses ≡ false → length op.outs ≡ n
      → Makes_passing (makes_by clauses op earlier port x)
  makes_passing (A.FileSource file strict) op earlier port x c e = refl
  makes_passing (A.FileSink file) op earlier port x c e = passing_item _ [] x first_tuple refl
  makes_passing (A.Filter condition) op earlier port x c e =
      passing_item _ (on_first I.Window) x (λ vs. passing_followed (passes op.functions condition (at_tuple vs) most_turns) _ (λ b turns.
      all_if b (on_first (I.Tuple vs)) [] (first_tuple vs) refl)) first_window
  makes_passing (A.Functor condition made) op earlier port x c e =
      passing_item _ (on_first I.Window) x (λ vs. where_passing op.functions condition made (at_tuple vs) most_turns) first_window
  makes_passing (A.Punctor condition position) op earlier port x c e =
      passing_item _ (on_first I.Window) x (λ vs. passing_followed (holds op.functions condition (at_tuple vs) most_turns) _ (λ b turns.
      all_if b (with_marker position vs) (on_first (I.Tuple vs)) (marked position vs) (first_tuple vs))) first_window
  makes_passing (A.Split index) op earlier port x c e =
      passing_item _ (on_each (length op.outs) I.Window) x (λ vs. passing_followed (value op.functions index (world_of (at_tuple vs)) most_turns) _ (λ v turns.
      ap (λ m. list_all test (on_picked m (integer_of (out-Value v)) (I.Tuple vs))) e ∙ all_picked (integer_of (out-Value v)) vs))
      (all_each (length op.outs) (λ p l. omega (arith, e, l)))
  makes_passing (A.Union places) op earlier port x c e =
      passing_item _ [] x (λ vs. passing_need (slice_get places port) _ (λ is. passing_need (values_at vs is) _ (λ us. first_tuple us))) refl
  makes_passing (A.Custom handlers) op earlier port x c e = absurd cc
  makes_passing (A.Aggregate window partition group collects) op earlier port x c e =
      aggregate_passing op.functions window partition group collects (port_items 0 earlier) x
  makes_passing (A.Join left right condition made) op earlier port x c e =
      passing_item _ [] x (λ t. pairs_passing op.functions condition made (pairs_at left right (port_items 0 earlier) (port_items 1 earlier) port t) most_turns) refl

-- ---- no output closes

abbrev is_open : Output → Bool
is_open o = not (closes o.item)

none_closes : (outs : List Output) → list_all is_open outs ≡ true → some_closes outs ≡ false
none_closes [] h = refl
none_closes (o ∷ outs) h =
    let parts = and_parts (is_open o) (list_all is_open outs) h in
    ap (λ b. b || some_closes outs) (by (closes o.item) parts.0) ∙ none_closes outs parts.1
  where
    by : (b : Bool) → not b ≡ true → b ≡ false
    by true h = cc
    by false h = refl

custom_open : (functions : List Function) (handlers : Handlers) (earlier : List Event) (port : ℕ) (x : Item)
    → some_closes (given (answer (custom_body functions handlers earlier port x))) ≡ false
custom_open functions handlers earlier port x = at_item x
  where
    by : (body : Option (List Statement)) (env : Env) → some_closes (given (answer (followed (left_by functions body env) (λ left turns. Done left.submits turns)))) ≡ false
    by None env = refl
    by (Some row) env = go (runs functions row env most_turns) (submits_open functions row env most_turns)
      where
        go : (o : Outcome Left) → Only (λ (left : Left). some_closes left.submits ≡ false) o → some_closes (given (answer (followed o (λ left turns. Done left.submits turns)))) ≡ false
        go (Done left turns) h = h
        go (Faulted kind) h = refl
        go Stuck h = refl

    at_item : (y : Item) → some_closes (given (answer (followed (item_leaves functions handlers (state functions handlers earlier) port y) (λ left turns. Done left.submits turns)))) ≡ false
    at_item (I.Tuple vs) = by (handler handlers.on_tuple port) (tuple_env (state functions handlers earlier) vs)
    at_item I.Window = by (handler handlers.on_punct port) (marker_env (state functions handlers earlier) M.Window)
    at_item I.Final = by (handler handlers.on_punct port) (marker_env (state functions handlers earlier) M.Final)
    at_item (I.Bad f) = refl

others_open : (clauses : CheckedClauses) (op : Operator) (earlier : List Event) (port : ℕ) (x : Item) → is_custom clauses ≡ false
    → some_closes (given (answer (makes_by clauses op earlier port x))) ≡ false
others_open clauses op earlier port x other =
    none_closes (given (answer (makes_by clauses op earlier port x)))
    (makes_passing is_open (length op.outs) (record { tuple = λ vs. refl; window = refl; each = λ p lt. refl; picked = λ i vs. refl }) clauses op earlier port x other refl)

makes_open : (clauses : CheckedClauses) (op : Operator) (earlier : List Event) (port : ℕ) (x : Item) → some_closes (given (answer (makes_by clauses op earlier port x))) ≡ false
makes_open (A.Custom handlers) op earlier port x = custom_open op.functions handlers earlier port x
makes_open clauses op earlier port x = others_open clauses op earlier port x refl

pub given_open : (op : Operator) (earlier : List Event) (e : Event) → some_closes (given (body op earlier e)) ≡ false
given_open op earlier e = makes_open op.clauses op (port_events op earlier) (port_at (ports op) e.input) e.item

pub body_law : BodyLaw
body_law op earlier e outs h = ap (λ a. some_closes (given a)) (sym h) ∙ given_open op earlier e

-- ---- on which ports

pub body_ports : BodyPorts
body_ports op earlier e outs other some h =
    ap (λ a. list_all (λ o. nat_lt o.port (length op.outs)) (given a)) (sym h)
    ∙ makes_passing (λ o. nat_lt o.port (length op.outs)) (length op.outs) (record {
      tuple = λ vs. lt-ltb 0 (length op.outs) some;
      window = lt-ltb 0 (length op.outs) some;
      each = λ p lt. lt-ltb p (length op.outs) lt;
      picked = λ i vs. lt-ltb (i % length op.outs) (length op.outs) (mod-lt i some);
    }) op.clauses op (port_events op earlier) (port_at (ports op) e.input) e.item other refl

sink_first : (x : Item) → list_all (λ o. o.port == 0) (given (answer (by_item (λ vs. Done (on_first (I.Tuple vs)) most_turns) [] x))) ≡ true
sink_first (I.Tuple vs) = refl
sink_first I.Window = refl
sink_first I.Final = refl
sink_first (I.Bad f) = refl

pub sink_ports : SinkPorts
sink_ports op file earlier e outs is h =
    ap (λ a. list_all (λ o. o.port == 0) (given a)) (sym h)
    ∙ ap (λ clauses. list_all (λ o. o.port == 0) (given (answer (makes_by clauses op (port_events op earlier) (port_at (ports op) e.input) e.item)))) is
    ∙ sink_first e.item
