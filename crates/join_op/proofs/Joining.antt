-- A Join by its two ports.
use Rattle.std.proofs.Common.{◌≡◌, ℕ, true, false, if◌then◌else◌, List, [], ◌∷◌, length, map, slice_get, Option, None, Some, refl, sym, ap, subst, arith}
use Rattle.std.specs.Option.{unwrap_or}
use Rattle.spl_value.specs.declared.item.Item.{Item}
use Rattle.spl_value.specs.declared.item.Item.TheVariants as I
use Rattle.spl_value.specs.declared.types.SplType.TheVariants as S
use Rattle.spl_value.specs.declared.value.Value.{Value}
use Rattle.spl_value.specs.Key.{key_of}
use Rattle.spl_tree.specs.declared.code.Code.{Code}
use Rattle.spl_tree.specs.declared.code.Code.TheVariants as C
use Rattle.spl_tree.specs.declared.code.Slot.{Slot}
use Rattle.spl_tree.specs.declared.graph.OpKind.{OpKind}
use Rattle.language_model.specs.declared.checked.CheckedClauses.{CheckedClauses}
use Rattle.language_model.specs.declared.checked.CheckedClauses.TheVariants as A
use Rattle.language_model.specs.declared.checked.Policy.{Policy}
use Rattle.language_model.specs.declared.checked.WindowRule.{WindowRule}
use Rattle.language_model.specs.declared.env.Env.{Env}
use Rattle.language_model.specs.declared.scope.Scope.{Scope}
use Rattle.language_model.specs.CodeFits as F
use Rattle.language_model.specs.Keeping.{ConditionFits, JoinWindow, PartFits}
use Rattle.language_model.specs.Keeping as K
use Rattle.language_model.specs.StreamTypes.{Attributes}
use Rattle.language_model.specs.WorldFits.{EnvFits, FunctionsFit}
use Rattle.stream_model.specs.declared.reply.Reply.{Reply}
use Rattle.stream_model.specs.Stream.{Event, came}
use Rattle.stream_model.specs.Operators.{Operator}
use Rattle.stream_model.specs.PortEvents.{port_items}
use Rattle.stream_model.specs.Bodies.{by_item}
use Rattle.stream_model.specs.Joins.{at_pair, join_body, side_content}
use Rattle.stream_model.specs.React.{answer, makes_by}
use Rattle.stream_model.specs.Replies.{IsTaken, ItemHas, OutsFit}
use Rattle.stream_model.specs.Windows.{WindowEvent, Insert, content, partition_key, window_events}
use Rattle.stream_model.specs.Fitting.{FitsAt, HasPort, HistoryFits, IsFitting}
use Rattle.stream_model.proofs.ContentMembers.{all_content, inserted_of}
use Rattle.stream_model.proofs.FittingCodes.{TuplesHave, tuples_env}
use Rattle.window_policy.specs.declared.window.Window.{Window}
use Rattle.window_policy.specs.Answers.{IsAllowed}
use Rattle.window_policy.specs.Standing.{Stands}
use Rattle.port_reacts.specs.Bodies.{RepliesToItem}
use Rattle.port_reacts.specs.PortReplies.{MayTakeAt, RepliesAt, WhereOut}
use Rattle.port_reacts.proofs.Replying.{outs_fit, replies_by}
use Rattle.join_op.specs.declared.clauses.Clauses.{Clauses}
use Rattle.join_op.specs.declared.side.Side.{Side}
use Rattle.join_op.specs.declared.side.Side.TheVariants.{Left, Right}
use Rattle.port_reacts.specs.Evaluation.{PassesFit}
use Rattle.join_op.specs.Fitting.{PairFits}
use Rattle.join_op.specs.Pairs.{IsReady, pair_env}
use Rattle.join_op.specs.Sides.{JoinStands, SidesStand}
use Rattle.join_op.specs.steps.Matching.{MayMatch, matched, operator_of}
use Rattle.join_op.specs.steps.Standing.{events_after}
use Rattle.port_reacts.proofs.Answering.{both_out, where_out}
use Rattle.spl_value.proofs.Lists.{all_at}
use Rattle.stream_model.proofs.JoinFits.{Has, two_came, came_has}

-- ---- clauses

-- the clauses of a Join, with the attributes of its ports
pub record Shape (scope : Scope) (ins : List Attributes) (left right : Policy) (condition : Option (Code Slot)) (output : Code Slot) : Type 0 where
  pub first : Attributes
  pub second : Attributes
  pub schema : Attributes
  pub takes : ins ≡ first ∷ second ∷ []
  pub left_window : JoinWindow first left.rule
  pub right_window : JoinWindow second right.rule
  pub condition_fits : ConditionFits scope condition
  pub output_fits : F.CodeFits scope output (S.Tuple schema)

pub shape_of : (scope : Scope) (kind : OpKind) (ins outs : List Attributes) (part : CheckedClauses) (left right : Policy) (condition : Option (Code Slot)) (output : Code Slot)
    → part ≡ A.Join left right condition output → PartFits scope kind ins outs part → Shape scope ins left right condition output
shape_of scope _ _ _ _ left right condition output is (K.join l r c fields first second schema wl wr pl pr holds made each) =
    let same_left : l ≡ left = cc in
    let same_right : r ≡ right = cc in
    let same_condition : c ≡ condition = cc in
    let same_output : C.Tuple fields ≡ output = cc in
    record {
      first = first;
      second = second;
      schema = schema;
      takes = refl;
      left_window = subst (λ (w : Policy). JoinWindow first w.rule) same_left wl;
      right_window = subst (λ (w : Policy). JoinWindow second w.rule) same_right wr;
      condition_fits = subst (ConditionFits scope) same_condition holds;
      output_fits = subst (λ o. F.CodeFits scope o (S.Tuple schema)) same_output (F.tuple fields schema made each);
    }
shape_of scope _ _ _ _ left right condition output is (K.file_source file strict schema a b) = absurd cc
shape_of scope _ _ _ _ left right condition output is (K.file_sink file schema a b) = absurd cc
shape_of scope _ _ _ _ left right condition output is (K.filter c schema a) = absurd cc
shape_of scope _ _ _ _ left right condition output is (K.functor c fields input schema a b d) = absurd cc
shape_of scope _ _ _ _ left right condition output is (K.punctor c position schema a) = absurd cc
shape_of scope _ _ _ _ left right condition output is (K.split index kind schema outs a b) = absurd cc
shape_of scope _ _ _ _ left right condition output is (K.union places ins schema a b) = absurd cc
shape_of scope _ _ _ _ left right condition output is (K.custom handlers ins outs a) = absurd cc
shape_of scope _ _ _ _ left right condition output is (K.aggregate window partition group collects input schema a b d e f) = absurd cc

-- a window of a Join is one that there may be
pub is_allowed : (schema : Attributes) (rule : WindowRule) → JoinWindow schema rule → IsAllowed rule
is_allowed schema _ (K.sliding_count n is) = λ m e. absurd cc
is_allowed schema _ (K.sliding_delta place limit is) = λ m e. absurd cc

-- ---- what came

-- a tuple that a side holds has the attributes of the side's port
held_has : (op : Operator) (port : ℕ) (window : Policy) (schema : Attributes) → unwrap_or (slice_get op.types.ins port) [] ≡ schema → (h : List Event) → HistoryFits op h
    → (i : ℕ) (u : List Value) → slice_get (side_content window (port_items port h)) i ≡ Some u → Has schema u
held_has op port window schema is h fit i u at =
    all_at (Has schema) (side_content window (port_items port h)) i u
    (all_content (Has schema) window.rule [] (window_events (partition_key window []) (port_items port h))
    (inserted_of (Has schema) (partition_key window []) (port_items port h) (came_has op port schema is h fit))) at

-- ---- pairs

module _ (op : Operator) (fit : IsFitting op) (left right : Policy) (condition : Option (Code Slot)) (output : Code Slot) (is : op.clauses ≡ A.Join left right condition output) where
  abbrev pub shape : Shape fit.scope op.types.ins left right condition output
  shape = shape_of fit.scope fit.kind op.types.ins op.types.outs op.clauses left right condition output is fit.clauses

  abbrev functions_fit : FunctionsFit fit.scope.functions op.functions
  functions_fit = subst (λ s. FunctionsFit s op.functions) (sym fit.names.functions) fit.functions

  pair_env_fits : (t u : List Value) → Has shape.first t → Has shape.second u → EnvFits fit.scope (at_pair t u)
  pair_env_fits t u h k =
      tuples_env fit.signatures op.types.ins fit.scope (t ∷ u ∷ []) fit.names
      (subst (λ ins. TuplesHave ins (t ∷ u ∷ [])) (sym shape.takes) (two_came shape.first shape.second t u h k))

  condition_fits : (env : Env) → EnvFits fit.scope env → (c : Option (Code Slot)) → ConditionFits fit.scope c → PassesFit op.functions c env
  condition_fits env env_fits None holds = tt
  condition_fits env env_fits (Some code) holds = record { scope = fit.scope; code_fits = holds; env_fits = env_fits; functions_fit = functions_fit }

  -- the clauses fit a tuple of each port
  pair_fits : (t u : List Value) → Has shape.first t → Has shape.second u → PairFits op.functions condition output (at_pair t u)
  pair_fits t u h k = record {
    condition_fits = condition_fits (at_pair t u) (pair_env_fits t u h k) condition shape.condition_fits;
    schema = shape.schema;
    output_fits = record { scope = fit.scope; code_fits = shape.output_fits; env_fits = pair_env_fits t u h k; functions_fit = functions_fit };
  }

  first_is : unwrap_or (slice_get op.types.ins 0) [] ≡ shape.first
  first_is = ap (λ schemas. unwrap_or (slice_get schemas 0) []) shape.takes

  second_is : unwrap_or (slice_get op.types.ins 1) [] ≡ shape.second
  second_is = ap (λ schemas. unwrap_or (slice_get schemas 1) []) shape.takes

  -- and so they fit a tuple of a port with each that the other side holds
  pub left_pairs : (h : List Event) → HistoryFits op h → (t : List Value) → HasPort op 0 (I.Tuple t) → (i : ℕ) (u : List Value)
      → slice_get (side_content right (port_items 1 h)) i ≡ Some u → PairFits op.functions condition output (at_pair t u)
  left_pairs h history t has i u at =
      pair_fits t u (subst (λ a. ItemHas a (I.Tuple t)) first_is has.1) (held_has op 1 right shape.second second_is h history i u at)

  pub right_pairs : (h : List Event) → HistoryFits op h → (t : List Value) → HasPort op 1 (I.Tuple t) → (i : ℕ) (u : List Value)
      → slice_get (side_content left (port_items 0 h)) i ≡ Some u → PairFits op.functions condition output (at_pair u t)
  right_pairs h history t has i u at =
      pair_fits u t (held_has op 0 left shape.first first_is h history i u at) (subst (λ a. ItemHas a (I.Tuple t)) second_is has.1)

  -- the port that isn't the first is the second
  pub is_second : (port : ℕ) (x : Item) → HasPort op port x → (port ≡ 0 → ⊥) → port ≡ 1
  is_second port x has other = let two : length op.types.ins ≡ 2 = ap length shape.takes in omega (arith, has.0, other)

-- ---- windows

no_key : (policy : Policy) (t : List Value) → partition_key policy [] t ≡ []
no_key policy t = elim (policy.partitioned) as (λ b. (if b then key_of t [] else []) ≡ []) [ true ↦ refl | false ↦ refl ]

window_behind : (policy : Policy) (x : Item) (items : List Item) → events_after x (window_events (partition_key policy []) items) ≡ window_events (partition_key policy []) (x ∷ items)
window_behind policy (I.Tuple t) items = ap (λ k. Insert k t ∷ window_events (partition_key policy []) items) (sym (no_key policy t))
window_behind policy I.Window items = refl
window_behind policy I.Final items = refl
window_behind policy (I.Bad f) items = refl

abbrev Behind : Window → Window → Item → Type 0
Behind old new x = (rule : WindowRule) (h : List WindowEvent) → Stands rule old h → Stands rule new (events_after x h)

pub left_behind : (left right : Policy) (l r new : Window) (env now : Env) (h : List Event) (port : ℕ) (x : Item) → port ≡ 0 → SidesStand left right l r env h
    → Behind l new x → IsReady now → SidesStand left right new r now (came port x ∷ h)
left_behind left right l r new env now h port x first stood moves ready =
    subst (λ p. SidesStand left right new r now (came p x ∷ h)) (sym first) (record {
      left_stands = subst (Stands left.rule new) (window_behind left x (port_items 0 h)) (moves left.rule _ stood.left_stands);
      right_stands = stood.right_stands;
      ready = ready;
    })

pub right_behind : (left right : Policy) (l r new : Window) (env now : Env) (h : List Event) (port : ℕ) (x : Item) → port ≡ 1 → SidesStand left right l r env h
    → Behind r new x → IsReady now → SidesStand left right l new now (came port x ∷ h)
right_behind left right l r new env now h port x second stood moves ready =
    subst (λ p. SidesStand left right l new now (came p x ∷ h)) (sym second) (record {
      left_stands = stood.left_stands;
      right_stands = subst (Stands right.rule new) (window_behind right x (port_items 1 h)) (moves right.rule _ stood.right_stands);
      ready = ready;
    })

-- ---- events

module _ (clauses : Clauses) (l r : Window) (env : Env) (h : List Event) (port : ℕ) (x : Item)
    (stood : JoinStands (operator_of clauses) clauses.condition.now clauses.output.now l r env h) (may : MayTakeAt (operator_of clauses) h port x) where
  abbrev op : Operator
  op = operator_of clauses

  abbrev sides : SidesStand stood.left stood.right l r env h
  sides = stood.sides may.goes_on

  abbrev right_history : List WindowEvent
  right_history = window_events (partition_key stood.right []) (port_items 1 h)

  abbrev left_history : List WindowEvent
  left_history = window_events (partition_key stood.left []) (port_items 0 h)

  pub ready_there : IsReady env
  ready_there = sides.ready

  pub second_port : (port ≡ 0 → ⊥) → port ≡ 1
  second_port other = is_second op may.fitting stood.left stood.right clauses.condition.now clauses.output.now stood.clauses port x may.has other

  pub left_may : port ≡ 0 → MayMatch clauses Left r x
  left_may first = by x (subst (λ p. HasPort op p x) first may.has)
    where
      by : (x : Item) → HasPort op 0 x → MayMatch clauses Left r x
      by (I.Tuple t) has = (
        stood.right.rule,
        right_history,
        sides.right_stands,
        left_pairs op may.fitting stood.left stood.right clauses.condition.now clauses.output.now stood.clauses h may.history t has,
      )
      by I.Window has = tt
      by I.Final has = tt
      by (I.Bad f) has = tt

  pub right_may : port ≡ 1 → MayMatch clauses Right l x
  right_may second = by x (subst (λ p. HasPort op p x) second may.has)
    where
      by : (x : Item) → HasPort op 1 x → MayMatch clauses Right l x
      by (I.Tuple t) has = (
        stood.left.rule,
        left_history,
        sides.left_stands,
        right_pairs op may.fitting stood.left stood.right clauses.condition.now clauses.output.now stood.clauses h may.history t has,
      )
      by I.Window has = tt
      by I.Final has = tt
      by (I.Bad f) has = tt

  abbrev SideReplies : Side → Window → Reply → Type 0
  SideReplies side other reply = (rule : WindowRule) (k : List WindowEvent) → Stands rule other k
      → RepliesToItem clauses.at.number (length clauses.at.op.now.outs) (answer (by_item (λ t. matched clauses (map (pair_env side t) (content rule [] k))) [] x)) x reply

  body_is : (p : ℕ) → port ≡ p → answer (makes_by op.clauses op h port x)
      ≡ answer (join_body op.functions stood.left stood.right clauses.condition.now clauses.output.now (port_items 0 h) (port_items 1 h) p x)
  body_is p same = λ i. answer (makes_by (stood.clauses i) op h (same i) x)

  pub left_replies : (reply : Reply) → port ≡ 0 → SideReplies Left r reply → RepliesAt op h port x reply
  left_replies reply first k = replies_by op h port x reply _ (body_is 0 first) (k stood.right.rule right_history sides.right_stands)

  pub right_replies : (reply : Reply) → port ≡ 1 → SideReplies Right l reply → RepliesAt op h port x reply
  right_replies reply second k = replies_by op h port x reply _ (body_is 1 second) (k stood.left.rule left_history sides.left_stands)

  -- the state after an event that is answered
  pub stands_behind : (nl nr : Window) (now : Env) (reply : Reply) → RepliesAt op h port x reply → IsTaken reply
      → WhereOut reply (SidesStand stood.left stood.right nl nr now (came port x ∷ h))
      → JoinStands op clauses.condition.now clauses.output.now nl nr now (came port x ∷ h)
  stands_behind nl nr now reply replies taken out = record {
    left = stood.left;
    right = stood.right;
    clauses = stood.clauses;
    sides = λ goes. where_out op h port x reply _ replies taken goes out;
  }

  pub left_stands : (new : Window) (now : Env) (reply : Reply) → port ≡ 0 → SideReplies Left r reply → IsTaken reply → WhereOut reply (Behind l new x) → WhereOut reply (IsReady now)
      → JoinStands op clauses.condition.now clauses.output.now new r now (came port x ∷ h)
  left_stands new now reply first k taken moves ready =
      stands_behind new r now reply (left_replies reply first k) taken
      (both_out reply _ _ _ moves ready (left_behind stood.left stood.right l r new env now h port x first sides))

  pub right_stands : (new : Window) (now : Env) (reply : Reply) → port ≡ 1 → SideReplies Right l reply → IsTaken reply → WhereOut reply (Behind r new x) → WhereOut reply (IsReady now)
      → JoinStands op clauses.condition.now clauses.output.now l new now (came port x ∷ h)
  right_stands new now reply second k taken moves ready =
      stands_behind l new now reply (right_replies reply second k) taken
      (both_out reply _ _ _ moves ready (right_behind stood.left stood.right l r new env now h port x second sides))

  pub left_fits : FitsAt (λ part. true) → (reply : Reply) → port ≡ 0 → SideReplies Left r reply → OutsFit op reply
  left_fits law reply first k = outs_fit op h port x reply law may (left_replies reply first k)

  pub right_fits : FitsAt (λ part. true) → (reply : Reply) → port ≡ 1 → SideReplies Right l reply → OutsFit op reply
  right_fits law reply second k = outs_fit op h port x reply law may (right_replies reply second k)
