-- Each event of an operator causes as many items as the operator's class says.
use Rattle.std.specs.Prelude.{◌≡◌, ◌≤◌, ◌&&◌, ◌==◌, pos, negsuc, ℕ, ℤ, zero, suc, Bool, true, false, if◌then◌else◌, List, [], ◌∷◌, ◌++◌, map, length, Option, None, Some, slice_get}
use Rattle.std.proofs.Common.{refl, sym, ap, subst, ◌∙◌, arith, length-append}
use Rattle.std.proofs.lemmas.Bool.{eqb-true}
use Rattle.std.proofs.lemmas.Bool.Decides.{nat_tests}
use Rattle.spl_value.specs.declared.item.Item.{Item}
use Rattle.spl_value.specs.declared.item.Item.TheVariants as I
use Rattle.spl_value.specs.declared.value.Value.{Value}
use Rattle.spl_tree.specs.declared.body.Function.{Function}
use Rattle.spl_tree.specs.declared.body.Statement.{Statement}
use Rattle.spl_tree.specs.declared.code.Code.{Code}
use Rattle.spl_tree.specs.declared.code.Marker.TheVariants as M
use Rattle.spl_tree.specs.declared.code.Slot.{Slot}
use Rattle.spl_tree.specs.declared.graph.OpKind.{OpKind}
use Rattle.language_model.specs.declared.checked.CollectedAttribute.{CollectedAttribute}
use Rattle.language_model.specs.declared.checked.Handlers.{Handlers}
use Rattle.language_model.specs.declared.checked.CheckedClauses.{CheckedClauses}
use Rattle.language_model.specs.declared.checked.CheckedClauses.TheVariants as A
use Rattle.language_model.specs.declared.checked.Policy.{Policy}
use Rattle.language_model.specs.declared.checked.PortTypes.{PortTypes}
use Rattle.language_model.specs.declared.checked.WindowRule.{WindowRule}
use Rattle.language_model.specs.declared.checked.WindowRule.TheVariants as W
use Rattle.language_model.specs.declared.env.Env.{Env}
use Rattle.language_model.specs.declared.outs.Output.{Output}
use Rattle.language_model.specs.declared.scope.Scope.{Scope}
use Rattle.language_model.specs.Evaluation.{world_of}
use Rattle.language_model.specs.Functions.{runs, value}
use Rattle.language_model.specs.Keeping.{AggregateWindow, PartFits}
use Rattle.language_model.specs.Keeping as F
use Rattle.language_model.specs.Outcomes.{Outcome, Done, Faulted, Stuck, followed, need}
use Rattle.language_model.specs.Statements.{Left}
use Rattle.language_model.specs.StreamTypes.{Attributes}
use Rattle.language_model.proofs.Returning.{Only}
use Rattle.stream_model.specs.declared.plan.Gives.{Gives}
use Rattle.stream_model.specs.declared.plan.Gives.TheVariants as G
use Rattle.stream_model.specs.Stream.{Event}
use Rattle.stream_model.specs.Windows.{fired_at, flushes_at_markers, partition_key, tuples_with, window_events}
use Rattle.stream_model.specs.Operators.{Operator}
use Rattle.stream_model.specs.PortEvents.{port_items, port_events}
use Rattle.stream_model.specs.Bodies.{Makes, at_tuple, filter_body, functor_body, most_turns, on_each, on_first, on_picked, passes, split_body, tuple_by, union_body, values_at}
use Rattle.stream_model.specs.Aggregates.{aggregate_body, arguments, contents_give, fired_give, slides}
use Rattle.stream_model.specs.parts.Aggregates.{marker_passed}
use Rattle.stream_model.specs.Customs.{custom_body, handler, left_by, marker_env, state}
use Rattle.stream_model.specs.parts.Customs.{tuple_env}
use Rattle.stream_model.specs.React.{answer, answered, makes_by}
use Rattle.stream_model.specs.Regions.{Causes, IsCount}
use Rattle.stream_model.specs.Selectivity.{custom_gives, gives, has_at_most, has_exactly, is_single, least_number, one_unless, window_gives}
use Rattle.stream_model.specs.parts.Selectivity.{greatest_number}
use Rattle.stream_model.proofs.parts.Selectivity.{is_at_most, is_number}
use Rattle.stream_model.proofs.Flushes.{fired_law, passing_law}
use Rattle.stream_model.proofs.StageLaws.{one_in}
use Rattle.selectivity_rules.specs.ClassLaws.{ClassLaw}
use Rattle.selectivity_rules.specs.SubmitLaws.{IsUpTo}
use Rattle.selectivity_rules.proofs.Counting.{interval_law}
use Rattle.selectivity_rules.proofs.GroupCounts.{HasCount, tuple_counts}
use Rattle.spl_value.proofs.Bools.{and_right, and_left}

-- ---- answers

abbrev Count : (ℕ → Type 0) → Makes → Type 0
Count P o = Only (λ (outs : List Output). P (length outs)) o

-- what an operator makes of a tuple and of a window marker, and nothing at the end
record Counts (class : Gives) (makes : Item → Makes) : Type 0 where
  tuples : (vs : List Value) → Count (IsCount class) (makes (I.Tuple vs))
  window : Count (IsCount class) (makes I.Window)
  final : Count (λ n. n ≡ 0) (makes I.Final)

one_counts : (class : Gives) → IsCount class 1
one_counts G.One = refl
one_counts G.AtMostOne = omega arith
one_counts G.Many = tt

-- ---- an operator with one connection and one output port

module _ (n : ℕ) (part : CheckedClauses) (functions : List Function) (types : PortTypes) (s t : ℕ) (class : Gives) where
  abbrev op : Operator
  op = one_in n part functions types s (t ∷ [])

  middle : (o : Makes) → Count (IsCount class) o → IsCount class (length (answered op false (answer o)))
  middle (Done outs turns) h = h
  middle (Faulted kind) h = one_counts class
  middle Stuck h = one_counts class

  end : (o : Makes) → Count (λ k. k ≡ 0) o → IsCount class (length (answered op true (answer o)))
  end (Done outs turns) h =
      let more = length-append outs (on_each 1 I.Final) in
      let one : length (outs ++ on_each 1 I.Final) ≡ 1 = omega (arith, more, h) in
      subst (IsCount class) (sym one) (one_counts class)
  end (Faulted kind) h = one_counts class
  end Stuck h = one_counts class

  causes : ((h : List Event) → Counts class (makes_by part op (port_events op h) 0)) → Causes class op
  causes made h (I.Tuple vs) live = middle (makes_by part op (port_events op h) 0 (I.Tuple vs)) ((made h).tuples vs)
  causes made h I.Window live = middle (makes_by part op (port_events op h) 0 I.Window) (made h).window
  causes made h I.Final live = end (makes_by part op (port_events op h) 0 I.Final) (made h).final
  causes made h (I.Bad f) live = one_counts class

-- ---- what follows

count_then : {B : Type 0} (P : ℕ → Type 0) (o : Outcome B) (f : B → ℕ → Makes) → ((x : B) (turns : ℕ) → Count P (f x turns)) → Count P (followed o f)
count_then P (Done x turns) f k = k x turns
count_then P (Faulted kind) f k = tt
count_then P Stuck f k = tt

count_need : {B : Type 0} (P : ℕ → Type 0) (o : Option B) (f : B → Makes) → ((x : B) → Count P (f x)) → Count P (need o f)
count_need P None f k = tt
count_need P (Some x) f k = k x

-- ---- kinds

filter_counts : (functions : List Function) (condition : Option (Code Slot)) → Counts (one_unless condition) (filter_body functions condition)
filter_counts functions None = record { tuples = λ vs. refl; window = refl; final = refl }
filter_counts functions (Some code) = record { tuples = tuples; window = omega arith; final = refl } where
  if_passed : (vs : List Value) (c : Bool) → length (if c then on_first (I.Tuple vs) else []) ≤ 1
  if_passed vs true = omega arith
  if_passed vs false = omega arith

  tuples : (vs : List Value) → Count (λ n. n ≤ 1) (filter_body functions (Some code) (I.Tuple vs))
  tuples vs = count_then (λ n. n ≤ 1) (passes functions (Some code) (at_tuple vs) most_turns) _ (λ c turns. if_passed vs c)

functor_counts : (functions : List Function) (condition : Option (Code Slot)) (made : Code Slot) → Counts (one_unless condition) (functor_body functions condition made)
functor_counts functions None made = record { tuples = tuples; window = refl; final = refl } where
  tuples : (vs : List Value) → Count (λ n. n ≡ 1) (functor_body functions None made (I.Tuple vs))
  tuples vs = count_then (λ n. n ≡ 1) (tuple_by functions made (at_tuple vs) most_turns) _ (λ us turns. refl)
functor_counts functions (Some code) made = record { tuples = tuples; window = omega arith; final = refl } where
  if_passed : (vs : List Value) (c : Bool) (turns : ℕ)
      → Count (λ n. n ≤ 1) (if c then followed (tuple_by functions made (at_tuple vs) turns) (λ us turns. Done (on_first (I.Tuple us)) turns) else Done [] turns)
  if_passed vs true turns = count_then (λ n. n ≤ 1) (tuple_by functions made (at_tuple vs) turns) _ (λ us turns. omega arith)
  if_passed vs false turns = omega arith

  tuples : (vs : List Value) → Count (λ n. n ≤ 1) (functor_body functions (Some code) made (I.Tuple vs))
  tuples vs = count_then (λ n. n ≤ 1) (passes functions (Some code) (at_tuple vs) most_turns) _ (λ c turns. if_passed vs c turns)

split_counts : (functions : List Function) (index : Code Slot) → Counts G.AtMostOne (split_body functions index 1)
split_counts functions index = record { tuples = tuples; window = omega arith; final = refl } where
  picked : (i : ℤ) (x : Item) → length (on_picked 1 i x) ≤ 1
  picked (pos i) x = omega arith
  picked (negsuc i) x = omega arith

  tuples : (vs : List Value) → Count (λ n. n ≤ 1) (split_body functions index 1 (I.Tuple vs))
  tuples vs = count_then (λ n. n ≤ 1) (value functions index (world_of (at_tuple vs)) most_turns) _ (λ v turns. picked _ (I.Tuple vs))

union_counts : (places : List (List ℕ)) → Counts G.AtMostOne (union_body places 0)
union_counts places = record { tuples = tuples; window = omega arith; final = refl } where
  tuples : (vs : List Value) → Count (λ n. n ≤ 1) (union_body places 0 (I.Tuple vs))
  tuples vs = count_need (λ n. n ≤ 1) (slice_get places 0) _ (λ ps. count_need (λ n. n ≤ 1) (values_at vs ps) _ (λ us. omega arith))

-- ---- a Custom

is_just : (m : Option ℕ) (least n k : ℕ) → ((least == k) && is_number k m) ≡ true → least ≤ n → IsUpTo m n → n ≡ k
is_just None least n k h lo hi = absurd (let f : false ≡ true = and_right (least == k) false h in cc)
is_just (Some m) least n k h lo hi =
    let f : (least == k) ≡ true = and_left (least == k) (m == k) h in
    let g : (m == k) ≡ true = and_right (least == k) (m == k) h in
    grind (arith, nat_tests)

is_within : (m : Option ℕ) (n k : ℕ) → is_at_most k m ≡ true → IsUpTo m n → n ≤ k
is_within None n k h hi = absurd cc
is_within (Some m) n k h hi = grind (arith, nat_tests)

module _ (functions : List Function) where
  abbrev LeftCount : (ℕ → Type 0) → Outcome Left → Type 0
  LeftCount P o = Only (λ (left : Left). P (length left.submits)) o

  given : (P : ℕ → Type 0) (o : Outcome Left) → LeftCount P o → Count P (followed o (λ left turns. Done left.submits turns))
  given P (Done left turns) h = h
  given P (Faulted kind) h = tt
  given P Stuck h = tt

  counted : (P : ℕ → Type 0) (row : List Statement) (env : Env) → ((n : ℕ) → least_number env.punct row ≤ n → IsUpTo (greatest_number env.punct row) n → P n)
      → LeftCount P (runs functions row env most_turns)
  counted P row env h = by_cases (runs functions row env most_turns) refl where
    by_cases : (o : Outcome Left) → runs functions row env most_turns ≡ o → LeftCount P o
    by_cases (Done left turns) e = let is = interval_law functions row env most_turns turns left e in h (length left.submits) is.0 is.1
    by_cases (Faulted kind) e = tt
    by_cases Stuck e = tt

  exactly : (k : ℕ) (body : Option (List Statement)) (env : Env) → has_exactly k env.punct body ≡ true → LeftCount (λ n. n ≡ k) (left_by functions body env)
  exactly k None env test = eqb-true 0 k (and_left (0 == k) (0 == k) test)
  exactly k (Some row) env test = counted (λ n. n ≡ k) row env (λ n lo hi. is_just (greatest_number env.punct row) (least_number env.punct row) n k test lo hi)

  at_most : (k : ℕ) (body : Option (List Statement)) (env : Env) → has_at_most k env.punct body ≡ true → LeftCount (λ n. n ≤ k) (left_by functions body env)
  at_most k None env test = omega arith
  at_most k (Some row) env test = counted (λ n. n ≤ k) row env (λ n lo hi. is_within (greatest_number env.punct row) n k test hi)

  none_left : (o : Outcome Left) → LeftCount (λ n. n ≤ 0) o → LeftCount (λ n. n ≡ 0) o
  none_left (Done left turns) h = omega (arith, h)
  none_left (Faulted kind) h = tt
  none_left Stuck h = tt

  module _ (handlers : Handlers) (h : List Event) where
    abbrev tuple : Option (List Statement)
    tuple = handler handlers.on_tuple 0

    abbrev punct : Option (List Statement)
    punct = handler handlers.on_punct 0

    abbrev vars : List Value
    vars = state functions handlers h

    custom_one : (has_exactly 1 None tuple && (has_exactly 1 (Some M.Window) punct && has_exactly 0 (Some M.Final) punct)) ≡ true → Counts G.One (custom_body functions handlers h 0)
    custom_one tests =
        let rest = and_right (has_exactly 1 None tuple) (has_exactly 1 (Some M.Window) punct && has_exactly 0 (Some M.Final) punct) tests in record {
          tuples = λ vs. given (λ n. n ≡ 1) _ (exactly 1 tuple (tuple_env vars vs) (and_left (has_exactly 1 None tuple) _ tests));
          window = given (λ n. n ≡ 1) _ (exactly 1 punct (marker_env vars M.Window) (and_left (has_exactly 1 (Some M.Window) punct) _ rest));
          final = given (λ n. n ≡ 0) _ (exactly 0 punct (marker_env vars M.Final) (and_right (has_exactly 1 (Some M.Window) punct) _ rest));
        }

    custom_at_most_one : (has_at_most 1 None tuple && (has_at_most 1 (Some M.Window) punct && has_at_most 0 (Some M.Final) punct)) ≡ true
        → Counts G.AtMostOne (custom_body functions handlers h 0)
    custom_at_most_one tests =
        let rest = and_right (has_at_most 1 None tuple) (has_at_most 1 (Some M.Window) punct && has_at_most 0 (Some M.Final) punct) tests in record {
          tuples = λ vs. given (λ n. n ≤ 1) _ (at_most 1 tuple (tuple_env vars vs) (and_left (has_at_most 1 None tuple) _ tests));
          window = given (λ n. n ≤ 1) _ (at_most 1 punct (marker_env vars M.Window) (and_left (has_at_most 1 (Some M.Window) punct) _ rest));
          final = given (λ n. n ≡ 0) _ (none_left _ (at_most 0 punct (marker_env vars M.Final) (and_right (has_at_most 1 (Some M.Window) punct) _ rest)));
        }

module _ (n : ℕ) (handlers : Handlers) (functions : List Function) (types : PortTypes) (s t : ℕ) where
  abbrev ClassHolds : Gives → Type 0
  ClassHolds class = Causes class (one_in n (A.Custom handlers) functions types s (t ∷ []))

  abbrev one : Bool
  one = has_exactly 1 None (handler handlers.on_tuple 0) && (has_exactly 1 (Some M.Window) (handler handlers.on_punct 0) && has_exactly 0 (Some M.Final) (handler handlers.on_punct 0))

  abbrev most : Bool
  most = has_at_most 1 None (handler handlers.on_tuple 0) && (has_at_most 1 (Some M.Window) (handler handlers.on_punct 0) && has_at_most 0 (Some M.Final) (handler handlers.on_punct 0))

  by_class : (a b : Bool) → one ≡ a → most ≡ b → ClassHolds (if a then G.One else if b then G.AtMostOne else G.Many)
  by_class true b is also =
      causes n (A.Custom handlers) functions types s t G.One (λ h. custom_one functions handlers (port_events (one_in n (A.Custom handlers) functions types s (t ∷ [])) h) is)
  by_class false true is also =
      causes n (A.Custom handlers) functions types s t G.AtMostOne (λ h. custom_at_most_one functions handlers (port_events (one_in n (A.Custom handlers) functions types s (t ∷ [])) h) also)
  by_class false false is also = λ h x live. tt

  by_single : (b : Bool) → ClassHolds (if b then custom_gives (handler handlers.on_tuple 0) (handler handlers.on_punct 0) else G.Many)
  by_single true = by_class one most refl refl
  by_single false = λ h x live. tt

  custom_causes : Causes (gives (A.Custom handlers)) (one_in n (A.Custom handlers) functions types s (t ∷ []))
  custom_causes = by_single (is_single handlers.on_tuple)

-- ---- an Aggregate

needed : (P : ℕ → Type 0) (o : Option (List Output)) (turns : ℕ) → HasCount P o → Count P (need o (λ outs. Done outs turns))
needed P None turns h = tt
needed P (Some outs) turns h = h

-- a window that slides: markers don't flush it, and pass
abbrev Slides : WindowRule → Type 0
Slides rule = (flushes_at_markers rule ≡ false) × (slides rule ≡ true)

module _ (functions : List Function) (window : Policy) (partition : List ℕ) (output : List CollectedAttribute) (schema : Attributes) (fit : AggregateWindow schema window.rule)
    (sliding : Slides window.rule) (earlier : List Item) where
  fires_nothing : fired_at window.rule (partition_key window partition) I.Window earlier ≡ []
  fires_nothing =
      let fired = fired_law window.rule (partition_key window partition) earlier in
      let flushed = passing_law window.rule [] (window_events (partition_key window partition) earlier) sliding.0 in
      fired.1 ∙ ap (map (λ e. e.1)) flushed.1

  passed_one : length (marker_passed window.rule) ≡ 1
  passed_one = ap (λ (b : Bool). length (if b then on_first I.Window else [])) sliding.1

  sliding_counts : Counts (window_gives window.rule []) (aggregate_body functions window partition [] output earlier)
  sliding_counts = record {
    tuples = λ vs.
        count_then (IsCount (window_gives window.rule [])) (arguments functions output (at_tuple vs) most_turns) _ (λ values turns.
        needed (IsCount (window_gives window.rule [])) (fired_give functions window partition [] output earlier (I.Tuple vs)) turns
        (tuple_counts functions output vs (tuples_with (partition_key window partition vs) (window_events (partition_key window partition) earlier)) schema window.rule fit));
    window =
        subst (λ contents. Count (IsCount (window_gives window.rule [])) (need (contents_give functions [] output window.rule contents) (λ outs. Done (outs ++ marker_passed window.rule) most_turns)))
        (sym fires_nothing) (subst (IsCount (window_gives window.rule [])) (sym passed_one) (one_counts (window_gives window.rule [])));
    final = refl;
  }

module _ (n : ℕ) (partitioned : Bool) (partition : List ℕ) (output : List CollectedAttribute) (functions : List Function) (types : PortTypes) (s t : ℕ) (schema : Attributes) where
  -- by the rule of the window and the groups
  abbrev RuleHolds : WindowRule → List ℕ → Type 0
  RuleHolds rule group =
      Causes (window_gives rule group) (one_in n (A.Aggregate (record { partitioned = partitioned; rule = rule }) partition group output) functions types s (t ∷ []))

  sliding_causes : (rule : WindowRule) → AggregateWindow schema rule → Slides rule → RuleHolds rule []
  sliding_causes rule fit sliding =
      causes n (A.Aggregate (record { partitioned = partitioned; rule = rule }) partition [] output) functions types s t (window_gives rule []) (λ h.
      sliding_counts functions (record { partitioned = partitioned; rule = rule }) partition output schema fit sliding
      (port_items 0 (port_events (one_in n (A.Aggregate (record { partitioned = partitioned; rule = rule }) partition [] output) functions types s (t ∷ [])) h)))

  rule_causes : (rule : WindowRule) (group : List ℕ) → AggregateWindow schema rule → RuleHolds rule group
  rule_causes (W.TumblingCount k) group fit = λ h x live. tt
  rule_causes (W.TumblingDelta a limit) group fit = λ h x live. tt
  rule_causes W.TumblingPunct group fit = λ h x live. tt
  rule_causes (W.SlidingCount k every) [] fit = sliding_causes (W.SlidingCount k every) fit (refl, refl)
  rule_causes (W.SlidingDelta a limit every) [] fit = sliding_causes (W.SlidingDelta a limit every) fit (refl, refl)
  rule_causes (W.SlidingCount k None) (p ∷ group) fit = λ h x live. tt
  rule_causes (W.SlidingCount k (Some zero)) (p ∷ group) fit = λ h x live. tt
  rule_causes (W.SlidingCount k (Some (suc zero))) (p ∷ group) fit = λ h x live. tt
  rule_causes (W.SlidingCount k (Some (suc (suc every)))) (p ∷ group) fit = λ h x live. tt
  rule_causes (W.SlidingDelta a limit None) (p ∷ group) fit = λ h x live. tt
  rule_causes (W.SlidingDelta a limit (Some zero)) (p ∷ group) fit = λ h x live. tt
  rule_causes (W.SlidingDelta a limit (Some (suc zero))) (p ∷ group) fit = λ h x live. tt
  rule_causes (W.SlidingDelta a limit (Some (suc (suc every)))) (p ∷ group) fit = λ h x live. tt

-- ---- all kinds

window_fits : (scope : Scope) (kind : OpKind) (ins outs : List Attributes) (window : Policy) (partition group : List ℕ) (output : List CollectedAttribute)
    → PartFits scope kind ins outs (A.Aggregate window partition group output) → (schema : Attributes) × AggregateWindow schema window.rule
window_fits scope _ _ _ window partition group output (F.aggregate _ _ _ _ input schema fits keys same groups gathered) = (input, fits)

part_causes : (part : CheckedClauses) (scope : Scope) (kind : OpKind) (ins outs : List Attributes) → PartFits scope kind ins outs part
    → (n : ℕ) (functions : List Function) (types : PortTypes) (s t : ℕ) → Causes (gives part) (one_in n part functions types s (t ∷ []))
part_causes (A.FileSource file strict) scope kind ins outs fit n functions types s t = λ h x live. tt
part_causes (A.FileSink file) scope kind ins outs fit n functions types s t = λ h x live. tt
part_causes (A.Filter condition) scope kind ins outs fit n functions types s t =
    causes n (A.Filter condition) functions types s t (one_unless condition) (λ h. filter_counts functions condition)
part_causes (A.Functor condition made) scope kind ins outs fit n functions types s t =
    causes n (A.Functor condition made) functions types s t (one_unless condition) (λ h. functor_counts functions condition made)
part_causes (A.Punctor condition position) scope kind ins outs fit n functions types s t = λ h x live. tt
part_causes (A.Split index) scope kind ins outs fit n functions types s t = causes n (A.Split index) functions types s t G.AtMostOne (λ h. split_counts functions index)
part_causes (A.Union places) scope kind ins outs fit n functions types s t = causes n (A.Union places) functions types s t G.AtMostOne (λ h. union_counts places)
part_causes (A.Custom handlers) scope kind ins outs fit n functions types s t = custom_causes n handlers functions types s t
part_causes (A.Aggregate window partition group output) scope kind ins outs fit n functions types s t =
    let fits = window_fits scope kind ins outs window partition group output fit in
    rule_causes n window.partitioned partition output functions types s t fits.0 window.rule group fits.1
part_causes (A.Join left right condition made) scope kind ins outs fit n functions types s t = λ h x live. tt

same_op : (op : Operator) (s t : ℕ) → op.ins ≡ (s ∷ []) ∷ [] → op.outs ≡ t ∷ [] → one_in op.number op.clauses op.functions op.types s (t ∷ []) ≡ op
same_op op s t one also = λ i. record { number = op.number; clauses = op.clauses; functions = op.functions; types = op.types; ins = sym one i; outs = sym also i }

pub class_law : ClassLaw
class_law op s t fit one also =
    subst (λ (o : Operator). Causes (gives op.clauses) o) (same_op op s t one also)
    (part_causes op.clauses fit.scope fit.kind op.types.ins op.types.outs fit.clauses op.number op.functions op.types s t)
