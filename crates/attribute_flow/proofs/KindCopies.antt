-- What the clauses of operators say is a copy is one, kind by kind.
use Rattle.std.specs.Prelude.{◌≡◌, ◌&&◌, not, ◌%◌, pos, negsuc, ℕ, zero, suc, ℤ, Bool, true, false, if◌then◌else◌, List, [], ◌∷◌, map, Option, None, Some, slice_get}
use Rattle.std.specs.List.{AllByRecursion}
use Rattle.std.specs.Option.{option_and_then, option_map}
use Rattle.std.proofs.Common.{refl, sym, ap, subst, ◌∙◌}
use Rattle.spl_value.specs.declared.item.Item.{Item}
use Rattle.spl_value.specs.declared.item.Item.TheVariants as I
use Rattle.spl_value.specs.declared.value.Value.{Value}
use Rattle.spl_value.specs.declared.value.Value.TheViews.{out-Value}
use Rattle.spl_tree.specs.declared.body.Function.{Function}
use Rattle.spl_tree.specs.declared.code.Code.{Code}
use Rattle.spl_tree.specs.declared.code.Slot.{Slot}
use Rattle.language_model.specs.declared.checked.CheckedClauses.{CheckedClauses}
use Rattle.language_model.specs.declared.checked.CheckedClauses.TheVariants as A
use Rattle.language_model.specs.declared.checked.PortTypes.{PortTypes}
use Rattle.language_model.specs.declared.checked.Position.{Position}
use Rattle.language_model.specs.declared.checked.Position.TheVariants as P
use Rattle.language_model.specs.declared.outs.Output.{Output}
use Rattle.language_model.specs.Evaluation.{world_of}
use Rattle.language_model.specs.Functions.{value}
use Rattle.language_model.specs.parts.Functions.{calls_of}
use Rattle.language_model.specs.Outcomes.{Outcome, Done, Faulted, Stuck, followed, need}
use Rattle.language_model.specs.Statements.{level_tuple}
use Rattle.stream_model.specs.declared.plan.StateKind.TheVariants as K
use Rattle.stream_model.specs.Stream.{Event, is_tuple}
use Rattle.stream_model.specs.Windows.{flushes_at_markers}
use Rattle.stream_model.specs.Operators.{Operator}
use Rattle.stream_model.specs.PortEvents.{port_items, port_events}
use Rattle.stream_model.specs.Bodies.{Makes, at_tuple, filter_body, functor_body, holds, most_turns, on_first, on_picked, output, passes, punctor_body, split_body, tuple_by, union_body, values_at, with_marker}
use Rattle.stream_model.specs.Copies.{source_of, trace, tuple_source}
use Rattle.stream_model.specs.React.{makes_by}
use Rattle.stream_model.specs.Regions.{IsCopy}
use Rattle.stream_model.specs.StateKinds.{is_whole_state, state_by}
use Rattle.stream_model.proofs.StageLaws.{one_in}
use Rattle.attribute_flow.specs.CopyLaws.{CopiesLaw, CustomCopiesLaw, TraceLaw}
use Rattle.attribute_flow.proofs.AggregateCopies.{aggregate_copies}
use Rattle.attribute_flow.proofs.CodeValues.{need_done, then_some, tuple_value}
use Rattle.attribute_flow.proofs.CustomCopies.{custom_copies, tuple_same}
use Rattle.attribute_flow.proofs.Reacting.{AllMade, Copied, Copies, IsNoTuple, each_has, is_copy}
use Rattle.spl_value.proofs.Bools.{and_not_parts}
use Rattle.spl_value.proofs.Results.{some_same}
use Rattle.language_model.proofs.Returning.{done_followed}

-- ---- answers

made_then : {A : Type 0} (P : Output → Type 0) (o : Outcome A) (f : A → ℕ → Makes) → ((x : A) (turns : ℕ) → o ≡ Done x turns → AllMade P (f x turns)) → AllMade P (followed o f)
made_then P (Done x turns) f k = k x turns refl
made_then P (Faulted kind) f k = tt
made_then P Stuck f k = tt

made_need : {A : Type 0} (P : Output → Type 0) (o : Option A) (f : A → Makes) → ((x : A) → o ≡ Some x → AllMade P (f x)) → AllMade P (need o f)
made_need P None f k = tt
made_need P (Some x) f k = k x refl

-- a tuple of which the attribute is that one
one_copied : (a b : ℕ) (vs us : List Value) → slice_get us a ≡ slice_get vs b → (p : ℕ) → Copied a b vs (output p (I.Tuple us))
one_copied a b vs us e p ws is = ap (λ (us : List Value). slice_get us a) (sym (tuple_same us ws is)) ∙ e

marker_copied : (a b : ℕ) (vs : List Value) (p : ℕ) → Copied a b vs (output p I.Window)
marker_copied a b vs p us is = absurd cc

-- the tuple itself
itself : (a b : ℕ) (vs : List Value) → a ≡ b → (p : ℕ) → Copied a b vs (output p (I.Tuple vs))
itself a b vs e = one_copied a b vs vs (ap (slice_get vs) e)

-- ---- kinds

filter_copies : (functions : List Function) (condition : Option (Code Slot)) (a b : ℕ) → a ≡ b → Copies a b (filter_body functions condition)
filter_copies functions condition a b e = record { tuples = tuples; others = others } where
  if_passed : (vs : List Value) (c : Bool) → AllByRecursion (Copied a b vs) (if c then on_first (I.Tuple vs) else [])
  if_passed vs true = (itself a b vs e 0, tt)
  if_passed vs false = tt

  tuples : (vs : List Value) → AllMade (Copied a b vs) (filter_body functions condition (I.Tuple vs))
  tuples vs = made_then (Copied a b vs) (passes functions condition (at_tuple vs) most_turns) _ (λ c turns is. if_passed vs c)

  others : (x : Item) → is_tuple x ≡ false → AllMade IsNoTuple (filter_body functions condition x)
  others (I.Tuple vs) q = absurd cc
  others I.Window q = (refl, tt)
  others I.Final q = tt
  others (I.Bad f) q = tt

functor_copies : (functions : List Function) (condition : Option (Code Slot)) (made : Code Slot) (a b : ℕ) → tuple_source a made ≡ Some b
    → Copies a b (functor_body functions condition made)
functor_copies functions condition made a b source = record { tuples = tuples; others = others } where
  tuple_made : (vs : List Value) (turns left : ℕ) (us : List Value) → tuple_by functions made (at_tuple vs) turns ≡ Done us left → slice_get us a ≡ slice_get vs b
  tuple_made vs turns left us e =
      let x = done_followed (value functions made (world_of (at_tuple vs)) turns) _ us left e in
      let y = need_done (level_tuple (out-Value x.0)) (λ ws. Done ws x.1) us left x.3 in
      let same : y.0 ≡ us = cc in
      tuple_value (calls_of functions turns) (at_tuple vs) vs refl a b made turns x.1 x.0 us source x.2 (y.1 ∙ ap Some same)

  if_passed : (vs : List Value) (c : Bool) (turns : ℕ)
      → AllMade (Copied a b vs) (if c then followed (tuple_by functions made (at_tuple vs) turns) (λ us turns. Done (on_first (I.Tuple us)) turns) else Done [] turns)
  if_passed vs true turns =
      made_then (Copied a b vs) (tuple_by functions made (at_tuple vs) turns) _ (λ us left is. (one_copied a b vs us (tuple_made vs turns left us is) 0, tt))
  if_passed vs false turns = tt

  tuples : (vs : List Value) → AllMade (Copied a b vs) (functor_body functions condition made (I.Tuple vs))
  tuples vs = made_then (Copied a b vs) (passes functions condition (at_tuple vs) most_turns) _ (λ c turns is. if_passed vs c turns)

  others : (x : Item) → is_tuple x ≡ false → AllMade IsNoTuple (functor_body functions condition made x)
  others (I.Tuple vs) q = absurd cc
  others I.Window q = (refl, tt)
  others I.Final q = tt
  others (I.Bad f) q = tt

punctor_copies : (functions : List Function) (condition : Code Slot) (position : Position) (a b : ℕ) → a ≡ b → Copies a b (punctor_body functions condition position)
punctor_copies functions condition position a b e = record { tuples = tuples; others = others } where
  marked : (vs : List Value) (position : Position) → AllByRecursion (Copied a b vs) (with_marker position vs)
  marked vs P.Before = (marker_copied a b vs 0, (itself a b vs e 0, tt))
  marked vs P.After = (itself a b vs e 0, (marker_copied a b vs 0, tt))

  if_holds : (vs : List Value) (c : Bool) → AllByRecursion (Copied a b vs) (if c then with_marker position vs else on_first (I.Tuple vs))
  if_holds vs true = marked vs position
  if_holds vs false = (itself a b vs e 0, tt)

  tuples : (vs : List Value) → AllMade (Copied a b vs) (punctor_body functions condition position (I.Tuple vs))
  tuples vs = made_then (Copied a b vs) (holds functions condition (at_tuple vs) most_turns) _ (λ c turns is. if_holds vs c)

  others : (x : Item) → is_tuple x ≡ false → AllMade IsNoTuple (punctor_body functions condition position x)
  others (I.Tuple vs) q = absurd cc
  others I.Window q = (refl, tt)
  others I.Final q = tt
  others (I.Bad f) q = tt

split_copies : (functions : List Function) (index : Code Slot) (n : ℕ) (a b : ℕ) → a ≡ b → Copies a b (split_body functions index n)
split_copies functions index n a b e = record { tuples = tuples; others = others } where
  picked : (vs : List Value) (i : ℤ) → AllByRecursion (Copied a b vs) (on_picked n i (I.Tuple vs))
  picked vs (pos i) = (itself a b vs e (i % n), tt)
  picked vs (negsuc i) = tt

  tuples : (vs : List Value) → AllMade (Copied a b vs) (split_body functions index n (I.Tuple vs))
  tuples vs = made_then (Copied a b vs) (value functions index (world_of (at_tuple vs)) most_turns) _ (λ v turns is. picked vs _)

  others : (x : Item) → is_tuple x ≡ false → AllMade IsNoTuple (split_body functions index n x)
  others (I.Tuple vs) q = absurd cc
  others I.Window q = each_has IsNoTuple (λ p x e. e) n I.Window refl
  others I.Final q = tt
  others (I.Bad f) q = tt

two_some : (o : Option Value) (r : Option (List Value)) (us : List Value) → option_and_then (λ v. option_map (λ us. v ∷ us) r) o ≡ Some us
    → (v : Value) × (vs : List Value) × (o ≡ Some v) × (r ≡ Some vs) × (v ∷ vs ≡ us)
two_some None r us e = absurd cc
two_some (Some v) None us e = absurd cc
two_some (Some v) (Some vs) us e = (v, vs, refl, refl, some_same (v ∷ vs) us e)

-- the values at places stand in the order of the places
value_at : (vs : List Value) (ps : List ℕ) (us : List Value) (a b : ℕ) → values_at vs ps ≡ Some us → slice_get ps a ≡ Some b → slice_get us a ≡ slice_get vs b
value_at vs [] us a b made at = absurd cc
value_at vs (p ∷ ps) us zero b made at =
    let x = two_some (slice_get vs p) (values_at vs ps) us made in
    ap (λ (us : List Value). slice_get us 0) (sym x.4) ∙ sym x.2 ∙ ap (slice_get vs) (some_same p b at)
value_at vs (p ∷ ps) us (suc a) b made at =
    let x = two_some (slice_get vs p) (values_at vs ps) us made in
    ap (λ (us : List Value). slice_get us (suc a)) (sym x.4) ∙ value_at vs ps x.1 a b x.3 at

union_copies : (places : List (List ℕ)) (a b : ℕ) → option_and_then (λ ps. slice_get ps a) (slice_get places 0) ≡ Some b → Copies a b (union_body places 0)
union_copies places a b source = record { tuples = tuples; others = others } where
  tuples : (vs : List Value) → AllMade (Copied a b vs) (union_body places 0 (I.Tuple vs))
  tuples vs =
      let first = then_some (slice_get places 0) (λ ps. slice_get ps a) b source in
      made_need (Copied a b vs) (slice_get places 0) _ (λ ps is.
      made_need (Copied a b vs) (values_at vs ps) _ (λ us made.
      (let same : first.0 ≡ ps = some_same first.0 ps (sym first.1 ∙ is) in
      (one_copied a b vs us (value_at vs ps us a b made (ap (λ ps. slice_get ps a) (sym same) ∙ first.2)) 0, tt))))

  others : (x : Item) → is_tuple x ≡ false → AllMade IsNoTuple (union_body places 0 x)
  others (I.Tuple vs) q = absurd cc
  others I.Window q = tt
  others I.Final q = tt
  others (I.Bad f) q = tt

-- ---- operators with one connection

no_keys : (b : Bool) (places : List ℕ) → is_whole_state (if b then K.Keyed places else K.Whole) ≡ false → b ≡ true
no_keys true places e = refl
no_keys false places e = absurd cc

copies_of : (part : CheckedClauses) (a b : ℕ) → is_whole_state (state_by part) ≡ false → source_of part a ≡ Some b
    → (n : ℕ) (functions : List Function) (types : PortTypes) (s : ℕ) (outs : List ℕ) (h : List Event)
    → Copies a b (makes_by part (one_in n part functions types s outs) h 0)
copies_of (A.FileSource file strict) a b kept source n functions types s outs h = absurd cc
copies_of (A.FileSink file) a b kept source n functions types s outs h = absurd cc
copies_of (A.Filter condition) a b kept source n functions types s outs h = filter_copies functions condition a b (some_same a b source)
copies_of (A.Functor condition made) a b kept source n functions types s outs h = functor_copies functions condition made a b source
copies_of (A.Punctor condition position) a b kept source n functions types s outs h = punctor_copies functions condition position a b (some_same a b source)
copies_of (A.Split index) a b kept source n functions types s outs h = split_copies functions index _ a b (some_same a b source)
copies_of (A.Union places) a b kept source n functions types s outs h = union_copies places a b source
copies_of (A.Custom handlers) a b kept source n functions types s outs h = custom_copies functions handlers a b source h
copies_of (A.Aggregate window partition group output) a b kept source n functions types s outs h =
    let parts = and_not_parts window.partitioned (flushes_at_markers window.rule) (no_keys (window.partitioned && not (flushes_at_markers window.rule)) partition kept) in
    aggregate_copies functions window partition group output parts.0 parts.1 a b source (port_items 0 h)
copies_of (A.Join left right condition made) a b kept source n functions types s outs h = absurd cc

-- an operator with one connection is all that it is
same_op : (op : Operator) (s : ℕ) → op.ins ≡ (s ∷ []) ∷ [] → one_in op.number op.clauses op.functions op.types s op.outs ≡ op
same_op op s one = λ i. record { number = op.number; clauses = op.clauses; functions = op.functions; types = op.types; ins = sym one i; outs = op.outs }

pub copies_hold : CopiesLaw
copies_hold op a b one kept source =
    subst (λ (o : Operator). IsCopy o a b) (same_op op one.0 one.1)
    (is_copy op.number op.clauses op.functions op.types one.0 op.outs a b (λ h.
    copies_of op.clauses a b kept source op.number op.functions op.types one.0 op.outs
    (port_events (one_in op.number op.clauses op.functions op.types one.0 op.outs) h)))

pub custom_copies_hold : CustomCopiesLaw
custom_copies_hold op handlers a b one is source =
    subst (λ (o : Operator). IsCopy o a b) (same_op op one.0 one.1)
    (is_copy op.number op.clauses op.functions op.types one.0 op.outs a b (λ h.
    (let op' = one_in op.number op.clauses op.functions op.types one.0 op.outs in
    subst (λ (part : CheckedClauses). Copies a b (makes_by part op' (port_events op' h) 0)) (sym is)
    (custom_copies op.functions handlers a b (ap (λ (part : CheckedClauses). source_of part a) (sym is) ∙ source) (port_events op' h)))))

pub trace_holds : TraceLaw
trace_holds [] a b all e = some_same a b e
trace_holds (op ∷ ops) a b all e =
    let x = then_some (trace (map (λ (op : Operator). op.clauses) ops) a) (source_of op.clauses) b e in
    (x.0, trace_holds ops a x.0 all.1 x.1, copies_hold op x.0 b all.0.0 all.0.1 x.2)
