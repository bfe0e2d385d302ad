-- What tuples give is what they give with the values of their arguments after them.
use Rattle.std.proofs.Common.{◌≡◌, ◌<◌, ◌+◌, ℕ, zero, suc, List, [], ◌∷◌, ◌++◌, map, length, slice_get, Option, Some, None, refl, sym, ap, subst, ◌∙◌, arith}
use Rattle.std.specs.Prelude.{⊤}
use Rattle.std.specs.List.{AllByRecursion, cons_option}
use Rattle.std.specs.Option.{option_and_then, option_map}
use Rattle.std.proofs.lemmas.List.{length-map}
use Rattle.spl_value.specs.declared.item.Item.TheVariants as I
use Rattle.spl_value.specs.declared.types.SplType.{SplType}
use Rattle.spl_value.specs.declared.value.Value.{Value}
use Rattle.spl_value.specs.Key.{key_of}
use Rattle.spl_tree.specs.declared.body.Function.{Function}
use Rattle.spl_tree.specs.declared.code.Code.{Code}
use Rattle.spl_tree.specs.declared.code.Slot.{Slot}
use Rattle.language_model.specs.declared.checked.CollectedAttribute.{CollectedAttribute}
use Rattle.language_model.specs.declared.checked.Collector.{Collector}
use Rattle.language_model.specs.declared.checked.Collector.TheVariants as C
use Rattle.language_model.specs.declared.outs.Output.{Output}
use Rattle.language_model.specs.declared.scope.Scope.{Scope}
use Rattle.language_model.specs.Evaluation.{tuple_of}
use Rattle.language_model.specs.Keeping.{CollectorFits, GroupsFit}
use Rattle.language_model.specs.Keeping as G
use Rattle.language_model.specs.StreamTypes.{Attributes}
use Rattle.stream_model.specs.Aggregates.{attributes_from, collected, contents_give, tuples_of, values_of}
use Rattle.stream_model.specs.parts.Aggregates.{arguments_of, marker_after}
use Rattle.stream_model.proofs.parts.Aggregates.{group_tuple}
use Rattle.stream_model.specs.Bodies.{on_first}
use Rattle.stream_model.specs.Groups.{groups}
use Rattle.stream_model.proofs.ContentMembers.{AllTuples, EntryIs, IsGroup, all_groups}
use Rattle.stream_model.proofs.Groups.{key_behind_law, mapped_groups_law}
use Rattle.stream_model.proofs.GroupTuples.{ArgumentsThere, HasArgument}
use Rattle.tuple_groups.specs.Columns.{column, fields_at, tuple_at}
use Rattle.aggregate_op.specs.declared.clauses.Clauses.{Clauses}
use Rattle.aggregate_op.specs.Arguments.{blank, extended}
use Rattle.aggregate_op.specs.steps.Giving.{contents_given, groups_given, tuple_given}

abbrev IsArgument : Option (Code Slot) → Type 0
IsArgument None = ⊥
IsArgument (Some code) = ⊤

-- a collector without an argument looks at no values
same_collected : (scope : Scope) (collector : Collector) (o : Option (Code Slot)) (t : SplType) → CollectorFits scope collector o t → (n : ℕ) (vs ws : List Value)
    → (IsArgument o → vs ≡ ws) → collected collector n vs ≡ collected collector n ws
same_collected scope _ _ _ (G.sum kind code f) n vs ws k = ap (collected (C.Sum kind) n) (k tt)
same_collected scope _ _ _ (G.least_integer kind code f) n vs ws k = ap (collected C.Min n) (k tt)
same_collected scope _ _ _ (G.least_text code f) n vs ws k = ap (collected C.Min n) (k tt)
same_collected scope _ _ _ (G.greatest_integer kind code f) n vs ws k = ap (collected C.Max n) (k tt)
same_collected scope _ _ _ (G.greatest_text code f) n vs ws k = ap (collected C.Max n) (k tt)
same_collected scope _ _ _ (G.first code t f) n vs ws k = ap (collected C.First n) (k tt)
same_collected scope _ _ _ (G.last code t f) n vs ws k = ap (collected C.Last n) (k tt)
same_collected scope _ _ _ G.count n vs ws k = refl

blank_at : (args : List (Option Value)) (k : ℕ) (v : Value) → option_and_then (λ a. a) (slice_get args k) ≡ Some v → slice_get (map blank args) k ≡ Some v
blank_at [] k v e = absurd cc
blank_at (None ∷ args) zero v e = absurd cc
blank_at (Some w ∷ args) zero v e = e
blank_at (a ∷ args) (suc k) v e = blank_at args k v e

at_behind : (t more : List Value) (k : ℕ) → slice_get (t ++ more) (length t + k) ≡ slice_get more k
at_behind [] more k = let same : 0 + k ≡ k = omega arith in ap (slice_get more) same
at_behind (v ∷ t) more k =
    let same : suc (length t) + k ≡ suc (length t + k) = omega arith in
    ap (slice_get (v ∷ t ++ more)) same ∙ at_behind t more k

module _ (functions : List Function) (scope : Scope) (schema : Attributes) (output : List CollectedAttribute) (fit : GroupsFit scope schema output) (width : ℕ) where
  -- a tuple of the input, whose arguments were values
  pub record IsRight (t : List Value) : Type 0 where
    pub long : length t ≡ width
    pub values : ArgumentsThere schema output (arguments_of functions output t)

  abbrev f : List Value → List Value
  f = extended functions output

  -- ---- values

  value_there : (t : List Value) → IsRight t → (k : ℕ) (x : CollectedAttribute) → slice_get output k ≡ Some x → IsArgument x.argument
      → option_and_then (λ a. a) (slice_get (arguments_of functions output t) k) ≡ slice_get (f t) (width + k)
  value_there t right k x at is =
      by x.argument (right.values k x (fit.fit k x at).0 at (fit.fit k x at).1) is
    where
      by : (o : Option (Code Slot)) → HasArgument ((fit.fit k x at).0).kind o (option_and_then (λ v. v) (slice_get (arguments_of functions output t) k)) → IsArgument o
          → option_and_then (λ a. a) (slice_get (arguments_of functions output t) k) ≡ slice_get (f t) (width + k)
      by None has is = absurd is
      by (Some code) has is =
          has.1 ∙ sym (blank_at (arguments_of functions output t) k has.0 has.1) ∙ sym (at_behind t (map blank (arguments_of functions output t)) k)
          ∙ ap (λ n. slice_get (f t) (n + k)) right.long

  values_are : (ts : List (List Value)) → AllTuples IsRight ts → (k : ℕ) (x : CollectedAttribute) → slice_get output k ≡ Some x → IsArgument x.argument
      → values_of functions output k ts ≡ column (width + k) (map f ts)
  values_are [] all k x at is = refl
  values_are (t ∷ ts) all k x at is = λ i. cons_option (value_there t all.0 k x at is i) (values_are ts all.1 k x at is i)

  -- ---- the tuple of a group

  attributes_are : (ts : List (List Value)) → AllTuples IsRight ts → (k p : ℕ) (xs : List CollectedAttribute) → p ≡ width + k
      → ((j m : ℕ) (x : CollectedAttribute) → m ≡ k + j → slice_get xs j ≡ Some x → slice_get output m ≡ Some x)
      → attributes_from functions output ts k xs ≡ fields_at p xs (map f ts)
  attributes_are ts all k p [] e at = refl
  attributes_are ts all k p (x ∷ xs) e at =
      let here : slice_get output k ≡ Some x = at 0 k x (omega arith) refl in
      let is = fit.fit k x here in
      let rest = attributes_are ts all (k + 1) (p + 1) xs (omega arith) (λ j m y same there. at (suc j) m y (omega arith) there) in
      let made = same_collected scope x.collector x.argument is.0.kind is.2 (length ts) (values_of functions output k ts) (column p (map f ts))
      (λ arg. values_are ts all k x here arg ∙ ap (λ n. column n (map f ts)) (sym e))
      ∙ ap (λ n. collected x.collector n (column p (map f ts))) (sym (length-map ts f)) in
      λ i. option_and_then (λ v. option_map (λ fs. (x.attribute, v) ∷ fs) (rest i)) (made i)

  pub tuple_is : (ts : List (List Value)) → AllTuples IsRight ts → group_tuple functions output ts ≡ tuple_at width output (map f ts)
  tuple_is ts all = ap (option_and_then tuple_of) (attributes_are ts all 0 width output (omega arith)
      (λ j m x e there. let same : m ≡ j = omega arith in ap (slice_get output) same ∙ there))

  module _ (clauses : Clauses) (same_output : clauses.output.now ≡ output) (same_width : clauses.width ≡ width) where
    given_is : (ts : List (List Value)) → AllTuples IsRight ts → group_tuple functions output ts ≡ tuple_given clauses (map f ts)
    given_is ts all = tuple_is ts all ∙ (λ i. tuple_at (sym same_width i) (sym same_output i) (map f ts))

    abbrev entry : List Value × List (List Value) → List Value × List (List Value)
    entry e = (e.0, map f e.1)

    groups_are : (gs : List (List Value × List (List Value))) → AllByRecursion (EntryIs (IsGroup IsRight)) gs → tuples_of functions output gs ≡ groups_given clauses (map entry gs)
    groups_are [] all = refl
    groups_are (g ∷ gs) all = λ i. option_and_then (λ t. option_map (λ outs. on_first (I.Tuple t) ++ outs) (groups_are gs all.1 i)) (given_is g.1 all.0.0 i)

    -- ---- contents

    keys_stay : (places : List ℕ) (ts : List (List Value)) → AllTuples IsRight ts → AllByRecursion (λ p. p < width) places → AllByRecursion (λ t. key_of (f t) places ≡ key_of t places) ts
    keys_stay places [] all within = tt
    keys_stay places (t ∷ ts) all within =
        (key_behind_law places t (map blank (arguments_of functions output t)) (subst (λ n. AllByRecursion (λ p. p < n) places) (sym all.0.long) within), keys_stay places ts all.1 within)

    with_marker : (o : Option (List Output)) (marker : List Output) (rest : Option (List Output))
        → option_and_then (λ outs. option_map (λ more. outs ++ marker ++ more) rest) o
        ≡ option_and_then (λ outs. option_map (λ more. outs ++ more) rest) (option_map (λ outs. outs ++ marker) o)
    with_marker None marker rest = refl
    with_marker (Some outs) marker rest = refl

    pub contents_are : (group : List ℕ) → clauses.group.now ≡ group → AllByRecursion (λ p. p < width) group → (contents : List (List (List Value))) → AllByRecursion (AllTuples IsRight) contents
        → contents_give functions group output clauses.window.now.rule contents ≡ contents_given clauses (map (map f) contents)
    contents_are group same within [] all = refl
    contents_are group same within (ts ∷ contents) all =
        let own : tuples_of functions output (groups group ts) ≡ groups_given clauses (groups clauses.group.now (map f ts)) =
        groups_are (groups group ts) (all_groups IsRight group ts all.0)
        ∙ ap (groups_given clauses) (sym (mapped_groups_law group f ts (keys_stay group ts all.0 within)) ∙ ap (λ places. groups places (map f ts)) (sym same)) in
        (λ i. option_and_then (λ outs. option_map (λ more. outs ++ marker_after clauses.window.now.rule ++ more) (contents_are group same within contents all.1 i)) (own i))
        ∙ with_marker (groups_given clauses (groups clauses.group.now (map f ts))) (marker_after clauses.window.now.rule) (contents_given clauses (map (map f) contents))
