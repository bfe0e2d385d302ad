-- The first or the last value of an attribute of a partition, in what an Aggregate gives, is that of the tuple that came.
use Rattle.std.specs.Prelude.{◌≡◌, ◌+◌, ◌≤◌, ◌==◌, ◌||◌, nat_le, ⊤, ℕ, zero, suc, Bool, true, false, if◌then◌else◌, List, [], ◌∷◌, ◌++◌, map, length, Option, None, Some, slice_get}
use Rattle.std.specs.List.{AllByRecursion, cons_option, filter_map, list_any}
use Rattle.std.specs.Option.{option_and_then, option_map}
use Rattle.std.proofs.Common.{refl, sym, ap, subst, ◌∙◌, arith}
use Rattle.std.proofs.lemmas.Bool.{eqb-true}
use Rattle.std.proofs.lemmas.Bool.Decides.{nat_tests}
use Rattle.spl_value.specs.Key.{key_of}
use Rattle.spl_value.specs.declared.item.Item.{Item}
use Rattle.spl_value.specs.declared.item.Item.TheVariants as I
use Rattle.spl_value.specs.declared.value.Value.{Value}
use Rattle.spl_tree.specs.declared.body.Function.{Function}
use Rattle.spl_tree.specs.declared.code.Code.{Code}
use Rattle.spl_tree.specs.declared.code.Slot.{Slot}
use Rattle.language_model.specs.declared.checked.CollectedAttribute.{CollectedAttribute}
use Rattle.language_model.specs.declared.checked.Collector.{Collector}
use Rattle.language_model.specs.declared.checked.Collector.TheVariants as K
use Rattle.language_model.specs.declared.checked.Policy.{Policy}
use Rattle.language_model.specs.declared.checked.WindowRule.{WindowRule}
use Rattle.language_model.specs.declared.outs.Output.{Output}
use Rattle.language_model.specs.Evaluation.{field_at, tuple_of, world_of}
use Rattle.language_model.specs.Functions.{value}
use Rattle.language_model.specs.parts.Functions.{calls_of}
use Rattle.language_model.specs.Outcomes.{Outcome, Done, Faulted, Stuck, need}
use Rattle.language_model.proofs.Returning.{Only, only_followed, done_followed}
use Rattle.stream_model.specs.Stream.{is_tuple}
use Rattle.spl_value.specs.KeyOrder.{same_key}
use Rattle.stream_model.specs.Windows.{contents_of, fired_at, flushes_at_markers, partition_key, tuples_with, window_events}
use Rattle.stream_model.specs.Groups.{groups}
use Rattle.stream_model.specs.Bodies.{at_tuple, most_turns, on_first}
use Rattle.stream_model.specs.Aggregates.{aggregate_body, arguments, attributes_from, collected, contents_give, fired_give, last, slides, tuples_of, values_of}
use Rattle.stream_model.specs.parts.Aggregates.{argument, arguments_of, first, marker_after, marker_passed}
use Rattle.stream_model.proofs.parts.Aggregates.{done_or_none, group_tuple}
use Rattle.stream_model.specs.Copies.{aggregate_source, attribute_alone, kept_source, picks}
use Rattle.stream_model.proofs.Contents.{own_key_law}
use Rattle.stream_model.proofs.ContentMembers.{AllContents, AllTuples, EntryIs, IsGroup, ItemIs, all_append, all_fired, all_groups, all_weaker}
use Rattle.stream_model.proofs.Flushes.{fired_law, passing_law}
use Rattle.spl_value.proofs.KeyOrder.{same_key-equal, same_key-itself}
use Rattle.attribute_flow.proofs.CodeValues.{alone_value, done_same, then_some}
use Rattle.attribute_flow.proofs.Reacting.{AllMade, Copied, Copies, IsNoTuple}
use Rattle.attribute_flow.proofs.TupleFields.{tuple_field}
use Rattle.spl_value.proofs.Results.{some_same}

-- ---- keys: tuples with the same key have the same value at each of its places, or none

-- the first tuple has no place that the second lacks
abbrev IsShorter : List Value → List Value → Type 0
IsShorter t u = (p : ℕ) → slice_get u p ≡ None → slice_get t p ≡ None

shorter : (t u : List Value) → length t ≤ length u → IsShorter t u
shorter [] u le p none = none_there p where
  none_there : (p : ℕ) → slice_get {X = Value} [] p ≡ None
  none_there zero = refl
  none_there (suc p) = refl
shorter (x ∷ t) [] le p none = absurd (omega arith)
shorter (x ∷ t) (y ∷ u) le zero none = absurd cc
shorter (x ∷ t) (y ∷ u) le (suc p) none = shorter t u (omega arith) p none

cons_le : (o q : Option Value) (xs ys : List Value) → (q ≡ None → o ≡ None) → length xs ≤ length ys → length (cons_option o xs) ≤ length (cons_option q ys)
cons_le None None xs ys less le = le
cons_le None (Some y) xs ys less le = omega arith
cons_le (Some x) None xs ys less le = absurd (let no : Some x ≡ None = less refl in cc)
cons_le (Some x) (Some y) xs ys less le = omega arith

key_le : (t u : List Value) (places : List ℕ) → IsShorter t u → length (key_of t places) ≤ length (key_of u places)
key_le t u [] less = omega arith
key_le t u (p ∷ places) less = cons_le (slice_get t p) (slice_get u p) (key_of t places) (key_of u places) (less p) (key_le t u places less)

both_same : (o q : Option Value) (xs ys : List Value) → (q ≡ None → o ≡ None) → length xs ≤ length ys → cons_option o xs ≡ cons_option q ys → (o ≡ q) × (xs ≡ ys)
both_same None None xs ys less le e = (refl, e)
both_same None (Some y) xs ys less le e = absurd (let l : length xs ≡ length (y ∷ ys) = ap length e in omega arith)
both_same (Some x) None xs ys less le e = absurd (let no : Some x ≡ None = less refl in cc)
both_same (Some x) (Some y) xs ys less le e = (cc, cc)

place_same : (t u : List Value) (places : List ℕ) (b : ℕ) → IsShorter t u → key_of t places ≡ key_of u places → list_any (λ p. p == b) places ≡ true → slice_get t b ≡ slice_get u b
place_same t u [] b less e has = absurd cc
place_same t u (p ∷ places) b less e has =
    let both = both_same (slice_get t p) (slice_get u p) (key_of t places) (key_of u places) (less p) (key_le t u places less) e in
    elim (p == b) as (λ x. (p == b) ≡ x → (x || list_any (λ p. p == b) places) ≡ true → slice_get t b ≡ slice_get u b) [
      | true ↦ λ is has. subst (λ (q : ℕ). slice_get t q ≡ slice_get u q) (eqb-true p b is) both.0
      | false ↦ λ is has. place_same t u places b less both.1 has
    ] refl has

key_place : (t u : List Value) (places : List ℕ) (b : ℕ) → key_of t places ≡ key_of u places → list_any (λ p. p == b) places ≡ true → slice_get t b ≡ slice_get u b
key_place t u places b e has = by_case (nat_le (length t) (length u)) refl where
  by_case : (x : Bool) → nat_le (length t) (length u) ≡ x → slice_get t b ≡ slice_get u b
  by_case true le = place_same t u places b (shorter t u (grind (arith, nat_tests))) e has
  by_case false le = sym (place_same u t places b (shorter u t (grind (arith, nat_tests))) (sym e) has)

-- ---- contents: those that a tuple fires have tuples with its key alone

module _ (key : List Value → List Value) (k : List Value) where
  abbrev HasKey : List Value → Type 0
  HasKey t = key t ≡ k

  with_if : (t : List Value) (ts : List (List Value)) (b : Bool) → same_key k (key t) ≡ b → AllByRecursion HasKey ts → AllByRecursion HasKey (if b then t ∷ ts else ts)
  with_if t ts true e all = (sym (same_key-equal k (key t) e), all)
  with_if t ts false e all = all

  with_key : (items : List Item) → AllByRecursion HasKey (tuples_with k (window_events key items))
  with_key [] = tt
  with_key (I.Tuple t ∷ items) = with_if t (tuples_with k (window_events key items)) (same_key k (key t)) refl (with_key items)
  with_key (I.Window ∷ items) = with_key items
  with_key (I.Final ∷ items) = with_key items
  with_key (I.Bad f ∷ items) = with_key items

  -- these tuples as items, and nothing else
  as_items : (ts : List (List Value)) → AllByRecursion HasKey ts → AllByRecursion (ItemIs HasKey) (map I.Tuple ts)
  as_items [] all = tt
  as_items (t ∷ ts) all = (all.0, as_items ts all.1)

  alone : (ts : List (List Value)) → AllByRecursion HasKey ts → tuples_with k (window_events key (map I.Tuple ts)) ≡ ts
  alone [] all = refl
  alone (t ∷ ts) all =
      ap (λ b. if b then t ∷ tuples_with k (window_events key (map I.Tuple ts)) else tuples_with k (window_events key (map I.Tuple ts)))
      (ap (same_key k) all.0 ∙ same_key-itself k)
      ∙ ap (λ us. t ∷ us) (alone ts all.1)

fired_with_key : (rule : WindowRule) (key : List Value → List Value) (vs : List Value) (items : List Item)
    → AllContents (HasKey key (key vs)) (fired_at rule key (I.Tuple vs) items)
fired_with_key rule key vs items =
    let k = key vs in
    let ts = tuples_with k (window_events key items) in
    let all = with_key key k items in
    let own = own_key_law rule k (window_events key (map I.Tuple ts)) (window_events key items) in
    let first = fired_law rule key (map I.Tuple ts) in
    let second = fired_law rule key items in
    let same : fired_at rule key (I.Tuple vs) (map I.Tuple ts) ≡ fired_at rule key (I.Tuple vs) items =
    first.0 vs ∙ ap contents_of (own.2 (alone key k ts all) vs) ∙ sym (second.0 vs) in
    subst (AllContents (HasKey key k)) same (all_fired (HasKey key k) rule key (I.Tuple vs) (map I.Tuple ts) refl (as_items key k ts all))

-- ---- values: those of an argument that is an attribute alone are those of the attribute

some_there : (o : Option (Option Value)) (v : Value) → option_and_then (λ a. a) o ≡ Some v → o ≡ Some (Some v)
some_there None v e = absurd cc
some_there (Some None) v e = absurd cc
some_there (Some (Some u)) v e = ap Some e

module _ (functions : List Function) (t : List Value) (b : ℕ) where
  argument_value : (o : Option (Code Slot)) (turns left : ℕ) (v : Value) → option_and_then attribute_alone o ≡ Some b → argument functions o (at_tuple t) turns ≡ Done (Some v) left
      → slice_get t b ≡ Some v
  argument_value None turns left v alone e = absurd cc
  argument_value (Some code) turns left v alone e =
      let is = done_followed (value functions code (world_of (at_tuple t)) turns) _ (Some v) left e in
      let same : is.0 ≡ v = some_same is.0 v (done_same (Some is.0) (Some v) is.1 left is.3) in
      alone_value (calls_of functions turns) (at_tuple t) t refl b code turns is.1 is.0 alone is.2 ∙ ap Some same

  arguments_value : (xs : List CollectedAttribute) (k : ℕ) (x : CollectedAttribute) (turns left : ℕ) (values : List (Option Value)) (v : Value) → slice_get xs k ≡ Some x
      → option_and_then attribute_alone x.argument ≡ Some b → arguments functions xs (at_tuple t) turns ≡ Done values left → slice_get values k ≡ Some (Some v)
      → slice_get t b ≡ Some v
  arguments_value [] k x turns left values v at alone e there = absurd cc
  arguments_value (y ∷ xs) zero x turns left values v at alone e there =
      let first = done_followed (argument functions y.argument (at_tuple t) turns) _ values left e in
      let rest = done_followed (arguments functions xs (at_tuple t) first.1) _ values left first.3 in
      let are : first.0 ∷ rest.0 ≡ values = done_same (first.0 ∷ rest.0) values rest.1 left rest.3 in
      let same : y ≡ x = some_same y x at in
      let own : first.0 ≡ Some v = some_same first.0 (Some v) (ap (λ (vs : List (Option Value)). slice_get vs 0) are ∙ there) in
      argument_value y.argument turns first.1 v (ap (λ (z : CollectedAttribute). option_and_then attribute_alone z.argument) same ∙ alone)
      (first.2 ∙ ap (λ a. Done a first.1) own)
  arguments_value (y ∷ xs) (suc k) x turns left values v at alone e there =
      let first = done_followed (argument functions y.argument (at_tuple t) turns) _ values left e in
      let rest = done_followed (arguments functions xs (at_tuple t) first.1) _ values left first.3 in
      let are : first.0 ∷ rest.0 ≡ values = done_same (first.0 ∷ rest.0) values rest.1 left rest.3 in
      arguments_value xs k x first.1 rest.1 rest.0 v at alone rest.2 (ap (λ (vs : List (Option Value)). slice_get vs (suc k)) are ∙ there)

  kept_value : (output : List CollectedAttribute) (k : ℕ) (x : CollectedAttribute) (v : Value) → slice_get output k ≡ Some x → option_and_then attribute_alone x.argument ≡ Some b
      → option_and_then (λ a. a) (slice_get (arguments_of functions output t) k) ≡ Some v → slice_get t b ≡ Some v
  kept_value output k x v at alone e = by_case (arguments functions output (at_tuple t) most_turns) refl where
    there : slice_get (arguments_of functions output t) k ≡ Some (Some v)
    there = some_there (slice_get (arguments_of functions output t) k) v e

    by_case : (o : Outcome (List (Option Value))) → arguments functions output (at_tuple t) most_turns ≡ o → slice_get t b ≡ Some v
    by_case (Done values left) is = arguments_value output k x most_turns left values v at alone is (ap (λ o. slice_get (done_or_none o) k) (sym is) ∙ there)
    by_case (Faulted kind) is = absurd (let no : slice_get [] k ≡ Some (Some v) = ap (λ o. slice_get (done_or_none o) k) (sym is) ∙ there in cc)
    by_case Stuck is = absurd (let no : slice_get [] k ≡ Some (Some v) = ap (λ o. slice_get (done_or_none o) k) (sym is) ∙ there in cc)

-- ---- what is made of values that are all the same

abbrev Is : Value → Value → Type 0
Is w v = v ≡ w

filtered : {X : Type 0} (P : Value → Type 0) (f : X → Option Value) (Q : X → Type 0) → ((x : X) (v : Value) → Q x → f x ≡ Some v → P v) → (xs : List X) → AllByRecursion Q xs
    → AllByRecursion P (filter_map f xs)
filtered P f Q k [] all = tt
filtered P f Q k (x ∷ xs) all = cons (filtered P f Q k xs all.1) (f x) refl where
  cons : AllByRecursion P (filter_map f xs) → (o : Option Value) → f x ≡ o → AllByRecursion P (cons_option o (filter_map f xs))
  cons rest None e = rest
  cons rest (Some v) e = (k x v all.0 e, rest)

first_is : (P : Value → Type 0) (vs : List Value) (v : Value) → AllByRecursion P vs → first vs ≡ Some v → P v
first_is P [] v all e = absurd cc
first_is P (w ∷ vs) v all e = subst P (some_same w v e) all.0

last_is : (P : Value → Type 0) (vs : List Value) (v : Value) → AllByRecursion P vs → last vs ≡ Some v → P v
last_is P [] v all e = absurd cc
last_is P (w ∷ []) v all e = subst P (some_same w v e) all.0
last_is P (w ∷ u ∷ vs) v all e = last_is P (u ∷ vs) v all.1 e

picked : (P : Value → Type 0) (collector : Collector) (n : ℕ) (vs : List Value) (v : Value) → picks collector ≡ true → AllByRecursion P vs → collected collector n vs ≡ Some v → P v
picked P K.First n vs v p all e = first_is P vs v all e
picked P K.Last n vs v p all e = last_is P vs v all e
picked P collector n vs v p all e = absurd cc

-- ---- one Aggregate

-- the assignment of an attribute, with its place
record Assigns (output : List CollectedAttribute) (a b : ℕ) (partition : List ℕ) (k : ℕ) (x : CollectedAttribute) : Type 0 where
  at : slice_get output k ≡ Some x
  picks_one : picks x.collector ≡ true
  alone : option_and_then attribute_alone x.argument ≡ Some b
  keyed : list_any (λ p. p == b) partition ≡ true

kept_parts : (p : Bool) (o : Option ℕ) (partition : List ℕ) (b : ℕ)
    → (if p then option_and_then (λ b. if list_any (λ p. p == b) partition then Some b else None) o else None) ≡ Some b
    → (p ≡ true) × (o ≡ Some b) × (list_any (λ p. p == b) partition ≡ true)
kept_parts false o partition b e = absurd cc
kept_parts true None partition b e = absurd cc
kept_parts true (Some c) partition b e = by_case (list_any (λ p. p == c) partition) refl e where
  by_case : (x : Bool) → list_any (λ p. p == c) partition ≡ x → (if x then Some c else None) ≡ Some b
      → (true ≡ true) × (Some c ≡ Some b) × (list_any (λ p. p == b) partition ≡ true)
  by_case true is e = (refl, e, ap (λ c. list_any (λ p. p == c) partition) (sym (some_same c b e)) ∙ is)
  by_case false is e = absurd cc

module _ (functions : List Function) (output : List CollectedAttribute) (partition : List ℕ) (a b : ℕ) (vs : List Value) where
  -- a tuple with the same value
  abbrev Same : List Value → Type 0
  Same t = slice_get t b ≡ slice_get vs b

  abbrev IsValue : Value → Type 0
  IsValue v = slice_get vs b ≡ Some v

  -- of a group of such tuples, the assignment gives that value
  given_by : (ts : List (List Value)) → AllTuples Same ts → (k : ℕ) (x : CollectedAttribute) → slice_get output k ≡ Some x → picks x.collector ≡ true
      → option_and_then attribute_alone x.argument ≡ Some b → (v : Value) → collected x.collector (length ts) (values_of functions output k ts) ≡ Some v → IsValue v
  given_by ts all k x at p alone v e =
      picked IsValue x.collector (length ts) (values_of functions output k ts) v p
      (filtered IsValue (λ t. option_and_then (λ o. o) (slice_get (arguments_of functions output t) k)) Same
      (λ t u same is. sym same ∙ kept_value functions t b output k x u at alone is) ts all) e

  pair_parts : (o : Option Value) (r : Option (List (ℕ × Value))) (n : ℕ) (fs : List (ℕ × Value)) → option_and_then (λ v. option_map (λ fs. (n, v) ∷ fs) r) o ≡ Some fs
      → (v : Value) × (rest : List (ℕ × Value)) × (o ≡ Some v) × (r ≡ Some rest) × ((n, v) ∷ rest ≡ fs)
  pair_parts None r n fs e = absurd cc
  pair_parts (Some v) None n fs e = absurd cc
  pair_parts (Some v) (Some rest) n fs e = (v, rest, refl, refl, some_same ((n, v) ∷ rest) fs e)

  -- so does the field of its attribute
  field_given : (ts : List (List Value)) → AllTuples Same ts → (k : ℕ) (xs : List CollectedAttribute)
      → ((j m : ℕ) (x : CollectedAttribute) → m ≡ k + j → slice_get xs j ≡ Some x → slice_get output m ≡ Some x) → aggregate_source partition xs a ≡ Some b
      → (fs : List (ℕ × Value)) → attributes_from functions output ts k xs ≡ Some fs → (v : Value) × (field_at a fs ≡ Some v) × IsValue v
  field_given ts all k [] at source fs e = absurd cc
  field_given ts all k (x ∷ xs) at source fs e =
      let is = pair_parts (collected x.collector (length ts) (values_of functions output k ts)) (attributes_from functions output ts (k + 1) xs) x.attribute fs e in
      let found = by_case is.0 is.1 is.2
      (λ source. field_given ts all (k + 1) xs (λ j m y same there. at (suc j) m y (omega arith) there) source is.1 is.3) (x.attribute == a) source in
      (found.0, ap (field_at a) (sym is.4) ∙ found.1, found.2)
    where
      here : slice_get output k ≡ Some x
      here = at 0 k x (omega arith) refl

      by_case : (v : Value) (rest : List (ℕ × Value)) → collected x.collector (length ts) (values_of functions output k ts) ≡ Some v
          → (aggregate_source partition xs a ≡ Some b → (u : Value) × (field_at a rest ≡ Some u) × IsValue u) → (y : Bool)
          → (if y then kept_source partition x else aggregate_source partition xs a) ≡ Some b
          → (u : Value) × ((if y then Some v else field_at a rest) ≡ Some u) × IsValue u
      by_case v rest is further true source =
          let parts = kept_parts (picks x.collector) (option_and_then attribute_alone x.argument) partition b source in
          (v, refl, given_by ts all k x here parts.0 parts.1 v is)
      by_case v rest is further false source = further source

  module _ (source : aggregate_source partition output a ≡ Some b) where
    group_copied : (ts us : List (List Value)) → AllTuples Same ts → (t : List Value) → group_tuple functions output ts ≡ Some t → slice_get t a ≡ slice_get vs b
    group_copied ts us all t e =
        let is = then_some (attributes_from functions output ts 0 output) tuple_of t e in
        let found = field_given ts all 0 output (λ j m x same there. (let plain : m ≡ j = omega arith in ap (slice_get output) plain ∙ there)) source is.0 is.1 in
        tuple_field a is.0 t found.0 is.2 found.1 ∙ sym found.2

    abbrev All : List Output → Type 0
    All outs = AllByRecursion (Copied a b vs) outs

    abbrev AllThere : Option (List Output) → Type 0
    AllThere None = ⊤
    AllThere (Some outs) = All outs

    one_tuple : (o : Option (List Value)) (r : Option (List Output)) → ((t : List Value) → o ≡ Some t → slice_get t a ≡ slice_get vs b) → AllThere r
        → AllThere (option_and_then (λ t. option_map (λ outs. on_first (I.Tuple t) ++ outs) r) o)
    one_tuple None r h all = tt
    one_tuple (Some t) None h all = tt
    one_tuple (Some t) (Some outs) h all = (λ us is. (let same : t ≡ us = cc in ap (λ (us : List Value). slice_get us a) (sym same) ∙ h t refl), all)

    tuples_copied : (gs : List (List Value × List (List Value))) → AllByRecursion (EntryIs (IsGroup Same)) gs → AllThere (tuples_of functions output gs)
    tuples_copied [] all = tt
    tuples_copied (g ∷ gs) all =
        one_tuple (group_tuple functions output g.1) (tuples_of functions output gs) (group_copied g.1 [] all.0.0) (tuples_copied gs all.1)

    marker_copied : (rule : WindowRule) → All (marker_after rule)
    marker_copied rule = by_case (slides rule) where
      by_case : (x : Bool) → All (if x then [] else on_first I.Window)
      by_case true = tt
      by_case false = (λ us is. absurd cc, tt)

    one_content : (rule : WindowRule) (o r : Option (List Output)) → AllThere o → AllThere r
        → AllThere (option_and_then (λ outs. option_map (λ more. outs ++ marker_after rule ++ more) r) o)
    one_content rule None r all more = tt
    one_content rule (Some outs) None all more = tt
    one_content rule (Some outs) (Some rest) all more =
        all_append (Copied a b vs) (outs ++ marker_after rule) rest (all_append (Copied a b vs) outs (marker_after rule) all (marker_copied rule)) more

    contents_copied : (group : List ℕ) (rule : WindowRule) (contents : List (List (List Value))) → AllContents Same contents
        → AllThere (contents_give functions group output rule contents)
    contents_copied group rule [] all = tt
    contents_copied group rule (ts ∷ contents) all =
        one_content rule (tuples_of functions output (groups group ts)) (contents_give functions group output rule contents)
        (tuples_copied (groups group ts) (all_groups Same group ts all.0)) (contents_copied group rule contents all.1)

    needed : (o : Option (List Output)) (turns : ℕ) → AllThere o → AllMade (Copied a b vs) (need o (λ outs. Done outs turns))
    needed None turns all = tt
    needed (Some outs) turns all = all

-- what an Aggregate whose window is partitioned and isn't flushed by markers makes of a tuple copies the attributes that its assignments keep
module _ (functions : List Function) (window : Policy) (partition group : List ℕ) (output : List CollectedAttribute) (partitioned : window.partitioned ≡ true)
    (passing : flushes_at_markers window.rule ≡ false) (a b : ℕ) (source : aggregate_source partition output a ≡ Some b) where
  key_is : (t : List Value) → partition_key window partition t ≡ key_of t partition
  key_is t = ap (λ (x : Bool). if x then key_of t partition else []) partitioned

  -- the attribute is one of the partition
  keyed : (xs : List CollectedAttribute) → aggregate_source partition xs a ≡ Some b → list_any (λ p. p == b) partition ≡ true
  keyed [] source = absurd cc
  keyed (x ∷ xs) source = by_case (keyed xs) (x.attribute == a) source where
    by_case : (aggregate_source partition xs a ≡ Some b → list_any (λ p. p == b) partition ≡ true) → (y : Bool)
        → (if y then kept_source partition x else aggregate_source partition xs a) ≡ Some b → list_any (λ p. p == b) partition ≡ true
    by_case rest true source = (kept_parts (picks x.collector) (option_and_then attribute_alone x.argument) partition b source).2
    by_case rest false source = rest source

  fires_same : (vs : List Value) (earlier : List Item)
      → AllContents (Same functions output partition a b vs) (fired_at window.rule (partition_key window partition) (I.Tuple vs) earlier)
  fires_same vs earlier =
      let key = partition_key window partition in
      all_weaker (AllTuples (HasKey key (key vs))) (AllTuples (Same functions output partition a b vs)) (fired_at window.rule key (I.Tuple vs) earlier)
      (λ ts all. all_weaker (HasKey key (key vs)) (Same functions output partition a b vs) ts
      (λ t same. key_place t vs partition b (sym (key_is t) ∙ same ∙ key_is vs) (keyed output source)) all)
      (fired_with_key window.rule key vs earlier)

  fires_nothing : (earlier : List Item) → fired_at window.rule (partition_key window partition) I.Window earlier ≡ []
  fires_nothing earlier =
      let fired = fired_law window.rule (partition_key window partition) earlier in
      let flushed = passing_law window.rule [] (window_events (partition_key window partition) earlier) passing in
      fired.1 ∙ ap (map (λ e. e.1)) flushed.1

  passed_no_tuple : AllByRecursion IsNoTuple (marker_passed window.rule)
  passed_no_tuple = by_case (slides window.rule) where
    by_case : (x : Bool) → AllByRecursion IsNoTuple (if x then on_first I.Window else [])
    by_case true = (refl, tt)
    by_case false = tt

  any_answer : (o : Outcome (List (Option Value))) → Only (λ (x : List (Option Value)). ⊤) o
  any_answer (Done x turns) = tt
  any_answer (Faulted kind) = tt
  any_answer Stuck = tt

  pub aggregate_copies : (earlier : List Item) → Copies a b (aggregate_body functions window partition group output earlier)
  aggregate_copies earlier = record {
    tuples = λ vs.
        only_followed (λ (x : List (Option Value)). ⊤) (AllByRecursion (Copied a b vs)) (arguments functions output (at_tuple vs) most_turns) _
        (any_answer (arguments functions output (at_tuple vs) most_turns)) (λ values turns h.
        needed functions output partition a b vs source (fired_give functions window partition group output earlier (I.Tuple vs)) turns
        (contents_copied functions output partition a b vs source group window.rule (fired_at window.rule (partition_key window partition) (I.Tuple vs) earlier) (fires_same vs earlier)));
    others = others;
  }
    where
      others : (x : Item) → is_tuple x ≡ false → AllMade IsNoTuple (aggregate_body functions window partition group output earlier x)
      others (I.Tuple vs) e = absurd cc
      others I.Window e =
          subst (λ contents. AllMade IsNoTuple (need (contents_give functions group output window.rule contents) (λ outs. Done (outs ++ marker_passed window.rule) most_turns)))
          (sym (fires_nothing earlier)) passed_no_tuple
      others I.Final e = tt
      others (I.Bad f) e = tt
