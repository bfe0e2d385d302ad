-- What an Aggregate gives for contents whose tuples had the values of its arguments.
use Rattle.std.proofs.Common.{◌≡◌, ℕ, zero, suc, ◌+◌, ◌==◌, pos, Bool, true, false, cond, List, [], ◌∷◌, ◌++◌, map, length, slice_get, Option, Some, None, refl, sym, ap, subst, ◌∙◌, arith}
use Rattle.std.specs.Prelude.{⊤, ℤ}
use Rattle.std.specs.List.{AllByRecursion, cons_option, count_by, filter_map}
use Rattle.std.specs.Option.{option_and_then, option_map}
use Rattle.std.proofs.lemmas.List.Recursion.{is_count_by}
use Rattle.spl_value.specs.declared.item.Item.TheVariants as I
use Rattle.spl_value.specs.declared.types.IntKind.{IntKind}
use Rattle.spl_value.specs.declared.types.IntKind.TheVariants as N
use Rattle.spl_value.specs.declared.types.Named.{Named}
use Rattle.spl_value.specs.declared.types.SplType.{SplType}
use Rattle.spl_value.specs.declared.types.SplType.TheVariants as S
use Rattle.spl_value.specs.declared.value.Value.{Value}
use Rattle.spl_value.specs.declared.value.Value.TheVariants as V
use Rattle.spl_value.specs.Wrap.{wrapped}
use Rattle.spl_value.proofs.FitsLaws.{fits_int, fits_tuple}
use Rattle.spl_value.proofs.WrapLaws.{wrapped_belongs}
use Rattle.spl_tree.specs.declared.body.Function.{Function}
use Rattle.spl_tree.specs.declared.code.Code.{Code}
use Rattle.spl_tree.specs.declared.code.Slot.{Slot}
use Rattle.language_model.specs.declared.checked.CollectedAttribute.{CollectedAttribute}
use Rattle.language_model.specs.declared.checked.Collector.{Collector}
use Rattle.language_model.specs.declared.checked.WindowRule.{WindowRule}
use Rattle.language_model.specs.declared.env.Env.{Env}
use Rattle.language_model.specs.declared.outs.Output.{Output}
use Rattle.language_model.specs.declared.scope.Scope.{Scope}
use Rattle.language_model.specs.declared.scope.Signature.{Signature}
use Rattle.language_model.specs.CodeFits.{CodeFits}
use Rattle.language_model.specs.Evaluation.{tuple_of, world_of}
use Rattle.language_model.specs.Functions.{value}
use Rattle.language_model.specs.Keeping.{CollectorFits, GroupsFit}
use Rattle.language_model.specs.Keeping as G
use Rattle.language_model.specs.StreamTypes.{Attributes}
use Rattle.language_model.specs.WorldFits.{EnvFits, FunctionsFit}
use Rattle.language_model.proofs.Counting.{how_often}
use Rattle.language_model.proofs.Filling.{FieldHolds, tuple_made}
use Rattle.language_model.proofs.Places.{places}
use Rattle.language_model.proofs.Yielding.{IsThere, OfType, Yields, yields_followed}
use Rattle.stream_model.specs.Stream.{is_empty}
use Rattle.stream_model.specs.Bodies.{on_first}
use Rattle.stream_model.specs.Aggregates.{arguments, values_of, is_below, least_by, total, last, collected, attributes_from, tuples_of, slides, contents_give}
use Rattle.stream_model.specs.parts.Aggregates.{argument, arguments_of, first_of_two, first, marker_after, marker_passed}
use Rattle.stream_model.proofs.parts.Aggregates.{group_tuple}
use Rattle.stream_model.specs.Groups.{groups}
use Rattle.stream_model.specs.Replies.{ItemHas}
use Rattle.stream_model.proofs.ContentMembers.{all_append, EntryIs, AllTuples, IsGroup, all_groups}
use Rattle.stream_model.proofs.FittingCodes.{value_fits}

-- ---- arguments

-- an argument that there is has a value of the type
abbrev pub HasArgument : SplType → Option (Code Slot) → Option Value → Type 0
HasArgument t None o = ⊤
HasArgument t (Some code) o = IsThere (OfType t) o

-- each assignment has one of the type of its attribute
abbrev pub ArgumentsThere : Attributes → List CollectedAttribute → List (Option Value) → Type 0
ArgumentsThere schema output values = (k : ℕ) (x : CollectedAttribute) (a : Named SplType) → slice_get output k ≡ Some x → slice_get schema x.attribute ≡ Some a
    → HasArgument a.kind x.argument (option_and_then (λ v. v) (slice_get values k))

abbrev ArgumentFits : Scope → Option (Code Slot) → SplType → Type 0
ArgumentFits scope None t = ⊤
ArgumentFits scope (Some code) t = CodeFits scope code t

-- an argument is of the type of its attribute
argument_fits : (scope : Scope) (collector : Collector) (argument : Option (Code Slot)) (t : SplType) → CollectorFits scope collector argument t → ArgumentFits scope argument t
argument_fits scope _ _ _ (G.sum kind code f) = f
argument_fits scope _ _ _ (G.least_integer kind code f) = f
argument_fits scope _ _ _ (G.least_text code f) = f
argument_fits scope _ _ _ (G.greatest_integer kind code f) = f
argument_fits scope _ _ _ (G.greatest_text code f) = f
argument_fits scope _ _ _ (G.first code t f) = f
argument_fits scope _ _ _ (G.last code t f) = f
argument_fits scope _ _ _ G.count = tt

joined : (schema : Attributes) (x : CollectedAttribute) (xs : List CollectedAttribute) (v : Option Value) (more : List (Option Value)) (b : Named SplType) → slice_get schema x.attribute ≡ Some b
    → HasArgument b.kind x.argument v → ArgumentsThere schema xs more → ArgumentsThere schema (x ∷ xs) (v ∷ more)
joined schema x xs v more b e own others zero y a at there =
    let same : x ≡ y = (let i : Some x ≡ Some y = at in cc) in
    let alike : b ≡ a = (let i : Some b ≡ Some a = sym e ∙ ap (λ (z : CollectedAttribute). slice_get schema z.attribute) same ∙ there in cc) in
    subst (λ (z : CollectedAttribute). HasArgument a.kind z.argument v) same (subst (λ (c : Named SplType). HasArgument c.kind x.argument v) alike own)
joined schema x xs v more b e own others (suc k) y a at there = others k y a at there

module _ (signatures : List Signature) (functions : List Function) (scope : Scope) (same : scope.functions ≡ signatures) (there : FunctionsFit signatures functions) (env : Env) (env_fit : EnvFits scope env) (schema : Attributes) where
  argument_there : (o : Option (Code Slot)) (t : SplType) (turns : ℕ) → ArgumentFits scope o t → Yields (HasArgument t o) (argument functions o env turns)
  argument_there None t turns f = tt
  argument_there (Some code) t turns f =
      yields_followed (OfType t) (HasArgument t (Some code)) (value functions code (world_of env) turns) _
      (value_fits signatures functions scope code t env turns same there f env_fit) (λ v turns is. (v, refl, is))

  -- the arguments give values, or a fault
  pub arguments_there : (output : List CollectedAttribute)
      → ((k : ℕ) (x : CollectedAttribute) → slice_get output k ≡ Some x → (a : Named SplType) × (slice_get schema x.attribute ≡ Some a) × CollectorFits scope x.collector x.argument a.kind)
      → (turns : ℕ) → Yields (ArgumentsThere schema output) (arguments functions output env turns)
  arguments_there [] fit turns = λ k x a at there. absurd cc
  arguments_there (x ∷ xs) fit turns =
      let is = fit 0 x refl in
      yields_followed (HasArgument is.0.kind x.argument) (ArgumentsThere schema (x ∷ xs)) (argument functions x.argument env turns) _
      (argument_there x.argument is.0.kind turns (argument_fits scope x.collector x.argument is.0.kind is.2)) (λ v left own.
      yields_followed (ArgumentsThere schema xs) (ArgumentsThere schema (x ∷ xs)) (arguments functions xs env left) _
      (arguments_there xs (λ k y at. fit (suc k) y at) left) (λ more left others. joined schema x xs v more is.0 is.1 own others))

-- ---- values

-- those of an argument are of its type, and there are some
abbrev ValuesThere : SplType → Option (Code Slot) → List Value → Type 0
ValuesThere t None vs = ⊤
ValuesThere t (Some code) vs = AllByRecursion (OfType t) vs × (is_empty vs ≡ false)

filtered : {X Y : Type 0} (P : Y → Type 0) (f : X → Option Y) (xs : List X) → AllByRecursion (λ x. IsThere P (f x)) xs
    → AllByRecursion P (filter_map f xs) × (is_empty (filter_map f xs) ≡ is_empty xs)
filtered P f [] all = (tt, refl)
filtered {X} {Y} P f (x ∷ xs) all =
    subst (λ (o : Option Y). AllByRecursion P (cons_option o (filter_map f xs)) × (is_empty (cons_option o (filter_map f xs)) ≡ false)) (sym all.0.1)
    ((all.0.2, (filtered P f xs all.1).0), refl)

values_there : (o : Option (Code Slot)) (t : SplType) (f : List Value → Option Value) (ts : List (List Value)) → AllByRecursion (λ u. HasArgument t o (f u)) ts
    → is_empty ts ≡ false → ValuesThere t o (filter_map f ts)
values_there None t f ts all some = tt
values_there (Some code) t f ts all some = let is = filtered (OfType t) f ts all in (is.0, is.1 ∙ some)

abbrev IsWhereThere : (Value → Type 0) → Option Value → Type 0
IsWhereThere P None = ⊤
IsWhereThere P (Some v) = P v

one_if : (P : Value → Type 0) (b : Bool) (v w : Value) → P v → P w → P (cond b v w)
one_if P true v w p q = p
one_if P false v w p q = q

one_of_two : (P : Value → Type 0) (before : Value → Value → Bool) (v : Value) (o : Option Value) → P v → IsWhereThere P o → P (first_of_two before v o)
one_of_two P before v None p q = p
one_of_two P before v (Some w) p q = one_if P (before w v) w v q p

least_is : (P : Value → Type 0) (before : Value → Value → Bool) (vs : List Value) → AllByRecursion P vs → IsWhereThere P (least_by before vs)
least_is P before [] all = tt
least_is P before (v ∷ vs) all = one_of_two P before v (least_by before vs) all.0 (least_is P before vs all.1)

least_there : (P : Value → Type 0) (before : Value → Value → Bool) (vs : List Value) → AllByRecursion P vs → is_empty vs ≡ false → IsThere P (least_by before vs)
least_there P before [] all some = absurd cc
least_there P before (v ∷ vs) all some = (first_of_two before v (least_by before vs), refl, least_is P before (v ∷ vs) all)

first_there : (P : Value → Type 0) (vs : List Value) → AllByRecursion P vs → is_empty vs ≡ false → IsThere P (first vs)
first_there P [] all some = absurd cc
first_there P (v ∷ vs) all some = (v, refl, all.0)

last_there : (P : Value → Type 0) (vs : List Value) → AllByRecursion P vs → is_empty vs ≡ false → IsThere P (last vs)
last_there P [] all some = absurd cc
last_there P (v ∷ []) all some = (v, refl, all.0)
last_there P (v ∷ w ∷ vs) all some = last_there P (w ∷ vs) all.1 refl

wrapped_fits : (kind : IntKind) (n : ℤ) → OfType (S.Int kind) (V.Int (wrapped kind n))
wrapped_fits kind n = fits_int kind (wrapped kind n) ∙ wrapped_belongs kind n

-- what is made of values is of the attribute's type
collected_there : (scope : Scope) (collector : Collector) (o : Option (Code Slot)) (t : SplType) (n : ℕ) (vs : List Value) → CollectorFits scope collector o t → ValuesThere t o vs
    → IsThere (OfType t) (collected collector n vs)
collected_there scope _ _ _ n vs (G.sum kind code f) h = (V.Int (wrapped kind (total vs)), refl, wrapped_fits kind (total vs))
collected_there scope _ _ _ n vs (G.least_integer kind code f) h = least_there (OfType (S.Int kind)) is_below vs h.0 h.1
collected_there scope _ _ _ n vs (G.least_text code f) h = least_there (OfType S.Text) is_below vs h.0 h.1
collected_there scope _ _ _ n vs (G.greatest_integer kind code f) h = least_there (OfType (S.Int kind)) (λ v w. is_below w v) vs h.0 h.1
collected_there scope _ _ _ n vs (G.greatest_text code f) h = least_there (OfType S.Text) (λ v w. is_below w v) vs h.0 h.1
collected_there scope _ _ _ n vs (G.first code t f) h = first_there (OfType t) vs h.0 h.1
collected_there scope _ _ _ n vs (G.last code t f) h = last_there (OfType t) vs h.0 h.1
collected_there scope _ _ _ n vs G.count h = (V.Int (wrapped N.I32 (pos n)), refl, wrapped_fits N.I32 (pos n))

-- ---- the tuples of groups

module _ (functions : List Function) (scope : Scope) (schema : Attributes) (output : List CollectedAttribute) (fit : GroupsFit scope schema output) where
  -- a tuple whose arguments were values
  abbrev pub IsGood : List Value → Type 0
  IsGood t = ArgumentsThere schema output (arguments_of functions output t)

  -- what is given on the output port
  abbrev pub OutputFits : Output → Type 0
  OutputFits o = (o.port ≡ 0) × ItemHas schema o.item

  attributes_there : (ts : List (List Value)) → IsGroup IsGood ts → (k : ℕ) (xs : List CollectedAttribute)
      → ((j m : ℕ) (x : CollectedAttribute) → m ≡ k + j → slice_get xs j ≡ Some x → slice_get output m ≡ Some x)
      → IsThere (λ fs. AllByRecursion (FieldHolds schema) fs × (places fs ≡ map (λ x. x.attribute) xs)) (attributes_from functions output ts k xs)
  attributes_there ts group k [] at = ([], refl, (tt, refl))
  attributes_there ts group k (x ∷ xs) at =
      let here : slice_get output k ≡ Some x = at 0 k x (omega arith) refl in
      let is = fit.fit k x here in
      let value = collected_there scope x.collector x.argument is.0.kind (length ts) (values_of functions output k ts) is.2
      (values_there x.argument is.0.kind (λ t. option_and_then (λ a. a) (slice_get (arguments_of functions output t) k)) ts
      (arguments_at k x is.0 here is.1 ts group.0) group.1) in
      let rest = attributes_there ts group (k + 1) xs (λ j m y e there. at (suc j) m y (omega arith) there) in (
        (x.attribute, value.0) ∷ rest.0,
        (λ i. option_and_then (λ v. option_map (λ fs. (x.attribute, v) ∷ fs) (rest.1 i)) (value.1 i)),
        (((is.0, is.1, value.2), rest.2.0), λ i. x.attribute ∷ rest.2.1 i),
      )
    where
      arguments_at : (k : ℕ) (x : CollectedAttribute) (a : Named SplType) → slice_get output k ≡ Some x → slice_get schema x.attribute ≡ Some a → (ts : List (List Value)) → AllTuples IsGood ts
          → AllByRecursion (λ t. HasArgument a.kind x.argument (option_and_then (λ a. a) (slice_get (arguments_of functions output t) k))) ts
      arguments_at k x a here there [] all = tt
      arguments_at k x a here there (t ∷ ts) all = (all.0 k x a here there, arguments_at k x a here there ts all.1)

  counts : (i : ℕ) (xs : List CollectedAttribute) → how_often i (map (λ x. x.attribute) xs) ≡ count_by (λ x. x.attribute == i) xs
  counts i xs = is_count_by (λ (xs : List CollectedAttribute). how_often i (map (λ x. x.attribute) xs)) (λ (x : CollectedAttribute). x.attribute == i) refl (λ x xs. refl) xs

  group_there : (ts : List (List Value)) → IsGroup IsGood ts → IsThere (λ vs. OfType (S.Tuple schema) (V.Tuple vs)) (group_tuple functions output ts)
  group_there ts group =
      let fs = attributes_there ts group 0 output (λ j m x e there. let same : m ≡ j = omega arith in ap (slice_get output) same ∙ there) in
      let made = tuple_made schema fs.0 fs.2.0 (λ i lt. ap (how_often i) fs.2.1 ∙ counts i output ∙ fit.once i lt) in
      (made.0, ap (λ o. option_and_then tuple_of o) fs.1 ∙ made.1, fits_tuple schema made.0 ∙ made.2)

  tuples_there : (gs : List (List Value × List (List Value))) → AllByRecursion (EntryIs (IsGroup IsGood)) gs → IsThere (AllByRecursion OutputFits) (tuples_of functions output gs)
  tuples_there [] all = ([], refl, tt)
  tuples_there (g ∷ gs) all =
      let one = group_there g.1 all.0 in
      let rest = tuples_there gs all.1 in (
        on_first (I.Tuple one.0) ++ rest.0,
        (λ i. option_and_then (λ t. option_map (λ outs. on_first (I.Tuple t) ++ outs) (rest.1 i)) (one.1 i)),
        ((refl, one.2), rest.2),
      )

  marker_if : (b : Bool) → AllByRecursion OutputFits (cond b [] (on_first I.Window))
  marker_if true = tt
  marker_if false = ((refl, refl), tt)

  pub passed_fits : (rule : WindowRule) → AllByRecursion OutputFits (marker_passed rule)
  passed_fits rule = passed_if (slides rule)
    where
      passed_if : (b : Bool) → AllByRecursion OutputFits (cond b (on_first I.Window) [])
      passed_if true = ((refl, refl), tt)
      passed_if false = tt

  -- what contents of good tuples give
  pub contents_there : (group : List ℕ) (rule : WindowRule) (contents : List (List (List Value))) → AllByRecursion (AllTuples IsGood) contents
      → IsThere (AllByRecursion OutputFits) (contents_give functions group output rule contents)
  contents_there group rule [] all = ([], refl, tt)
  contents_there group rule (ts ∷ contents) all =
      let own = tuples_there (groups group ts) (all_groups IsGood group ts all.0) in
      let rest = contents_there group rule contents all.1 in (
        own.0 ++ marker_after rule ++ rest.0,
        (λ i. option_and_then (λ outs. option_map (λ more. outs ++ marker_after rule ++ more) (rest.1 i)) (own.1 i)),
        all_append OutputFits (own.0 ++ marker_after rule) rest.0 (all_append OutputFits own.0 (marker_after rule) own.2 (marker_if (slides rule))) rest.2,
      )
