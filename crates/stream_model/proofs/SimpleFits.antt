-- Operators that look at the item alone.
use Rattle.std.proofs.Common.{◌≡◌, ℕ, ℤ, pos, negsuc, zero, suc, ◌<◌, ◌%◌, Bool, true, false, if◌then◌else◌, mod-lt, zero-lt-suc, IsTrue, List, [], ◌∷◌, ◌++◌, length, slice_get, Option, Some, None, refl, sym, ap, subst, ◌∙◌, arith}
use Rattle.std.specs.Cmp.{first_so, second_so}
use Rattle.std.specs.Cmp.Derive.{both_true}
use Rattle.std.specs.Option.{option_and_then, option_map, unwrap_or}
use Rattle.spl_value.specs.declared.item.Item.{Item}
use Rattle.spl_value.specs.declared.item.Item.TheVariants as I
use Rattle.spl_value.specs.declared.types.IntKind.{IntKind}
use Rattle.spl_value.specs.declared.types.Named.{Named}
use Rattle.spl_value.specs.declared.types.SplType.{SplType}
use Rattle.spl_value.specs.declared.types.SplType.TheVariants as S
use Rattle.spl_value.specs.declared.value.Value.{Value}
use Rattle.spl_value.specs.declared.value.Value.TheVariants as V
use Rattle.spl_value.specs.declared.value.Value.TheViews.{out-Value}
use Rattle.spl_value.specs.Values.{fits, tuple_fits}
use Rattle.spl_value.proofs.FitsLaws.{fits_tuple}
use Rattle.spl_tree.specs.declared.body.Function.{Function}
use Rattle.spl_tree.specs.declared.code.Code.{Code}
use Rattle.spl_tree.specs.declared.code.Code.TheVariants as C
use Rattle.spl_tree.specs.declared.code.Slot.{Slot}
use Rattle.spl_tree.specs.declared.graph.OpKind.{OpKind}
use Rattle.spl_tree.specs.declared.graph.OpKind.TheVariants as O
use Rattle.language_model.specs.declared.checked.CheckedClauses.{CheckedClauses}
use Rattle.language_model.specs.declared.checked.CheckedClauses.TheVariants as A
use Rattle.language_model.specs.declared.checked.Position.{Position}
use Rattle.language_model.specs.declared.checked.Position.TheVariants as P
use Rattle.language_model.specs.declared.env.Env.{Env}
use Rattle.language_model.specs.declared.outs.Output.{Output}
use Rattle.language_model.specs.declared.scope.Scope.{Scope}
use Rattle.language_model.specs.declared.scope.Signature.{Signature}
use Rattle.language_model.specs.Checking.{fit_ports}
use Rattle.language_model.specs.CodeFits as F
use Rattle.language_model.specs.Evaluation.{world_of}
use Rattle.language_model.specs.Functions.{value}
use Rattle.language_model.specs.Keeping.{ConditionFits, NamesPorts, PartFits, PlacesFit}
use Rattle.language_model.specs.Keeping as K
use Rattle.language_model.specs.Outcomes.{Outcome, Done, Faulted, Stuck, followed}
use Rattle.language_model.specs.StreamTypes.{Attributes}
use Rattle.language_model.specs.WorldFits.{EnvFits, FunctionsFit}
use Rattle.language_model.proofs.Yielding.{AnyAnswer, IsThere, OfType, Yields, yields_followed, yields_need}
use Rattle.stream_model.specs.Stream.{Event}
use Rattle.stream_model.specs.Operators.{Operator}
use Rattle.stream_model.specs.Bodies.{Makes, at_tuple, made_where, most_turns, filter_body, functor_body, holds, on_each, on_first, on_picked, output, passes, punctor_body, split_body, tuple_by, union_body, values_at, with_marker}
use Rattle.stream_model.specs.parts.Bodies.{sink_body}
use Rattle.stream_model.specs.React.{makes_by}
use Rattle.stream_model.specs.Windows.{integer_of}
use Rattle.stream_model.specs.Replies.{AllFit, ItemHas, given_attributes}
use Rattle.stream_model.specs.Fitting.{FitsAt, MakesFit}
use Rattle.stream_model.proofs.PartKinds.{is_simple}
use Rattle.stream_model.proofs.FittingCodes.{TuplesHave, passes_fits, truth_fits, tuples_env, value_fits}
use Rattle.stream_model.proofs.FittingCodes as codes
use Rattle.spl_value.proofs.Lists.{get_below}

-- ---- outputs

pub as_makes : (op : Operator) (o : Makes) → Yields (AllFit op) o → MakesFit op o
as_makes op (Done outs turns) h = h
as_makes op (Faulted kind) h = tt
as_makes op Stuck h = h

pub none_fit : (op : Operator) → AllFit op []
none_fit op i o at = absurd cc

pub more_fit : (op : Operator) (o : Output) (outs : List Output) → ItemHas (given_attributes op.clauses op o.port) o.item → AllFit op outs → AllFit op (o ∷ outs)
more_fit op o outs has h zero p at = subst (λ (q : Output). ItemHas (given_attributes op.clauses op q.port) q.item) (let e : o ≡ p = cc in e) has
more_fit op o outs has h (suc i) p at = h i p at

pub one_fits : (op : Operator) (o : Output) → ItemHas (given_attributes op.clauses op o.port) o.item → AllFit op (o ∷ [])
one_fits op o has = more_fit op o [] has (none_fit op)

pub both_fit : (op : Operator) (outs more : List Output) → AllFit op outs → AllFit op more → AllFit op (outs ++ more)
both_fit op [] more h k = k
both_fit op (o ∷ outs) more h k = more_fit op o (outs ++ more) (h zero o refl) (both_fit op outs more (λ i. h (suc i)) k)

windows_fit : (op : Operator) (n : ℕ) → AllFit op (on_each n I.Window)
windows_fit op zero = none_fit op
windows_fit op (suc n) = both_fit op (on_each n I.Window) (output n I.Window ∷ []) (windows_fit op n) (one_fits op (output n I.Window) refl)

-- ---- one port

-- an operator with one input port, and one that has these output attributes
abbrev pub one_port : ℕ → CheckedClauses → List Function → Attributes → List Attributes → List (List ℕ) → List ℕ → Operator
one_port number part functions input outs streams_in streams_out =
    record { number = number; clauses = part; functions = functions; types = record { ins = input ∷ []; outs = outs }; ins = streams_in; outs = streams_out }

-- what comes on it
pub tuple_came : (input : Attributes) (vs : List Value) → OfType (S.Tuple input) (V.Tuple vs) → TuplesHave (input ∷ []) (vs ∷ [])
tuple_came input vs h zero schema at = let same : input ≡ schema = cc in (vs, refl, subst (λ t. OfType (S.Tuple t) (V.Tuple vs)) same h)
tuple_came input vs h (suc i) schema at = absurd cc

-- a port that there is, of one, is the first, and its item has its attributes
pub at_first : (input : Attributes) (port : ℕ) (x : Item) → port < 1 → ItemHas (unwrap_or (slice_get (input ∷ []) port) []) x → ItemHas input x
at_first input zero x within h = h
at_first input (suc port) x within h = absurd (omega (arith, within))

-- what a condition makes of a tuple
if_passed : (op : Operator) (o : Outcome Bool) (outs : List Output) → Yields AnyAnswer o → AllFit op outs
    → Yields (AllFit op) (followed o (λ b turns. Done (if b then outs else []) turns))
if_passed op o outs h fit = yields_followed AnyAnswer (AllFit op) o _ h (λ b turns k. go b)
  where
    go : (b : Bool) → AllFit op (if b then outs else [])
    go true = fit
    go false = none_fit op

filter_fits : (op : Operator) (signatures : List Signature) (scope : Scope) (condition : Option (Code Slot)) (schema : Attributes) (x : Item)
    → NamesPorts signatures (schema ∷ []) scope → FunctionsFit signatures op.functions → ConditionFits scope condition
    → given_attributes op.clauses op 0 ≡ schema → ItemHas schema x → MakesFit op (filter_body op.functions condition x)
filter_fits op signatures scope condition schema (I.Tuple vs) names there fit given has =
    as_makes op _
    (if_passed op (passes op.functions condition (at_tuple vs) most_turns) (on_first (I.Tuple vs))
    (passes_fits signatures op.functions scope condition (at_tuple vs) most_turns names.functions there fit (tuples_env signatures (schema ∷ []) scope (vs ∷ []) names (tuple_came schema vs has)))
    (one_fits op (output 0 (I.Tuple vs)) (subst (λ a. ItemHas a (I.Tuple vs)) (sym given) has)))
filter_fits op signatures scope condition schema I.Window names there fit given has = one_fits op (output 0 I.Window) refl
filter_fits op signatures scope condition schema I.Final names there fit given has = none_fit op
filter_fits op signatures scope condition schema (I.Bad f) names there fit given has = none_fit op

-- a tuple that is made where a condition holds
pub made_fits : (op : Operator) (signatures : List Signature) (ins : List Attributes) (scope : Scope) (condition : Option (Code Slot)) (code : Code Slot) (schema : Attributes)
    (inputs : List (List Value)) (turns : ℕ) → NamesPorts signatures ins scope → FunctionsFit signatures op.functions → ConditionFits scope condition
    → F.CodeFits scope code (S.Tuple schema) → given_attributes op.clauses op 0 ≡ schema → TuplesHave ins inputs
    → Yields (AllFit op) (made_where op.functions condition code (record { inputs = inputs; vars = []; punct = None }) turns)
made_fits op signatures ins scope condition code schema inputs turns names there holds fit given have =
    yields_followed AnyAnswer (AllFit op) (passes op.functions condition env turns) _
    (passes_fits signatures op.functions scope condition env turns names.functions there holds env_fit) (λ b turns k. go b turns)
  where
    env : Env
    env = record { inputs = inputs; vars = []; punct = None }

    env_fit : EnvFits scope env
    env_fit = tuples_env signatures ins scope inputs names have

    go : (b : Bool) (turns : ℕ) → Yields (AllFit op) (if b then followed (tuple_by op.functions code env turns) (λ vs turns. Done (on_first (I.Tuple vs)) turns) else Done [] turns)
    go true turns =
        yields_followed (λ vs. OfType (S.Tuple schema) (V.Tuple vs)) (AllFit op) (tuple_by op.functions code env turns) _
        (codes.tuple_fits signatures op.functions scope code schema env turns names.functions there fit env_fit)
        (λ vs turns is. one_fits op (output 0 (I.Tuple vs)) (subst (λ a. ItemHas a (I.Tuple vs)) (sym given) is))
    go false turns = none_fit op

functor_fits : (op : Operator) (signatures : List Signature) (scope : Scope) (condition : Option (Code Slot)) (code : Code Slot) (input schema : Attributes) (x : Item)
    → NamesPorts signatures (input ∷ []) scope → FunctionsFit signatures op.functions → ConditionFits scope condition → F.CodeFits scope code (S.Tuple schema)
    → given_attributes op.clauses op 0 ≡ schema → ItemHas input x → MakesFit op (functor_body op.functions condition code x)
functor_fits op signatures scope condition code input schema (I.Tuple vs) names there holds fit given has =
    as_makes op _ (made_fits op signatures (input ∷ []) scope condition code schema (vs ∷ []) most_turns names there holds fit given (tuple_came input vs has))
functor_fits op signatures scope condition code input schema I.Window names there holds fit given has = one_fits op (output 0 I.Window) refl
functor_fits op signatures scope condition code input schema I.Final names there holds fit given has = none_fit op
functor_fits op signatures scope condition code input schema (I.Bad f) names there holds fit given has = none_fit op

punctor_fits : (op : Operator) (signatures : List Signature) (scope : Scope) (condition : Code Slot) (position : Position) (schema : Attributes) (x : Item)
    → NamesPorts signatures (schema ∷ []) scope → FunctionsFit signatures op.functions → F.CodeFits scope condition S.Bool
    → given_attributes op.clauses op 0 ≡ schema → ItemHas schema x → MakesFit op (punctor_body op.functions condition position x)
punctor_fits op signatures scope condition position schema (I.Tuple vs) names there fit given has =
    as_makes op _
    (yields_followed AnyAnswer (AllFit op) (holds op.functions condition (at_tuple vs) most_turns) _
    (truth_fits (value op.functions condition (world_of (at_tuple vs)) most_turns)
    (value_fits signatures op.functions scope condition S.Bool (at_tuple vs) most_turns names.functions there fit (tuples_env signatures (schema ∷ []) scope (vs ∷ []) names (tuple_came schema vs has))))
    (λ b turns k. go b position))
  where
    alone : AllFit op (on_first (I.Tuple vs))
    alone = one_fits op (output 0 (I.Tuple vs)) (subst (λ a. ItemHas a (I.Tuple vs)) (sym given) has)

    go : (b : Bool) (position : Position) → AllFit op (if b then with_marker position vs else on_first (I.Tuple vs))
    go false position = alone
    go true P.Before = both_fit op (on_first I.Window) (on_first (I.Tuple vs)) (one_fits op (output 0 I.Window) refl) alone
    go true P.After = both_fit op (on_first (I.Tuple vs)) (on_first I.Window) alone (one_fits op (output 0 I.Window) refl)
punctor_fits op signatures scope condition position schema I.Window names there fit given has = one_fits op (output 0 I.Window) refl
punctor_fits op signatures scope condition position schema I.Final names there fit given has = none_fit op
punctor_fits op signatures scope condition position schema (I.Bad f) names there fit given has = none_fit op

split_fits : (op : Operator) (signatures : List Signature) (scope : Scope) (index : Code Slot) (kind : IntKind) (schema : Attributes) (x : Item)
    → NamesPorts signatures (schema ∷ []) scope → FunctionsFit signatures op.functions → F.CodeFits scope index (S.Int kind)
    → 0 < length op.outs → ((p : ℕ) → p < length op.outs → given_attributes op.clauses op p ≡ schema) → ItemHas schema x → MakesFit op (split_body op.functions index (length op.outs) x)
split_fits op signatures scope index kind schema (I.Tuple vs) names there fit some given has =
    as_makes op _
    (yields_followed (OfType (S.Int kind)) (AllFit op) (value op.functions index (world_of (at_tuple vs)) most_turns) _
    (value_fits signatures op.functions scope index (S.Int kind) (at_tuple vs) most_turns names.functions there fit (tuples_env signatures (schema ∷ []) scope (vs ∷ []) names (tuple_came schema vs has)))
    (λ v turns is. go (integer_of (out-Value v))))
  where
    go : (i : ℤ) → AllFit op (on_picked (length op.outs) i (I.Tuple vs))
    go (pos i) = one_fits op (output (i % length op.outs) (I.Tuple vs)) (subst (λ a. ItemHas a (I.Tuple vs)) (sym (given (i % length op.outs) (mod-lt i some))) has)
    go (negsuc i) = none_fit op
split_fits op signatures scope index kind schema I.Window names there fit some given has = windows_fit op (length op.outs)
split_fits op signatures scope index kind schema I.Final names there fit some given has = none_fit op
split_fits op signatures scope index kind schema (I.Bad f) names there fit some given has = none_fit op

-- ---- a Union

-- an attribute of a tuple that fits has a value of its type
member_there : (schema : Attributes) (vs : List Value) (i : ℕ) (a : Named SplType) → IsTrue (tuple_fits schema vs) → slice_get schema i ≡ Some a → IsThere (OfType a.kind) (slice_get vs i)
member_there [] vs i a h at = absurd cc
member_there (b ∷ schema) [] i a h at = absurd (let no : false ≡ true = h in cc)
member_there (b ∷ schema) (v ∷ vs) zero a h at =
    let same : b ≡ a = cc in
    (v, refl, subst (λ (c : Named SplType). OfType c.kind v) same (first_so (fits b.kind v) (tuple_fits schema vs) h))
member_there (b ∷ schema) (v ∷ vs) (suc i) a h at = member_there schema vs i a (second_so (fits b.kind v) (tuple_fits schema vs) h) at

-- the values at places that fit are there, and of the types of the output
values_there : (input schema : Attributes) (vs : List Value) (places : List ℕ) → IsTrue (tuple_fits input vs) → PlacesFit input schema places
    → IsThere (λ us. IsTrue (tuple_fits schema us)) (values_at vs places)
values_there input [] vs [] fit h = ([], refl, refl)
values_there input [] vs (p ∷ places) fit h = absurd (let no : suc (length places) ≡ 0 = h.count in cc)
values_there input (a ∷ schema) vs [] fit h = absurd (let no : 0 ≡ suc (length schema) = h.count in cc)
values_there input (a ∷ schema) vs (p ∷ places) fit h =
    let first = h.same 0 p a refl refl in
    let value = member_there input vs p first.0 fit first.1 in
    let count : length places ≡ length schema = let n : suc (length places) ≡ suc (length schema) = h.count in omega (arith, n) in
    let rest = values_there input schema vs places fit (record { count = count; same = λ i q b at there. h.same (suc i) q b at there }) in
    let kind : OfType a.kind value.0 = subst (λ t. OfType t value.0) first.3 value.2 in (
      value.0 ∷ rest.0,
      ap (λ o. option_and_then (λ v. option_map (λ us. v ∷ us) (values_at vs places)) o) value.1 ∙ ap (option_map (λ us. value.0 ∷ us)) rest.1,
      both_true kind rest.2,
    )

union_fits : (op : Operator) (places : List (List ℕ)) (ins : List Attributes) (schema : Attributes) (port : ℕ) (x : Item) → length places ≡ length ins
    → ((k : ℕ) (input : Attributes) (ps : List ℕ) → slice_get ins k ≡ Some input → slice_get places k ≡ Some ps → PlacesFit input schema ps)
    → given_attributes op.clauses op 0 ≡ schema → port < length ins → ItemHas (unwrap_or (slice_get ins port) []) x → MakesFit op (union_body places port x)
union_fits op places ins schema port (I.Tuple vs) count each given within has =
    let mine = get_below places port (omega (arith, within, count)) in
    let input = get_below ins port within in
    let item : ItemHas input.0 (I.Tuple vs) = subst (λ o. ItemHas (unwrap_or o []) (I.Tuple vs)) input.1 has in
    let fit : IsTrue (tuple_fits input.0 vs) = sym (fits_tuple input.0 vs) ∙ item in
    let there = values_there input.0 schema vs mine.0 fit (each port input.0 mine.0 input.1 mine.1) in
    as_makes op _
    (yields_need (λ ps. ps ≡ mine.0) (AllFit op) (slice_get places port) _ (mine.0, mine.1, refl) (λ ps same.
    yields_need (λ us. IsTrue (tuple_fits schema us)) (AllFit op) (values_at vs ps) _
    (there.0, ap (values_at vs) same ∙ there.1, there.2)
    (λ us is. one_fits op (output 0 (I.Tuple us)) (subst (λ a. ItemHas a (I.Tuple us)) (sym given) (fits_tuple schema us ∙ is)))))
union_fits op places ins schema port I.Window count each given within has = none_fit op
union_fits op places ins schema port I.Final count each given within has = none_fit op
union_fits op places ins schema port (I.Bad f) count each given within has = none_fit op

-- ---- a sink

sink_fits : (op : Operator) (schema : Attributes) (x : Item) → given_attributes op.clauses op 0 ≡ schema → ItemHas schema x → MakesFit op (sink_body x)
sink_fits op schema (I.Tuple vs) given has = one_fits op (output 0 (I.Tuple vs)) (subst (λ a. ItemHas a (I.Tuple vs)) (sym given) has)
sink_fits op schema I.Window given has = none_fit op
sink_fits op schema I.Final given has = none_fit op
sink_fits op schema (I.Bad f) given has = none_fit op

-- ---- each of them

some_outs : (outs : List Attributes) (streams : List ℕ) → length streams ≡ length outs → IsTrue (fit_ports O.Split 1 (length outs)) → 0 < length streams
some_outs [] streams count ports = absurd (let no : false ≡ true = ports in cc)
some_outs (a ∷ outs) [] count ports = absurd (omega (arith, count))
some_outs (a ∷ outs) (s ∷ streams) count ports = zero-lt-suc (length streams)

abbrev pub with_clauses : ℕ → CheckedClauses → List Function → List Attributes → List Attributes → List (List ℕ) → List ℕ → Operator
with_clauses number part functions ins outs streams_in streams_out =
    record { number = number; clauses = part; functions = functions; types = record { ins = ins; outs = outs }; ins = streams_in; outs = streams_out }

simple_part : (number : ℕ) (functions : List Function) (streams_in : List (List ℕ)) (streams_out : List ℕ) (signatures : List Signature) (scope : Scope) (kind : OpKind)
    (ins outs : List Attributes) (part : CheckedClauses) → PartFits scope kind ins outs part → NamesPorts signatures ins scope → FunctionsFit signatures functions
    → IsTrue (fit_ports kind (length ins) (length outs)) → length streams_out ≡ length outs → is_simple part ≡ true
    → (h : List Event) (port : ℕ) (x : Item) → port < length ins → ItemHas (unwrap_or (slice_get ins port) []) x
    → MakesFit (with_clauses number part functions ins outs streams_in streams_out) (makes_by part (with_clauses number part functions ins outs streams_in streams_out) h port x)
simple_part n fs si so sigs scope _ _ _ _ (K.file_source file strict schema name form) names there ports count simple h port x within has =
    none_fit (with_clauses n (A.FileSource file strict) fs [] (schema ∷ []) si so)
simple_part n fs si so sigs scope _ _ _ _ (K.file_sink file schema name form) names there ports count simple h port x within has =
    sink_fits (with_clauses n (A.FileSink file) fs (schema ∷ []) [] si so) schema x refl (at_first schema port x within has)
simple_part n fs si so sigs scope _ _ _ _ (K.filter condition schema fit) names there ports count simple h port x within has =
    filter_fits (with_clauses n (A.Filter condition) fs (schema ∷ []) (schema ∷ []) si so) sigs scope condition schema x names there fit refl (at_first schema port x within has)
simple_part n fs si so sigs scope _ _ _ _ (K.functor condition fields input schema fit made each) names there ports count simple h port x within has =
    functor_fits (with_clauses n (A.Functor condition (C.Tuple fields)) fs (input ∷ []) (schema ∷ []) si so) sigs scope condition (C.Tuple fields) input schema x names there fit
    (F.tuple fields schema made each) refl (at_first input port x within has)
simple_part n fs si so sigs scope _ _ _ _ (K.punctor condition position schema fit) names there ports count simple h port x within has =
    punctor_fits (with_clauses n (A.Punctor condition position) fs (schema ∷ []) (schema ∷ []) si so) sigs scope condition position schema x names there fit refl (at_first schema port x within has)
simple_part n fs si so sigs scope _ _ _ _ (K.split index kind schema outs fit same) names there ports count simple h port x within has =
    split_fits (with_clauses n (A.Split index) fs (schema ∷ []) outs si so) sigs scope index kind schema x names there fit (some_outs outs so count ports) given (at_first schema port x within has)
  where
    given : (p : ℕ) → p < length so → unwrap_or (slice_get outs p) [] ≡ schema
    given p below =
        let own = get_below outs p (omega (arith, below, count)) in
        ap (λ o. unwrap_or o []) own.1 ∙ same p own.0 own.1
simple_part n fs si so sigs scope _ _ _ _ (K.union places ins schema each_port each) names there ports count simple h port x within has =
    union_fits (with_clauses n (A.Union places) fs ins (schema ∷ []) si so) places ins schema port x each_port each refl within has
simple_part n fs si so sigs scope _ _ _ _ (K.custom handlers ins outs fit) names there ports count simple h port x within has = absurd (let no : false ≡ true = simple in cc)
simple_part n fs si so sigs scope _ _ _ _ (K.aggregate window partition group collects input schema a b c d e) names there ports count simple h port x within has =
    absurd (let no : false ≡ true = simple in cc)
simple_part n fs si so sigs scope _ _ _ _ (K.join left right condition fields first second schema a b c d e f g) names there ports count simple h port x within has =
    absurd (let no : false ≡ true = simple in cc)

pub simple_fits : FitsAt is_simple
simple_fits op h port x simple fit history calm has =
    simple_part op.number op.functions op.ins op.outs fit.signatures fit.scope fit.kind op.types.ins op.types.outs op.clauses fit.clauses fit.names fit.functions fit.ports fit.outs simple h port x has.0 has.1
