-- A Join of tuples that fit.
use Rattle.std.proofs.Common.{◌≡◌, ℕ, zero, suc, ◌==◌, ◌∙◌, Bool, true, false, if◌then◌else◌, List, [], ◌∷◌, length, map, slice_get, Option, None, refl, sym, ap, subst, arith}
use Rattle.std.specs.List.{AllByRecursion}
use Rattle.std.specs.Option.{unwrap_or}
use Rattle.std.proofs.lemmas.Bool.{eqb-true}
use Rattle.spl_value.specs.declared.item.Item.{Item}
use Rattle.spl_value.specs.declared.item.Item.TheVariants as I
use Rattle.spl_value.specs.declared.types.SplType.TheVariants as S
use Rattle.spl_value.specs.declared.value.Value.{Value}
use Rattle.spl_value.specs.declared.value.Value.TheVariants as V
use Rattle.spl_tree.specs.declared.body.Function.{Function}
use Rattle.spl_tree.specs.declared.code.Code.{Code}
use Rattle.spl_tree.specs.declared.code.Code.TheVariants as C
use Rattle.spl_tree.specs.declared.code.Slot.{Slot}
use Rattle.spl_tree.specs.declared.graph.OpKind.{OpKind}
use Rattle.language_model.specs.declared.checked.CheckedClauses.{CheckedClauses}
use Rattle.language_model.specs.declared.checked.CheckedClauses.TheVariants as A
use Rattle.language_model.specs.declared.checked.Policy.{Policy}
use Rattle.language_model.specs.declared.env.Env.{Env}
use Rattle.language_model.specs.declared.scope.Scope.{Scope}
use Rattle.language_model.specs.declared.scope.Signature.{Signature}
use Rattle.language_model.specs.CodeFits as F
use Rattle.language_model.specs.Keeping.{ConditionFits, NamesPorts, PartFits}
use Rattle.language_model.specs.Keeping as K
use Rattle.language_model.specs.StreamTypes.{Attributes}
use Rattle.language_model.specs.WorldFits.{FunctionsFit}
use Rattle.language_model.proofs.Yielding.{OfType, Yields, yields_followed}
use Rattle.stream_model.specs.Stream.{Event}
use Rattle.stream_model.specs.Operators.{Operator}
use Rattle.stream_model.specs.PortEvents.{port_items}
use Rattle.stream_model.specs.Bodies.{most_turns, made_where}
use Rattle.stream_model.specs.Joins.{at_pair, join_body, pairs_give, side_content}
use Rattle.stream_model.specs.React.{makes_by}
use Rattle.stream_model.specs.Windows.{partition_key, window_events}
use Rattle.stream_model.specs.Replies.{AllFit, ItemHas, given_attributes}
use Rattle.stream_model.specs.Fitting.{FitsAt, HasPort, HistoryFits, MakesFit}
use Rattle.stream_model.proofs.PartKinds.{is_join}
use Rattle.stream_model.proofs.FittingCodes.{TuplesHave}
use Rattle.stream_model.proofs.SimpleFits.{as_makes, both_fit, made_fits, none_fit, with_clauses}
use Rattle.stream_model.proofs.ContentMembers.{ItemIs, all_content, inserted_of}

-- tuples with these attributes
abbrev pub Has : Attributes → List Value → Type 0
Has schema vs = OfType (S.Tuple schema) (V.Tuple vs)

pub two_came : (first second : Attributes) (t u : List Value) → Has first t → Has second u → TuplesHave (first ∷ second ∷ []) (t ∷ u ∷ [])
two_came first second t u h k zero schema at = let same : first ≡ schema = cc in (t, refl, subst (λ a. Has a t) same h)
two_came first second t u h k (suc zero) schema at = let same : second ≡ schema = cc in (u, refl, subst (λ a. Has a u) same k)
two_came first second t u h k (suc (suc i)) schema at = absurd cc

-- where the items of the two ports have come
abbrev PairHas : List Attributes → Env → Type 0
PairHas ins env = (inputs : List (List Value)) × (env ≡ record { inputs = inputs; vars = []; punct = None }) × TuplesHave ins inputs

pairs_fit : (op : Operator) (signatures : List Signature) (ins : List Attributes) (scope : Scope) (condition : Option (Code Slot)) (code : Code Slot) (schema : Attributes)
    (pairs : List Env) (turns : ℕ) → NamesPorts signatures ins scope → FunctionsFit signatures op.functions → ConditionFits scope condition
    → F.CodeFits scope code (S.Tuple schema) → given_attributes op.clauses op 0 ≡ schema → AllByRecursion (PairHas ins) pairs
    → Yields (AllFit op) (pairs_give op.functions condition code pairs turns)
pairs_fit op signatures ins scope condition code schema [] turns names there holds fit given have = none_fit op
pairs_fit op signatures ins scope condition code schema (pair ∷ pairs) turns names there holds fit given have =
    yields_followed (AllFit op) (AllFit op) (made_where op.functions condition code pair turns) _
    (subst (λ env. Yields (AllFit op) (made_where op.functions condition code env turns)) (sym have.0.1)
    (made_fits op signatures ins scope condition code schema have.0.0 turns names there holds fit given have.0.2))
    (λ outs left first. yields_followed (AllFit op) (AllFit op) (pairs_give op.functions condition code pairs left) _
    (pairs_fit op signatures ins scope condition code schema pairs left names there holds fit given have.1)
    (λ more left rest. both_fit op outs more first rest))

pub items_has : (schema : Attributes) (x : Item) → ItemHas schema x → ItemIs (Has schema) x
items_has schema (I.Tuple vs) h = h
items_has schema I.Window h = tt
items_has schema I.Final h = tt
items_has schema (I.Bad f) h = tt

-- what has come on a port has its attributes
pub came_has : (op : Operator) (port : ℕ) (schema : Attributes) → unwrap_or (slice_get op.types.ins port) [] ≡ schema → (h : List Event) → HistoryFits op h
    → AllByRecursion (ItemIs (Has schema)) (port_items port h)
came_has op port schema is [] fit = tt
came_has op port schema is (e ∷ h) fit = go (e.input == port) refl (came_has op port schema is h fit.1)
  where
    go : (b : Bool) → (e.input == port) ≡ b → AllByRecursion (ItemIs (Has schema)) (port_items port h)
        → AllByRecursion (ItemIs (Has schema)) (if b then e.item ∷ port_items port h else port_items port h)
    go true q rest =
        let same : e.input ≡ port = eqb-true e.input port q in
        (items_has schema e.item (subst (λ a. ItemHas a e.item) (ap (λ p. unwrap_or (slice_get op.types.ins p) []) same ∙ is) fit.0.1), rest)
    go false q rest = rest

-- a pair for each tuple
pairs_have : (ins : List Attributes) (P : List Value → Type 0) (inputs : List Value → List (List Value)) (us : List (List Value))
    → ((u : List Value) → P u → TuplesHave ins (inputs u)) → AllByRecursion P us
    → AllByRecursion (PairHas ins) (map (λ u. record { inputs = inputs u; vars = []; punct = None }) us)
pairs_have ins P inputs [] k all = tt
pairs_have ins P inputs (u ∷ us) k all = ((inputs u, refl, k u all.0), pairs_have ins P inputs us k all.1)

side_has : (window : Policy) (schema : Attributes) (items : List Item) → AllByRecursion (ItemIs (Has schema)) items → AllByRecursion (Has schema) (side_content window items)
side_has window schema items all =
    all_content (Has schema) window.rule [] (window_events (partition_key window []) items) (inserted_of (Has schema) (partition_key window []) items all)

join_of : (op : Operator) (signatures : List Signature) (scope : Scope) (left right : Policy) (condition : Option (Code Slot)) (code : Code Slot) (first second schema : Attributes)
    → op.types.ins ≡ first ∷ second ∷ [] → NamesPorts signatures (first ∷ second ∷ []) scope → FunctionsFit signatures op.functions → ConditionFits scope condition
    → F.CodeFits scope code (S.Tuple schema) → given_attributes op.clauses op 0 ≡ schema → (h : List Event) → HistoryFits op h → (port : ℕ) (x : Item) → HasPort op port x
    → MakesFit op (join_body op.functions left right condition code (port_items 0 h) (port_items 1 h) port x)
join_of op signatures scope left right condition code first second schema ins names there holds fit given h history zero (I.Tuple t) has =
    let mine : Has first t = subst (λ a. ItemHas a (I.Tuple t)) (ap (λ schemas. unwrap_or (slice_get schemas 0) []) ins) has.1 in
    let others = came_has op 1 second (ap (λ schemas. unwrap_or (slice_get schemas 1) []) ins) h history in
    as_makes op _
    (pairs_fit op signatures (first ∷ second ∷ []) scope condition code schema (map (λ u. at_pair t u) (side_content right (port_items 1 h))) most_turns names there holds fit given
    (pairs_have (first ∷ second ∷ []) (Has second) (λ u. t ∷ u ∷ []) (side_content right (port_items 1 h)) (λ u k. two_came first second t u mine k)
    (side_has right second (port_items 1 h) others)))
join_of op signatures scope left right condition code first second schema ins names there holds fit given h history (suc zero) (I.Tuple t) has =
    let mine : Has second t = subst (λ a. ItemHas a (I.Tuple t)) (ap (λ schemas. unwrap_or (slice_get schemas 1) []) ins) has.1 in
    let others = came_has op 0 first (ap (λ schemas. unwrap_or (slice_get schemas 0) []) ins) h history in
    as_makes op _
    (pairs_fit op signatures (first ∷ second ∷ []) scope condition code schema (map (λ u. at_pair u t) (side_content left (port_items 0 h))) most_turns names there holds fit given
    (pairs_have (first ∷ second ∷ []) (Has first) (λ u. u ∷ t ∷ []) (side_content left (port_items 0 h)) (λ u k. two_came first second u t k mine)
    (side_has left first (port_items 0 h) others)))
join_of op signatures scope left right condition code first second schema ins names there holds fit given h history (suc (suc port)) (I.Tuple t) has =
    let few : length op.types.ins ≡ 2 = ap length ins in
    absurd (omega (arith, few, has.0))
join_of op signatures scope left right condition code first second schema ins names there holds fit given h history port I.Window has = none_fit op
join_of op signatures scope left right condition code first second schema ins names there holds fit given h history port I.Final has = none_fit op
join_of op signatures scope left right condition code first second schema ins names there holds fit given h history port (I.Bad f) has = none_fit op

join_part : (number : ℕ) (functions : List Function) (streams_in : List (List ℕ)) (streams_out : List ℕ) (signatures : List Signature) (scope : Scope) (kind : OpKind)
    (ins outs : List Attributes) (part : CheckedClauses) → PartFits scope kind ins outs part → NamesPorts signatures ins scope → FunctionsFit signatures functions → is_join part ≡ true
    → (h : List Event) → HistoryFits (with_clauses number part functions ins outs streams_in streams_out) h → (port : ℕ) (x : Item)
    → HasPort (with_clauses number part functions ins outs streams_in streams_out) port x
    → MakesFit (with_clauses number part functions ins outs streams_in streams_out) (makes_by part (with_clauses number part functions ins outs streams_in streams_out) h port x)
join_part n fs si so sigs scope _ _ _ _ (K.join left right condition fields first second schema wl wr pl pr holds made each) names there join h history port x has =
    join_of (with_clauses n (A.Join left right condition (C.Tuple fields)) fs (first ∷ second ∷ []) (schema ∷ []) si so) sigs scope left right condition (C.Tuple fields) first second schema
    refl names there holds (F.tuple fields schema made each) refl h history port x has
join_part n fs si so sigs scope _ _ _ _ _ names there join h history port x has = absurd (let no : false ≡ true = join in cc)

pub join_fits : FitsAt is_join
join_fits op h port x join fit history calm has =
    join_part op.number op.functions op.ins op.outs fit.signatures fit.scope fit.kind op.types.ins op.types.outs op.clauses fit.clauses fit.names fit.functions join h history port x has
