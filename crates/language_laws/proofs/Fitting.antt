-- The code of an expression fits the scope at its type.
use Rattle.std.specs.Prelude.{◌≡◌, ◌==◌, ◌&&◌, ℕ, suc, pos, nat_lt, is_some, Bool, true, IsTrue, List, [], ◌∷◌, ◌++◌, length, map, slice_get, Option, Some, None, Ok, Err}
use Rattle.std.specs.List.{AllByRecursion, list_all}
use Rattle.std.specs.Str.{bytes_eq}
use Rattle.std.specs.Cmp.{first_so, second_so}
use Rattle.std.proofs.Common.{refl, sym, ap, subst, ◌∙◌, arith, inl, inr}
use Rattle.std.proofs.lemmas.Bool.{eqb-true}
use Rattle.std.proofs.lemmas.List.{append_assoc}
use Rattle.spl_value.specs.declared.types.IntKind.{IntKind}
use Rattle.spl_value.specs.declared.types.Named.{Named}
use Rattle.spl_value.specs.declared.types.SplType.{SplType}
use Rattle.spl_value.specs.declared.types.SplType.TheVariants as S
use Rattle.spl_value.specs.declared.types.SplType.TheOpen as T
use Rattle.spl_value.specs.declared.types.SplType.TheOpen.{SplType-F}
use Rattle.spl_value.specs.declared.types.SplType.TheViews.{out-SplType}
use Rattle.spl_value.specs.declared.value.Value.TheVariants as V
use Rattle.spl_value.specs.Values.{top}
use Rattle.spl_value.proofs.FitsLaws.{fits_int, fits_bool, fits_text}
use Rattle.spl_tree.specs.declared.expression.Placed.{Placed}
use Rattle.spl_tree.specs.declared.expression.Field.{Field}
use Rattle.spl_tree.specs.declared.expression.Step.{Step}
use Rattle.spl_tree.specs.declared.expression.Step.TheVariants as N
use Rattle.spl_tree.specs.declared.expression.PrefixOperator.{PrefixOperator}
use Rattle.spl_tree.specs.declared.expression.PrefixOperator.TheVariants as P
use Rattle.spl_tree.specs.declared.expression.CastTarget.TheVariants as G
use Rattle.spl_tree.specs.declared.expression.BinaryOperator.{BinaryOperator}
use Rattle.spl_tree.specs.declared.expression.BinaryOperator.TheVariants as B
use Rattle.spl_tree.specs.declared.token.Number.{Number}
use Rattle.spl_tree.specs.declared.expression.ExprKind.{ExprKind}
use Rattle.spl_tree.specs.declared.expression.ExprKind.TheVariants as E
use Rattle.spl_tree.specs.declared.expression.ExprKind.TheOpen as X
use Rattle.spl_tree.specs.declared.expression.ExprKind.TheFolds.{map-ExprKind}
use Rattle.spl_tree.specs.Trees.{Expr}
use Rattle.spl_tree.proofs.Induction.{OfExpr, OfEntry, OfField, OfStep, ExprSteps, expr_ind}
use Rattle.spl_tree.specs.declared.code.Code.{Code}
use Rattle.spl_tree.specs.declared.code.Code.TheVariants as C
use Rattle.spl_tree.specs.declared.code.Slot.{Slot}
use Rattle.spl_tree.specs.declared.code.Slot.TheVariants as L
use Rattle.spl_tree.specs.declared.code.Selector.{Selector}
use Rattle.spl_tree.specs.declared.code.UnaryCode.TheVariants as U
use Rattle.spl_tree.specs.declared.code.BinaryCode.{BinaryCode}
use Rattle.spl_tree.specs.declared.code.BinaryCode.TheVariants as D
use Rattle.spl_tree.specs.declared.code.IntegerOperator.{IntegerOperator}
use Rattle.spl_tree.specs.declared.code.OrderOperator.{OrderOperator}
use Rattle.spl_tree.specs.declared.code.BuiltIn.{BuiltIn}
use Rattle.spl_tree.specs.declared.code.BuiltIn.TheVariants as Q
use Rattle.spl_tree.specs.declared.code.CallName.{CallName}
use Rattle.spl_tree.specs.declared.code.CallName.TheVariants as A
use Rattle.spl_tree.specs.declared.code.Marker.{Marker}
use Rattle.language_model.specs.declared.scope.Port.{Port}
use Rattle.language_model.specs.declared.scope.Scope.{Scope}
use Rattle.language_model.specs.declared.scope.Signature.{Signature}
use Rattle.language_model.specs.declared.scope.Typed.{Typed}
use Rattle.language_model.specs.declared.scope.Variable.{Variable}
use Rattle.language_model.specs.Readings.{asks_punct, name_of, named_marker}
use Rattle.language_model.specs.Scopes.{At, Meant, OfVariable, OfAttribute, OfPort, Nothing, PortAttribute, meant, variable_of, attributes_of, attribute_of, function_of, unresolved_of, dollar_of}
use Rattle.language_model.proofs.parts.Scopes.{variable_meant, port_of}
use Rattle.language_model.specs.Typing.{Wanted, Found, after, mismatch, typed, as_wanted, number_typed, same_types, Part, part_typed, meant_typed, Wants, Anything, This, Another, elements_typed, list_typed, entries_typed, map_typed, are_distinct, gives_each, fields_typed, own_fields, tuple_typed, level_index, level_step, steps_typed, selected, select_typed, of_port, level_prefix, prefixes_at, prefixes_typed, integer_operator, order_operator, level_operator, operands_typed, level_in, binary_typed, marker_asked, conditional_typed, arguments_typed, function_typed, call_of, int32, OnFirst, level_first, argument_count, fixed_typed, no_value, arguments_of, built_in_typed, level_typed, typing}
use Rattle.std.specs.Option.{option_or}
use Rattle.language_model.specs.parts.Typing.{dollar_typed, wants_list, wants_map, wants_tuple, member_typed, port_attribute, of_base, on_integers, ordering_of, binary_or_marker, branch_wanted, value_given, call_typed}
use Rattle.language_model.proofs.parts.Typing.{field_typed, prefix_typed, unary_typed, first_typed}
use Rattle.language_model.specs.TypingLaws.{TypingAt, part}
use Rattle.language_model.specs.CodeFits as F
use Rattle.language_model.specs.CodeFits.{CodeFits, SlotFits, ElementsFit, PairsFit, FieldsFit, ArgumentsFit, StepsLead, UnaryGives, UnariesGive, BinaryGives, BuiltInGives}
use Rattle.language_model.specs.FitLaws.{DollarsFit, FitLaw}
use Rattle.language_laws.proofs.Closed.{closed_law}
use Rattle.language_model.proofs.Standing.{Stands, first_stands, Bears, variable_there, attribute_there, port_there, function_there, InPorts, FirstOf, attributes_there}
use Rattle.language_model.proofs.Places.{AtNames, names_one_each, InRow, row_one_each}
use Rattle.language_model.proofs.SameTypes.{equal_from_same}
use Rattle.language_model.proofs.Wanting.{gives_both, gives_if, gives_no_call, Some_thing, gives_some, Meets, MeetsIn, rolled, Keeps, keeps, part_of, part_at}
use Rattle.language_model.proofs.FoundAnswers.{Gives, gives_after, gives_from, gives_on}

-- the code fits at its type, and at a type
abbrev pub Fits : Scope → Typed → Type 0
Fits scope t = CodeFits scope t.code t.kind

abbrev pub FitsAt : Scope → SplType → Typed → Type 0
FitsAt scope u t = CodeFits scope t.code u

-- what is known of a part
abbrev pub Sound : Scope → TypingAt → Type 0
Sound scope f = (at : ℕ) (wanted : Wanted) → Gives (Fits scope) (f at scope wanted)

abbrev pub Good : Scope → Placed Part → Type 0
Good scope e = Keeps e.what.1 × Sound scope e.what.1

pub good_any : (scope : Scope) (e : Placed Part) → Good scope e → (wanted : Wanted) → Gives (Fits scope) (part_typed e scope wanted)
good_any scope e h wanted = h.1 e.at wanted

pub good_at : (scope : Scope) (e : Placed Part) → Good scope e → (t : SplType) → Gives (FitsAt scope t) (part_typed e scope (Some t))
good_at scope e h t =
    gives_on (λ x. MeetsIn (Some t) x × Fits scope x) (FitsAt scope t) (part_typed e scope (Some t))
    (gives_both (MeetsIn (Some t)) (Fits scope) (part_typed e scope (Some t)) (h.0 e.at scope (Some t)) (h.1 e.at (Some t)))
    (λ x both. subst (CodeFits scope x.code) both.0 both.1)

as_wanted_fits : (at : ℕ) (scope : Scope) (wanted : Wanted) (t : Typed) → Fits scope t → Gives (Fits scope) (as_wanted at wanted t)
as_wanted_fits at scope None t h = h
as_wanted_fits at scope (Some u) t h = gives_if (Fits scope) (same_types t.kind u) (Ok t) (mismatch at) (λ same. h) tt

after_fits : (at : ℕ) (scope : Scope) (wanted : Wanted) (r : Found Typed) → Gives (Fits scope) r → Gives (Fits scope) (after r (as_wanted at wanted))
after_fits at scope wanted r h = gives_after (Fits scope) (Fits scope) r (as_wanted at wanted) h (λ t g. as_wanted_fits at scope wanted t g)

-- ---- names

-- what a name means has a slot that fits, and a port is what its own name means
abbrev pub MeantFits : Scope → Meant → Type 0
MeantFits scope (OfVariable v) = SlotFits scope (L.Variable v.place) v.what.kind
MeantFits scope (OfAttribute a) = SlotFits scope (L.Attribute a.port a.attribute) a.kind
MeantFits scope (OfPort p) = (slice_get scope.ports p.place ≡ Some p.what) × (meant scope p.what.name ≡ OfPort p)
MeantFits scope Nothing = Unit {0}

attribute_fits : (scope : Scope) (name : List ℕ) (a : PortAttribute) → meant scope name ≡ OfAttribute a → InPorts scope.ports 0 name a → MeantFits scope (OfAttribute a)
attribute_fits scope name a is h =
    let place : a.port ≡ h.later = omega (arith, h.place) in
    let kind : OfAttribute a ≡ OfAttribute (record { port = a.port; attribute = a.attribute; kind = h.attribute.kind }) = ap (λ k. OfAttribute (record a { kind = k })) (sym h.kind) in
    subst (SlotFits scope (L.Attribute a.port a.attribute)) h.kind
    (F.attribute a.port a.attribute h.port h.attribute (ap (slice_get scope.ports) place ∙ h.port_is) h.attribute_is
    (ap (attribute_of h.port.schema) h.named ∙ h.first) (inl (ap (meant scope) h.named ∙ is ∙ kind)))

meant_there : (scope : Scope) (name : List ℕ) (v : Option (At Variable)) (as' : List PortAttribute) (p : Option (At Port)) → variable_of scope name ≡ v
    → meant scope name ≡ variable_meant v as' p → Bears (λ v. v.name) scope.vars name v → FirstOf scope.ports 0 name as' → Bears (λ p. p.name) scope.ports name p
    → MeantFits scope (variable_meant v as' p)
meant_there scope name (Some v) as' p finds is h g f = F.variable v.place v.what h.0 (ap (variable_of scope) h.1 ∙ finds)
meant_there scope name None [] None finds is h g f = tt
meant_there scope name None [] (Some p) finds is h g f = (f.0, ap (meant scope) f.1 ∙ is)
meant_there scope name None (a ∷ []) p finds is h g f = attribute_fits scope name a is g
meant_there scope name None (a ∷ b ∷ as') p finds is h g f = tt

pub name_meant : (scope : Scope) (name : List ℕ) → MeantFits scope (meant scope name)
name_meant scope name =
    meant_there scope name (variable_of scope name) (attributes_of scope name) (port_of scope name) refl refl
    (variable_there scope name) (attributes_there scope name) (port_there scope name)

meant_fits : (scope : Scope) (at : ℕ) (name : List ℕ) (m : Meant) → MeantFits scope m → Gives (Fits scope) (meant_typed at name m)
meant_fits scope at name (OfVariable v) h = F.name (L.Variable v.place) v.what.kind h
meant_fits scope at name (OfAttribute a) h = F.name (L.Attribute a.port a.attribute) a.kind h
meant_fits scope at name (OfPort p) h = F.name (L.Port p.place) (S.Tuple p.what.schema) (F.port p.place p.what h.0 h.1)
meant_fits scope at name Nothing h = tt

name_fits : (scope : Scope) (at : ℕ) (name : List ℕ) → Gives (Fits scope) (meant_typed at name (meant scope name))
name_fits scope at name = meant_fits scope at name (meant scope name) (name_meant scope name)

-- ---- literals

elements_fit : (scope : Scope) (t : SplType) (es : List (Placed Part)) → AllByRecursion (Good scope) es → Gives (λ xs. ElementsFit scope xs t) (elements_typed scope t es)
elements_fit scope t [] h = F.no_elements t
elements_fit scope t (e ∷ es) h =
    gives_after (FitsAt scope t) (λ xs. ElementsFit scope xs t) (part_typed e scope (Some t)) _ (good_at scope e h.0 t) (λ x f.
    gives_after (λ xs. ElementsFit scope xs t) (λ xs. ElementsFit scope xs t) (elements_typed scope t es) _ (elements_fit scope t es h.1) (λ xs g. F.element x.code xs t f g))

list_fits : (at : ℕ) (scope : Scope) (wants : Wants SplType) (es : List (Placed Part)) → AllByRecursion (Good scope) es → Gives (Fits scope) (list_typed at scope wants es)
list_fits at scope Another es h = tt
list_fits at scope (This t) es h =
    gives_after (λ xs. ElementsFit scope xs t) (Fits scope) (elements_typed scope t es) _ (elements_fit scope t es h) (λ xs f. F.list xs t f)
list_fits at scope Anything [] h = tt
list_fits at scope Anything (e ∷ es) h =
    gives_after (Fits scope) (Fits scope) (part_typed e scope None) _ (good_any scope e h.0 None) (λ x f.
    gives_after (λ xs. ElementsFit scope xs x.kind) (Fits scope) (elements_typed scope x.kind es) _ (elements_fit scope x.kind es h.1) (λ xs g.
    F.list (x.code ∷ xs) x.kind (F.element x.code xs x.kind f g)))

abbrev pub GoodEntry : Scope → Placed Part × Placed Part → Type 0
GoodEntry scope e = Good scope e.0 × Good scope e.1

entries_fit : (scope : Scope) (k t : SplType) (es : List (Placed Part × Placed Part)) → AllByRecursion (GoodEntry scope) es
    → Gives (λ xs. PairsFit scope xs k t) (entries_typed scope k t es)
entries_fit scope k t [] h = F.no_pairs k t
entries_fit scope k t (e ∷ es) h =
    gives_after (FitsAt scope k) (λ xs. PairsFit scope xs k t) (part_typed e.0 scope (Some k)) _ (good_at scope e.0 h.0.0 k) (λ x f.
    gives_after (FitsAt scope t) (λ xs. PairsFit scope xs k t) (part_typed e.1 scope (Some t)) _ (good_at scope e.1 h.0.1 t) (λ y g.
    gives_after (λ xs. PairsFit scope xs k t) (λ xs. PairsFit scope xs k t) (entries_typed scope k t es) _ (entries_fit scope k t es h.1) (λ xs i.
    F.pair x.code y.code xs k t f g i)))

map_fits : (at : ℕ) (scope : Scope) (wants : Wants (SplType × SplType)) (es : List (Placed Part × Placed Part)) → AllByRecursion (GoodEntry scope) es
    → Gives (Fits scope) (map_typed at scope wants es)
map_fits at scope Another es h = tt
map_fits at scope (This p) es h =
    gives_after (λ xs. PairsFit scope xs p.0 p.1) (Fits scope) (entries_typed scope p.0 p.1 es) _ (entries_fit scope p.0 p.1 es h) (λ xs f. F.map xs p.0 p.1 f)
map_fits at scope Anything [] h = tt
map_fits at scope Anything (e ∷ es) h =
    gives_after (Fits scope) (Fits scope) (part_typed e.0 scope None) _ (good_any scope e.0 h.0.0 None) (λ x f.
    gives_after (Fits scope) (Fits scope) (part_typed e.1 scope None) _ (good_any scope e.1 h.0.1 None) (λ y g.
    gives_after (λ xs. PairsFit scope xs x.kind y.kind) (Fits scope) (entries_typed scope x.kind y.kind es) _ (entries_fit scope x.kind y.kind es h.1) (λ xs i.
    F.map ((x.code, y.code) ∷ xs) x.kind y.kind (F.pair x.code y.code xs x.kind y.kind f g i))))

-- a field's value fits at the type of the attribute of its name
abbrev FieldAt : Scope → List (Named SplType) → List ℕ → ℕ × Code Slot → Type 0
FieldAt scope schema name x = (a : Named SplType) × (slice_get schema x.0 ≡ Some a) × (bytes_eq a.name name ≡ true) × CodeFits scope x.1 a.kind

abbrev pub GoodField : Scope → Field (Placed Part) → Type 0
GoodField scope f = Good scope f.value

field_fits : (scope : Scope) (schema : List (Named SplType)) (f : Field (Placed Part)) (o : Option (At (Named SplType))) → GoodField scope f
    → Stands (λ a. bytes_eq a.name f.name.what) schema 0 o → Gives (FieldAt scope schema f.name.what) (field_typed scope schema f o)
field_fits scope schema f None h stands = tt
field_fits scope schema f (Some a) h stands =
    let place : a.place ≡ stands.0 = omega (arith, stands.1) in
    gives_after (FitsAt scope a.what.kind) (FieldAt scope schema f.name.what) (part_typed f.value scope (Some a.what.kind)) _ (good_at scope f.value h a.what.kind)
    (λ x g. (a.what, ap (slice_get schema) place ∙ stands.2, stands.3, g))

fields_fit : (scope : Scope) (schema : List (Named SplType)) (fs : List (Field (Placed Part))) → AllByRecursion (GoodField scope) fs
    → Gives (λ xs. FieldsFit scope xs schema × AtNames schema fs xs) (fields_typed scope schema fs)
fields_fit scope schema [] h = (F.no_fields schema, tt)
fields_fit scope schema (f ∷ fs) h =
    gives_after (FieldAt scope schema f.name.what) (λ xs. FieldsFit scope xs schema × AtNames schema (f ∷ fs) xs) (field_typed scope schema f (attribute_of schema f.name.what)) _
    (field_fits scope schema f (attribute_of schema f.name.what) h.0 (first_stands (λ a. bytes_eq a.name f.name.what) schema 0)) (λ x one.
    gives_after (λ xs. FieldsFit scope xs schema × AtNames schema fs xs) (λ xs. FieldsFit scope xs schema × AtNames schema (f ∷ fs) xs) (fields_typed scope schema fs) _
    (fields_fit scope schema fs h.1) (λ xs rest. (F.field x.0 x.1 xs schema one.0 one.1 one.3 rest.0, ((one.0, one.1, one.2), rest.1))))

-- an attribute after others
get_behind : (before rest : List (Named SplType)) (a : Named SplType) → slice_get (before ++ a ∷ rest) (length before) ≡ Some a
get_behind [] rest a = refl
get_behind (b ∷ before) rest a = get_behind before rest a

length_behind : (before : List (Named SplType)) (a : Named SplType) → length (before ++ a ∷ []) ≡ suc (length before)
length_behind [] a = refl
length_behind (b ∷ before) a = ap suc (length_behind before a)

-- fields that come after those of other attributes
record OwnFields (scope : Scope) (i : ℕ) (xs : List (Named SplType) × List (ℕ × Code Slot)) : Type 0 where
  long : length xs.1 ≡ length xs.0
  row : InRow i xs.1
  fit : (before : List (Named SplType)) → length before ≡ i → FieldsFit scope xs.1 (before ++ xs.0)

own_more : (scope : Scope) (i : ℕ) (xs : List (Named SplType) × List (ℕ × Code Slot)) (a : Named SplType) (x : Code Slot) → CodeFits scope x a.kind
    → OwnFields scope (suc i) xs → OwnFields scope i (a ∷ xs.0, (i, x) ∷ xs.1)
own_more scope i xs a x f own = record {
  long = ap suc own.long;
  row = (refl, own.row);
  fit = λ before long.
      let rest : FieldsFit scope xs.1 (before ++ a ∷ xs.0) = subst (FieldsFit scope xs.1) (append_assoc before (a ∷ []) xs.0) (own.fit (before ++ a ∷ []) (length_behind before a ∙ ap suc long)) in
      F.field i x xs.1 (before ++ a ∷ xs.0) a (ap (slice_get (before ++ a ∷ xs.0)) (sym long) ∙ get_behind before xs.0 a) f rest;
}

own_fit : (scope : Scope) (i : ℕ) (fs : List (Field (Placed Part))) → AllByRecursion (GoodField scope) fs → Gives (OwnFields scope i) (own_fields scope i fs)
own_fit scope i [] h = record { long = refl; row = tt; fit = λ before long. F.no_fields (before ++ []) }
own_fit scope i (f ∷ fs) h =
    gives_after (Fits scope) (OwnFields scope i) (part_typed f.value scope None) _ (good_any scope f.value h.0 None) (λ x g.
    gives_after (OwnFields scope (suc i)) (OwnFields scope i) (own_fields scope (suc i) fs) _ (own_fit scope (suc i) fs h.1) (λ xs own.
    own_more scope i xs (record { name = f.name.what; kind = x.kind }) x.code g own))

tuple_fits : (at : ℕ) (scope : Scope) (wants : Wants (List (Named SplType))) (fs : List (Field (Placed Part))) → AllByRecursion (GoodField scope) fs
    → Gives (Fits scope) (tuple_typed at scope wants fs)
tuple_fits at scope Another fs h = tt
tuple_fits at scope (This schema) fs h =
    gives_if (Fits scope) (gives_each schema fs) _ _ (λ each.
    let attributes = list_all (λ f. is_some (attribute_of schema f.name.what)) fs in
    let distinct = first_so (are_distinct fs) attributes (first_so (are_distinct fs && attributes) (length fs == length schema) each) in
    let long = second_so (are_distinct fs && attributes) (length fs == length schema) each in
    gives_after (λ xs. FieldsFit scope xs schema × AtNames schema fs xs) (Fits scope) (fields_typed scope schema fs) _ (fields_fit scope schema fs h) (λ xs g.
    F.tuple xs schema g.0 (names_one_each schema fs xs g.1 distinct (eqb-true (length fs) (length schema) long)))) tt
tuple_fits at scope Anything fs h =
    gives_if (Fits scope) (are_distinct fs) _ _ (λ each.
    gives_after (OwnFields scope 0) (Fits scope) (own_fields scope 0 fs) _ (own_fit scope 0 fs h) (λ xs own.
    F.tuple xs.1 xs.0 (own.fit [] refl) (row_one_each (length xs.0) xs.1 own.row own.long))) tt

-- ---- what is taken of a value

abbrev pub GoodStep : Scope → Step (Placed Part) → Type 0
GoodStep scope (N.Member m) = Unit {0}
GoodStep scope (N.Index e) = Good scope e

-- a step from a type, with those after it
abbrev Leads : Scope → SplType → Selector (Code Slot) × SplType → Type 0
Leads scope t x = (steps : List (Selector (Code Slot))) (u : SplType) → StepsLead scope steps x.1 u → StepsLead scope (x.0 ∷ steps) t u

member_fits : (at : ℕ) (scope : Scope) (schema : List (Named SplType)) (name : List ℕ) (o : Option (At (Named SplType))) → Bears (λ a. a.name) schema name o
    → Gives (Leads scope (S.Tuple schema)) (member_typed at name o)
member_fits at scope schema name None h = tt
member_fits at scope schema name (Some a) h = λ steps u rest. F.member a.place steps schema a.what u h.0 rest

index_fits : (at : ℕ) (scope : Scope) (x : Typed) (y : SplType-F SplType) → out-SplType x.kind ≡ y → Fits scope x
    → Gives (λ code. (k : IntKind) × CodeFits scope code (S.Int k)) (level_index at x.code y)
index_fits at scope x (T.Int k) e f = (k, subst (CodeFits scope x.code) (rolled x.kind (T.Int k) (S.Int k) e (S.rolls-Int k)) f)
index_fits at scope x _ e f = tt

element_fits : (base : ℕ) (scope : Scope) (t : SplType) (e : Placed Part) → Good scope e → Gives (Leads scope (S.List t)) (level_step base scope (T.List t) (N.Index e))
element_fits base scope t e h =
    gives_after (Fits scope) (Leads scope (S.List t)) (part_typed e scope None) _ (good_any scope e h None) (λ x f.
    gives_after (λ code. (k : IntKind) × CodeFits scope code (S.Int k)) (Leads scope (S.List t)) (level_index e.at x.code (out-SplType x.kind)) _
    (index_fits e.at scope x (out-SplType x.kind) refl f) (λ code g steps u rest. F.index code steps g.0 t u g.1 rest))

key_fits : (base : ℕ) (scope : Scope) (k t : SplType) (e : Placed Part) → Good scope e → Gives (Leads scope (S.Map k t)) (level_step base scope (T.Map k t) (N.Index e))
key_fits base scope k t e h =
    gives_after (FitsAt scope k) (Leads scope (S.Map k t)) (part_typed e scope (Some k)) _ (good_at scope e h k) (λ x f steps u rest. F.at_key x.code steps k t u f rest)

step_fits : (base : ℕ) (scope : Scope) (t : SplType) (y : SplType-F SplType) (s : Step (Placed Part)) → out-SplType t ≡ y → GoodStep scope s
    → Gives (Leads scope t) (level_step base scope y s)
step_fits base scope t (T.Tuple schema) (N.Member m) e h =
    subst (λ t. Gives (Leads scope t) (member_typed m.at m.what (attribute_of schema m.what))) (sym (rolled t (T.Tuple schema) (S.Tuple schema) e (S.rolls-Tuple schema)))
    (member_fits m.at scope schema m.what (attribute_of schema m.what) (attribute_there schema m.what))
step_fits base scope t (T.List u) (N.Index i) e h =
    subst (λ t. Gives (Leads scope t) (level_step base scope (T.List u) (N.Index i))) (sym (rolled t (T.List u) (S.List u) e (S.rolls-List u))) (element_fits base scope u i h)
step_fits base scope t (T.Map k u) (N.Index i) e h =
    subst (λ t. Gives (Leads scope t) (level_step base scope (T.Map k u) (N.Index i))) (sym (rolled t (T.Map k u) (S.Map k u) e (S.rolls-Map k u))) (key_fits base scope k u i h)
step_fits base scope t _ _ e h = tt

steps_fit : (base : ℕ) (scope : Scope) (t : SplType) (ss : List (Step (Placed Part))) → AllByRecursion (GoodStep scope) ss
    → Gives (λ xs. StepsLead scope xs.0 t xs.1) (steps_typed base scope t ss)
steps_fit base scope t [] h = F.here t
steps_fit base scope t (s ∷ ss) h =
    gives_after (Leads scope t) (λ xs. StepsLead scope xs.0 t xs.1) (level_step base scope (out-SplType t) s) _ (step_fits base scope t (out-SplType t) s refl h.0) (λ x leads.
    gives_after (λ xs. StepsLead scope xs.0 x.1 xs.1) (λ xs. StepsLead scope xs.0 t xs.1) (steps_typed base scope x.1 ss) _ (steps_fit base scope x.1 ss h.1) (λ xs rest.
    leads xs.0 xs.1 rest))

selected_fits : (scope : Scope) (x : Code Slot) (steps : List (Selector (Code Slot))) (t u : SplType) → CodeFits scope x t → StepsLead scope steps t u
    → CodeFits scope (selected x steps) u
selected_fits scope x [] t u f (F.here v) = f
selected_fits scope x (s ∷ ss) t u f leads = F.select x (s ∷ ss) t u f leads

select_fits : (base : ℕ) (scope : Scope) (x : Typed) (ss : List (Step (Placed Part))) → Fits scope x → AllByRecursion (GoodStep scope) ss
    → Gives (Fits scope) (select_typed base scope x ss)
select_fits base scope x ss f h =
    gives_after (λ xs. StepsLead scope xs.0 x.kind xs.1) (Fits scope) (steps_typed base scope x.kind ss) _ (steps_fit base scope x.kind ss h) (λ xs leads.
    selected_fits scope x.code xs.0 x.kind xs.1 f leads)

port_attribute_fits : (scope : Scope) (p : At Port) (at : ℕ) (name : List ℕ) (o : Option (At (Named SplType))) → attribute_of p.what.schema name ≡ o
    → MeantFits scope (OfPort p) → Bears (λ a. a.name) p.what.schema name o → Gives (Fits scope) (port_attribute p.place at name o)
port_attribute_fits scope p at name None finds port h = tt
port_attribute_fits scope p at name (Some a) finds port h =
    F.name (L.Attribute p.place a.place) a.what.kind
    (F.attribute p.place a.place p.what a.what port.0 h.0 (ap (attribute_of p.what.schema) h.1 ∙ finds) (inr port.1))

-- what is taken of an expression
of_part_fits : (base : Placed Part) (scope : Scope) (ss : List (Step (Placed Part))) → Good scope base → AllByRecursion (GoodStep scope) ss
    → Gives (Fits scope) (after (part_typed base scope None) (λ x. select_typed base.at scope x ss))
of_part_fits base scope ss h g =
    gives_after (Fits scope) (Fits scope) (part_typed base scope None) _ (good_any scope base h None) (λ x f. select_fits base.at scope x ss f g)

of_port_fits : (m : Meant) (base : Placed Part) (scope : Scope) (ss : List (Step (Placed Part))) → MeantFits scope m → Good scope base → AllByRecursion (GoodStep scope) ss
    → Gives (Fits scope) (of_port m base scope ss)
of_port_fits (OfPort p) base scope (N.Member m ∷ ss) port h g =
    gives_after (Fits scope) (Fits scope) (port_attribute p.place m.at m.what (attribute_of p.what.schema m.what)) _
    (port_attribute_fits scope p m.at m.what (attribute_of p.what.schema m.what) refl port (attribute_there p.what.schema m.what))
    (λ x f. select_fits base.at scope x ss f g.1)
of_port_fits (OfPort p) base scope [] port h g = of_part_fits base scope [] h g
of_port_fits (OfPort p) base scope (N.Index e ∷ ss) port h g = of_part_fits base scope (N.Index e ∷ ss) h g
of_port_fits (OfVariable v) base scope ss port h g = of_part_fits base scope ss h g
of_port_fits (OfAttribute a) base scope ss port h g = of_part_fits base scope ss h g
of_port_fits Nothing base scope ss port h g = of_part_fits base scope ss h g

of_base_fits : (name : Option (List ℕ)) (base : Placed Part) (scope : Scope) (ss : List (Step (Placed Part))) → Good scope base → AllByRecursion (GoodStep scope) ss
    → Gives (Fits scope) (of_base name base scope ss)
of_base_fits (Some name) base scope ss h g = of_port_fits (meant scope name) base scope ss (name_meant scope name) h g
of_base_fits None base scope ss h g = of_part_fits base scope ss h g

-- ---- operators in front of an operand

prefix_fits : (at : ℕ) (p : PrefixOperator) (t : SplType) (y : SplType-F SplType) → out-SplType t ≡ y → Gives (λ x. UnaryGives x.0 t x.1) (prefix_typed at (level_prefix p y))
prefix_fits at P.Not t T.Bool e = subst (λ t. UnaryGives U.Not t S.Bool) (sym (rolled t T.Bool S.Bool e S.rolls-Bool)) F.inverts
prefix_fits at P.Negate t (T.Int k) e = subst (λ t. UnaryGives (U.Negate k) t (S.Int k)) (sym (rolled t (T.Int k) (S.Int k) e (S.rolls-Int k))) (F.negates k)
prefix_fits at P.Complement t (T.Int k) e = subst (λ t. UnaryGives (U.Complement k) t (S.Int k)) (sym (rolled t (T.Int k) (S.Int k) e (S.rolls-Int k))) (F.complements k)
prefix_fits at (P.Cast (G.Int k)) t (T.Int j) e = subst (λ t. UnaryGives (U.ToInteger k) t (S.Int k)) (sym (rolled t (T.Int j) (S.Int j) e (S.rolls-Int j))) (F.to_integer j k)
prefix_fits at (P.Cast G.Text) t (T.Int j) e = subst (λ t. UnaryGives U.ToText t S.Text) (sym (rolled t (T.Int j) (S.Int j) e (S.rolls-Int j))) (F.integer_text j)
prefix_fits at (P.Cast G.Text) t T.Bool e = subst (λ t. UnaryGives U.ToText t S.Text) (sym (rolled t T.Bool S.Bool e S.rolls-Bool)) F.bool_text
prefix_fits at _ t _ e = tt

prefixes_fit : (ps : List (Placed PrefixOperator)) (operand : ℕ) (t : SplType) → Gives (λ xs. UnariesGive xs.0 t xs.1) (prefixes_typed ps operand t)
prefixes_fit [] operand t = F.no_unary t
prefixes_fit (p ∷ ps) operand t =
    gives_after (λ xs. UnariesGive xs.0 t xs.1) (λ xs. UnariesGive xs.0 t xs.1) (prefixes_typed ps operand t) _ (prefixes_fit ps operand t) (λ xs inner.
    gives_after (λ x. UnaryGives x.0 xs.1 x.1) (λ xs. UnariesGive xs.0 t xs.1) (prefix_typed (prefixes_at ps operand) (level_prefix p.what (out-SplType xs.1))) _
    (prefix_fits (prefixes_at ps operand) p.what xs.1 (out-SplType xs.1) refl) (λ x one. F.outer x.0 xs.0 t xs.1 x.1 inner one))

unary_fits : (scope : Scope) (ps : List (Placed PrefixOperator)) (e : Placed Part) → Good scope e → Gives (Fits scope) (unary_typed scope ps e)
unary_fits scope ps e h =
    gives_after (Fits scope) (Fits scope) (part_typed e scope None) _ (good_any scope e h None) (λ x f.
    gives_after (λ xs. UnariesGive xs.0 x.kind xs.1) (Fits scope) (prefixes_typed ps e.at x.kind) _ (prefixes_fit ps e.at x.kind) (λ xs g.
    F.unary xs.0 x.code x.kind xs.1 f g))

-- ---- operators between two operands

-- where there is an operator, it gives a value of its type from two of this type
abbrev pub OnOperands : SplType → Option (BinaryCode × SplType) → Type 0
OnOperands t None = Unit {0}
OnOperands t (Some op) = BinaryGives op.0 t t op.1

integers_fit : (k : IntKind) (o : Option IntegerOperator) (r : Option OrderOperator) → OnOperands (S.Int k) (option_or (on_integers k o) (ordering_of r))
integers_fit k (Some op) r = F.integers op k
integers_fit k None (Some op) = F.orders_integers op k
integers_fit k None None = tt

texts_fit : (r : Option OrderOperator) → OnOperands S.Text (ordering_of r)
texts_fit (Some op) = F.orders_texts op
texts_fit None = tt

pub operator_fits : (op : BinaryOperator) (t : SplType) (y : SplType-F SplType) → out-SplType t ≡ y → OnOperands t (level_operator op y)
operator_fits B.Equal t y e = F.equals t
operator_fits B.NotEqual t y e = F.differs t
operator_fits B.And t T.Bool e = subst (λ t. BinaryGives D.And t t S.Bool) (sym (rolled t T.Bool S.Bool e S.rolls-Bool)) F.both
operator_fits B.Or t T.Bool e = subst (λ t. BinaryGives D.Or t t S.Bool) (sym (rolled t T.Bool S.Bool e S.rolls-Bool)) F.either
operator_fits B.Add t T.Text e = subst (λ t. BinaryGives D.Join t t S.Text) (sym (rolled t T.Text S.Text e S.rolls-Text)) F.joins
operator_fits op t (T.Int k) e =
    subst (λ t. OnOperands t (option_or (on_integers k (integer_operator op)) (ordering_of (order_operator op)))) (sym (rolled t (T.Int k) (S.Int k) e (S.rolls-Int k)))
    (integers_fit k (integer_operator op) (order_operator op))
operator_fits op t T.Text e = subst (λ t. OnOperands t (ordering_of (order_operator op))) (sym (rolled t T.Text S.Text e S.rolls-Text)) (texts_fit (order_operator op))
operator_fits _ t _ e = tt

pub operands_fit : (scope : Scope) (x : Typed) (left right : Placed Part) (o : Option (BinaryCode × SplType)) → Fits scope x → Good scope right → OnOperands x.kind o
    → Gives (Fits scope) (operands_typed scope x left right o)
operands_fit scope x left right None f h g = tt
operands_fit scope x left right (Some op) f h g =
    gives_after (FitsAt scope x.kind) (Fits scope) (part_typed right scope (Some x.kind)) _ (good_at scope right h x.kind) (λ y i.
    F.binary op.0 x.code y.code x.kind x.kind op.1 f i g)

in_fits : (scope : Scope) (x y : Typed) (at : ℕ) (z : SplType-F SplType) → out-SplType y.kind ≡ z → Fits scope x → Fits scope y → Gives (Fits scope) (level_in x y.code at z)
in_fits scope x y at (T.List t) e f g =
    gives_if (Fits scope) (same_types x.kind t) _ _ (λ same.
    F.binary D.InList x.code y.code t y.kind S.Bool (subst (CodeFits scope x.code) (equal_from_same x.kind t same) f) g
    (subst (λ u. BinaryGives D.InList t u S.Bool) (sym (rolled y.kind (T.List t) (S.List t) e (S.rolls-List t))) (F.in_list t))) tt
in_fits scope x y at (T.Map k t) e f g =
    gives_if (Fits scope) (same_types x.kind k) _ _ (λ same.
    F.binary D.InMap x.code y.code k y.kind S.Bool (subst (CodeFits scope x.code) (equal_from_same x.kind k same) f) g
    (subst (λ u. BinaryGives D.InMap k u S.Bool) (sym (rolled y.kind (T.Map k t) (S.Map k t) e (S.rolls-Map k t))) (F.in_map k t))) tt
in_fits scope x y at _ e f g = tt

of_operands_fits : (scope : Scope) (op : BinaryOperator) (left right : Placed Part) → Good scope left → Good scope right
    → Gives (Fits scope) (after (part_typed left scope None) (λ x. operands_typed scope x left right (level_operator op (out-SplType x.kind))))
of_operands_fits scope op left right h g =
    gives_after (Fits scope) (Fits scope) (part_typed left scope None) _ (good_any scope left h None) (λ x f.
    operands_fit scope x left right (level_operator op (out-SplType x.kind)) f g (operator_fits op x.kind (out-SplType x.kind) refl))

binary_fits : (scope : Scope) (op : BinaryOperator) (left right : Placed Part) → Good scope left → Good scope right → Gives (Fits scope) (binary_typed scope op left right)
binary_fits scope B.In left right h g =
    gives_after (Fits scope) (Fits scope) (part_typed left scope None) _ (good_any scope left h None) (λ x f.
    gives_after (Fits scope) (Fits scope) (part_typed right scope None) _ (good_any scope right g None) (λ y i.
    in_fits scope x y right.at (out-SplType y.kind) refl f i))
binary_fits scope op left right h g = of_operands_fits scope op left right h g

-- where a marker is asked for, its code fits
abbrev Asks : Scope → Option (Code Slot) → Type 0
Asks scope None = Unit {0}
Asks scope (Some code) = CodeFits scope code S.Bool

asks_fits : (scope : Scope) (asked : Bool) (op : BinaryOperator) (m : Option Marker) → (asked ≡ true → IsTrue scope.punct) → Asks scope (marker_asked asked op m)
asks_fits scope true B.Equal (Some m) h = F.is_marker m (h refl)
asks_fits scope true B.NotEqual (Some m) h = F.is_not_marker m (h refl)
asks_fits scope _ _ _ h = tt

binary_or_marker_fits : (o : Option (Code Slot)) (scope : Scope) (op : BinaryOperator) (left right : Placed Part) → Asks scope o → Good scope left → Good scope right
    → Gives (Fits scope) (binary_or_marker o scope op left right)
binary_or_marker_fits (Some code) scope op left right asks h g = asks
binary_or_marker_fits None scope op left right asks h g = binary_fits scope op left right h g

-- ---- the conditional

branch_fits : (scope : Scope) (wanted : Wanted) (t : SplType) (b : Placed Part) → Meets wanted t → Good scope b
    → Gives (FitsAt scope t) (part_typed b scope (branch_wanted wanted t))
branch_fits scope None t b meets h = good_at scope b h t
branch_fits scope (Some u) t b meets h = subst (λ t. Gives (FitsAt scope t) (part_typed b scope (Some u))) (sym meets) (good_at scope b h u)

conditional_fits : (scope : Scope) (wanted : Wanted) (c a b : Placed Part) → Good scope c → Good scope a → Good scope b → Gives (Fits scope) (conditional_typed scope wanted c a b)
conditional_fits scope wanted c a b f g h =
    gives_after (FitsAt scope S.Bool) (Fits scope) (part_typed c scope (Some S.Bool)) _ (good_at scope c f S.Bool) (λ x i.
    gives_after (λ y. MeetsIn wanted y × Fits scope y) (Fits scope) (part_typed a scope wanted) _
    (gives_both (MeetsIn wanted) (Fits scope) (part_typed a scope wanted) (g.0 a.at scope wanted) (g.1 a.at wanted)) (λ y j.
    gives_after (FitsAt scope y.kind) (Fits scope) (part_typed b scope (branch_wanted wanted y.kind)) _ (branch_fits scope wanted y.kind b j.0 h) (λ z k.
    F.conditional x.code y.code z.code y.kind i j.1 k)))

-- ---- calls

pub arguments_fit : (scope : Scope) (ts : List SplType) (es : List (Placed Part)) → length es ≡ length ts → AllByRecursion (Good scope) es
    → Gives (λ xs. ArgumentsFit scope xs ts) (arguments_typed scope ts es)
arguments_fit scope [] [] long h = F.no_arguments
arguments_fit scope (t ∷ ts) (e ∷ es) long h =
    gives_after (FitsAt scope t) (λ xs. ArgumentsFit scope xs (t ∷ ts)) (part_typed e scope (Some t)) _ (good_at scope e h.0 t) (λ x f.
    gives_after (λ xs. ArgumentsFit scope xs ts) (λ xs. ArgumentsFit scope xs (t ∷ ts)) (arguments_typed scope ts es) _ (arguments_fit scope ts es (omega arith) h.1) (λ xs g.
    F.argument x.code xs t ts f g))
arguments_fit scope [] (e ∷ es) long h = absurd (omega arith)
arguments_fit scope (t ∷ ts) [] long h = absurd (omega arith)

value_fits : (at : ℕ) (scope : Scope) (f : At Signature) (xs : List (Code Slot)) (o : Option SplType) → f.what.result ≡ o
    → slice_get scope.functions f.place ≡ Some f.what → ArgumentsFit scope xs f.what.parameters → Gives (Fits scope) (value_given at o (C.Call f.place xs))
value_fits at scope f xs None e h g = tt
value_fits at scope f xs (Some t) e h g = F.call f.place xs f.what t h e g

function_fits : (at : ℕ) (scope : Scope) (name : List ℕ) (es : List (Placed Part)) (o : Option (At Signature)) → Bears (λ f. f.name) scope.functions name o → AllByRecursion (Good scope) es
    → Gives (Fits scope) (function_typed at scope name es o)
function_fits at scope name es None h g = gives_no_call (Fits scope) at name (unresolved_of scope name)
function_fits at scope name es (Some f) h g =
    gives_if (Fits scope) (length es == length f.what.parameters) _ _ (λ same.
    gives_after (λ xs. ArgumentsFit scope xs f.what.parameters) (Fits scope) (arguments_typed scope f.what.parameters es) _
    (arguments_fit scope f.what.parameters es (eqb-true (length es) (length f.what.parameters) same) g)
    (λ xs i. value_fits at scope f xs f.what.result refl h.0 i)) tt

-- where a call is one on a first argument of this type, it gives a value of its type, and there are n others
abbrev OnFirstFits : SplType → ℕ → OnFirst → Type 0
OnFirstFits t n None = Unit {0}
OnFirstFits t n (Some on) = BuiltInGives on.0 (t ∷ on.2) on.1 × (length on.2 ≡ n)

on_first_fits : (call : CallName) (t : SplType) (y : SplType-F SplType) (n : ℕ) → out-SplType t ≡ y → argument_count call ≡ suc n → OnFirstFits t n (level_first call t y)
on_first_fits A.Size t (T.List u) n e count =
    (subst (λ t. BuiltInGives Q.Size (t ∷ []) int32) (sym (rolled t (T.List u) (S.List u) e (S.rolls-List u))) (F.list_size u), omega arith)
on_first_fits A.Size t (T.Map k u) n e count =
    (subst (λ t. BuiltInGives Q.Size (t ∷ []) int32) (sym (rolled t (T.Map k u) (S.Map k u) e (S.rolls-Map k u))) (F.map_size k u), omega arith)
on_first_fits A.Has t (T.Map k u) n e count =
    (subst (λ t. BuiltInGives Q.Has (t ∷ k ∷ []) S.Bool) (sym (rolled t (T.Map k u) (S.Map k u) e (S.rolls-Map k u))) (F.has k u), omega arith)
on_first_fits A.Abs t (T.Int k) n e count =
    (subst (λ t. BuiltInGives (Q.Abs k) (t ∷ []) t) (sym (rolled t (T.Int k) (S.Int k) e (S.rolls-Int k))) (F.abs k), omega arith)
on_first_fits A.Min t (T.Int k) n e count =
    (subst (λ t. BuiltInGives Q.Min (t ∷ t ∷ []) t) (sym (rolled t (T.Int k) (S.Int k) e (S.rolls-Int k))) (F.min_integer k), omega arith)
on_first_fits A.Min t T.Text n e count =
    (subst (λ t. BuiltInGives Q.Min (t ∷ t ∷ []) t) (sym (rolled t T.Text S.Text e S.rolls-Text)) F.min_text, omega arith)
on_first_fits A.Max t (T.Int k) n e count =
    (subst (λ t. BuiltInGives Q.Max (t ∷ t ∷ []) t) (sym (rolled t (T.Int k) (S.Int k) e (S.rolls-Int k))) (F.max_integer k), omega arith)
on_first_fits A.Max t T.Text n e count =
    (subst (λ t. BuiltInGives Q.Max (t ∷ t ∷ []) t) (sym (rolled t T.Text S.Text e S.rolls-Text)) F.max_text, omega arith)
on_first_fits _ t _ n e count = tt

first_fits : (at : ℕ) (scope : Scope) (x : Typed) (es : List (Placed Part)) (o : OnFirst) → Fits scope x → AllByRecursion (Good scope) es → OnFirstFits x.kind (length es) o
    → Gives (Fits scope) (first_typed at scope x.code es o)
first_fits at scope x es None f h g = tt
first_fits at scope x es (Some on) f h g =
    gives_after (λ xs. ArgumentsFit scope xs on.2) (Fits scope) (arguments_typed scope on.2 es) _ (arguments_fit scope on.2 es (sym g.1) h) (λ xs i.
    F.built_in on.0 (x.code ∷ xs) (x.kind ∷ on.2) on.1 (F.argument x.code xs x.kind on.2 f i) g.0)

on_argument_fits : (at : ℕ) (scope : Scope) (call : CallName) (e : Placed Part) (es : List (Placed Part)) → length (e ∷ es) ≡ argument_count call → Good scope e → AllByRecursion (Good scope) es
    → Gives (Fits scope) (after (part_typed e scope None) (λ x. first_typed at scope x.code es (level_first call x.kind (out-SplType x.kind))))
on_argument_fits at scope call e es long g h =
    gives_after (Fits scope) (Fits scope) (part_typed e scope None) _ (good_any scope e g None) (λ x f.
    first_fits at scope x es (level_first call x.kind (out-SplType x.kind)) f h (on_first_fits call x.kind (out-SplType x.kind) (length es) refl (sym long)))

fixed_fits : (scope : Scope) (call : BuiltIn) (t : SplType) (ts : List SplType) (es : List (Placed Part)) → length es ≡ length ts → AllByRecursion (Good scope) es → BuiltInGives call ts t
    → Gives (Fits scope) (fixed_typed scope call t ts es)
fixed_fits scope call t ts es long h g =
    gives_after (λ xs. ArgumentsFit scope xs ts) (Fits scope) (arguments_typed scope ts es) _ (arguments_fit scope ts es long h) (λ xs f. F.built_in call xs ts t f g)

no_value_fits : (scope : Scope) (at : ℕ) (found : Found (List (Code Slot))) → Gives (Fits scope) (no_value at found)
no_value_fits scope at found = gives_after Some_thing (Fits scope) found (λ xs. mismatch at) (gives_some found) (λ xs s. tt)

arguments_of_fit : (at : ℕ) (scope : Scope) (call : CallName) (es : List (Placed Part)) → length es ≡ argument_count call → AllByRecursion (Good scope) es
    → Gives (Fits scope) (arguments_of at scope call es)
arguments_of_fit at scope A.Length es long h = fixed_fits scope Q.Length int32 (S.Text ∷ []) es long h F.text_length
arguments_of_fit at scope A.Substring es long h = fixed_fits scope Q.Substring S.Text (S.Text ∷ int32 ∷ int32 ∷ []) es long h F.substring
arguments_of_fit at scope A.CurrentPunct es long h = tt
arguments_of_fit at scope A.AppendM (e ∷ es) long h = no_value_fits scope at _
arguments_of_fit at scope A.RemoveM (e ∷ es) long h = no_value_fits scope at _
arguments_of_fit at scope A.ClearM (e ∷ es) long h = no_value_fits scope at _
arguments_of_fit at scope A.Size (e ∷ es) long h = on_argument_fits at scope A.Size e es long h.0 h.1
arguments_of_fit at scope A.Has (e ∷ es) long h = on_argument_fits at scope A.Has e es long h.0 h.1
arguments_of_fit at scope A.Abs (e ∷ es) long h = on_argument_fits at scope A.Abs e es long h.0 h.1
arguments_of_fit at scope A.Min (e ∷ es) long h = on_argument_fits at scope A.Min e es long h.0 h.1
arguments_of_fit at scope A.Max (e ∷ es) long h = on_argument_fits at scope A.Max e es long h.0 h.1
arguments_of_fit at scope _ [] long h = tt

pub built_in_fits : (at : ℕ) (scope : Scope) (call : CallName) (es : List (Placed Part)) → AllByRecursion (Good scope) es → Gives (Fits scope) (built_in_typed at scope call es)
built_in_fits at scope call es h =
    gives_if (Fits scope) (length es == argument_count call) _ _ (λ same. arguments_of_fit at scope call es (eqb-true (length es) (argument_count call) same) h) tt

call_fits : (at : ℕ) (scope : Scope) (name : List ℕ) (es : List (Placed Part)) (o : Option CallName) → AllByRecursion (Good scope) es
    → Gives (Fits scope) (call_typed at scope name es o)
call_fits at scope name es (Some call) h = built_in_fits at scope call es h
call_fits at scope name es None h = function_fits at scope name es (function_of scope name) (function_there scope name) h

-- ---- expressions

module _ (scope : Scope) (fine : DollarsFit scope.dollars) where
  -- what is known of the parts of an expression, as its parts
  good_part : (e : Expr) → Sound scope (part e.what).1 → Good scope (part_of e)
  good_part e h = (keeps e.what, h)

  abbrev IsSound : ExprKind → Type 0
  IsSound e = Sound scope (part e).1

  good_parts : (es : List Expr) → AllByRecursion (OfExpr IsSound) es → AllByRecursion (Good scope) (map part_of es)
  good_parts [] h = tt
  good_parts (e ∷ es) h = (good_part e h.0, good_parts es h.1)

  good_entries : (es : List (Expr × Expr)) → AllByRecursion (OfEntry IsSound) es → AllByRecursion (GoodEntry scope) (map (λ e. (part_of e.0, part_of e.1)) es)
  good_entries [] h = tt
  good_entries (e ∷ es) h = ((good_part e.0 h.0.0, good_part e.1 h.0.1), good_entries es h.1)

  abbrev part_in : Field Expr → Field (Placed Part)
  part_in f = record { name = f.name; value = part_of f.value }

  good_fields : (fs : List (Field Expr)) → AllByRecursion (OfField IsSound) fs → AllByRecursion (GoodField scope) (map part_in fs)
  good_fields [] h = tt
  good_fields (f ∷ fs) h = (good_part f.value h.0, good_fields fs h.1)

  -- for a function that keeps members and maps the expression of an index
  good_step : (g : Step Expr → Step (Placed Part)) → ((m : Placed (List ℕ)) → N.Member m ≡ g (N.Member m)) → ((e : Expr) → N.Index (part_of e) ≡ g (N.Index e))
      → (s : Step Expr) → OfStep IsSound s → GoodStep scope (g s)
  good_step g members indices (N.Member m) h = subst (GoodStep scope) (members m) tt
  good_step g members indices (N.Index e) h = subst (GoodStep scope) (indices e) (good_part e h)

  good_steps : (g : Step Expr → Step (Placed Part)) → ((m : Placed (List ℕ)) → N.Member m ≡ g (N.Member m)) → ((e : Expr) → N.Index (part_of e) ≡ g (N.Index e))
      → (ss : List (Step Expr)) → AllByRecursion (OfStep IsSound) ss → AllByRecursion (GoodStep scope) (map g ss)
  good_steps g members indices [] h = tt
  good_steps g members indices (s ∷ ss) h = (good_step g members indices s h.0, good_steps g members indices ss h.1)

  -- what a `$` parameter means fits everywhere
  dollar_fits : (at : ℕ) (name : List ℕ) (o : Option (Found Typed)) → dollar_of scope.dollars name ≡ o → Gives (Fits scope) (dollar_typed at name o)
  dollar_fits at name None is = tt
  dollar_fits at name (Some (Ok t)) is = closed_law scope t.code t.kind (fine name t is)
  dollar_fits at name (Some (Err refusal)) is = tt

  number_fits : (at : ℕ) (n : Number) → Gives (Fits scope) (number_typed at n)
  number_fits at n =
      gives_if (Fits scope) (nat_lt n.value (top n.kind)) _ _ (λ below.
      F.literal (V.Int (pos n.value)) (S.Int n.kind) (fits_int n.kind (pos n.value) ∙ below)) tt

  select_sound : (e : Expr) (ss : List (Step Expr)) → IsSound e.what → AllByRecursion (OfStep IsSound) ss → Sound scope (level_typed (map-ExprKind ExprKind Part part (X.Select e ss)))
  select_sound e ss h g at wanted =
      let name = name_of e.what in
      after_fits at scope wanted (of_base name (part_of e) scope _) (of_base_fits name (part_of e) scope _ (good_part e h) (good_steps _ (λ m. refl) (λ i. refl) ss g))

  binary_sound : (op : BinaryOperator) (l r : Expr) → IsSound l.what → IsSound r.what → Sound scope (level_typed (map-ExprKind ExprKind Part part (X.Binary op l r)))
  binary_sound op l r h g at wanted =
      let asks = asks_punct l.what in
      let marker = named_marker r.what in
      let asked = marker_asked (scope.punct && asks) op marker in
      after_fits at scope wanted (binary_or_marker asked scope op (part_of l) (part_of r))
      (binary_or_marker_fits asked scope op (part_of l) (part_of r) (asks_fits scope (scope.punct && asks) op marker (λ yes. first_so scope.punct asks yes)) (good_part l h) (good_part r g))

  fit_steps : ExprSteps IsSound
  fit_steps = record {
    name = λ n. subst (Sound scope) (part_at (E.Name n) (X.Name n) (E.outs-Name n)) (λ at wanted. after_fits at scope wanted (meant_typed at n (meant scope n)) (name_fits scope at n));
    dollar = λ n. subst (Sound scope) (part_at (E.Dollar n) (X.Dollar n) (E.outs-Dollar n)) (λ at wanted. after_fits at scope wanted (dollar_typed at n (dollar_of scope.dollars n)) (dollar_fits at n (dollar_of scope.dollars n) refl));
    number = λ n. subst (Sound scope) (part_at (E.Number n) (X.Number n) (E.outs-Number n)) (λ at wanted. after_fits at scope wanted (number_typed at n) (number_fits at n));
    text = λ bytes. subst (Sound scope) (part_at (E.Text bytes) (X.Text bytes) (E.outs-Text bytes)) (λ at wanted.
        as_wanted_fits at scope wanted (typed S.Text (C.Literal (V.Text bytes))) (F.literal (V.Text bytes) S.Text (fits_text bytes)));
    bool = λ b. subst (Sound scope) (part_at (E.Bool b) (X.Bool b) (E.outs-Bool b)) (λ at wanted.
        as_wanted_fits at scope wanted (typed S.Bool (C.Literal (V.Bool b))) (F.literal (V.Bool b) S.Bool (fits_bool b)));
    group = λ e h. subst (Sound scope) (part_at (E.Group e) (X.Group e) (E.outs-Group e)) (λ at wanted. h e.at wanted);
    list = λ es h. subst (Sound scope) (part_at (E.List es) (X.List es) (E.outs-List es)) (λ at wanted.
        list_fits at scope (wants_list wanted) (map part_of es) (good_parts es h));
    map_of = λ es h. subst (Sound scope) (part_at (E.Map es) (X.Map es) (E.outs-Map es)) (λ at wanted.
        map_fits at scope (wants_map wanted) (map (λ e. (part_of e.0, part_of e.1)) es) (good_entries es h));
    tuple = λ fs h. subst (Sound scope) (part_at (E.Tuple fs) (X.Tuple fs) (E.outs-Tuple fs)) (λ at wanted.
        tuple_fits at scope (wants_tuple wanted) (map part_in fs) (good_fields fs h));
    call = λ n es h. subst (Sound scope) (part_at (E.Call n es) (X.Call n es) (E.outs-Call n es)) (λ at wanted.
        after_fits at scope wanted (call_typed at scope n (map part_of es) (call_of n)) (call_fits at scope n (map part_of es) (call_of n) (good_parts es h)));
    select = λ e ss h g. subst (Sound scope) (part_at (E.Select e ss) (X.Select e ss) (E.outs-Select e ss)) (select_sound e ss h g);
    unary = λ ps e h. subst (Sound scope) (part_at (E.Unary ps e) (X.Unary ps e) (E.outs-Unary ps e)) (λ at wanted.
        after_fits at scope wanted (unary_typed scope ps (part_of e)) (unary_fits scope ps (part_of e) (good_part e h)));
    binary = λ op l r h g. subst (Sound scope) (part_at (E.Binary op l r) (X.Binary op l r) (E.outs-Binary op l r)) (binary_sound op l r h g);
    conditional = λ c a b f g h. subst (Sound scope) (part_at (E.Conditional c a b) (X.Conditional c a b) (E.outs-Conditional c a b)) (λ at wanted.
        conditional_fits scope wanted (part_of c) (part_of a) (part_of b) (good_part c f) (good_part a g) (good_part b h));
  }

  sound : (e : ExprKind) → Sound scope (part e).1
  sound = expr_ind IsSound fit_steps

  -- an expression, as a part of another or of a statement
  pub good : (e : Expr) → Good scope (part_of e)
  good e = good_part e (sound e.what)

  pub all_good : (es : List Expr) → AllByRecursion (Good scope) (map part_of es)
  all_good [] = tt
  all_good (e ∷ es) = (good e, all_good es)

pub fit_law : FitLaw
fit_law scope e wanted t fine found = gives_from (Fits scope) (typing scope e wanted) t (good_any scope (part_of e) (good scope fine e) wanted) found
