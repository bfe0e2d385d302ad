-- Which codes fit a scope: each name in one means something of the scope, and each part of it has a type that what is
-- done with it wants. Each constructor is a rule of the language. An evaluation of a code that fits never meets a name
-- without a value, nor a value of another type than its place wants.
use Rattle.std.specs.Prelude.{◌≡◌, ◌⊎◌, ◌<◌, ◌==◌, ℕ, IsTrue, List, [], ◌∷◌, length, slice_get, Some}
use Rattle.std.specs.List.{count_by}
use Rattle.spl_value.specs.declared.types.IntKind.{IntKind}
use Rattle.spl_value.specs.declared.types.IntKind.TheVariants.{I32}
use Rattle.spl_value.specs.declared.types.Named.{Named}
use Rattle.spl_value.specs.declared.types.SplType.{SplType}
use Rattle.spl_value.specs.declared.types.SplType.TheVariants as S
use Rattle.spl_value.specs.declared.value.Value.{Value}
use Rattle.spl_value.specs.Values.{fits}
use Rattle.spl_tree.specs.declared.code.Code.{Code}
use Rattle.spl_tree.specs.declared.code.Code.TheVariants as C
use Rattle.spl_tree.specs.declared.code.Slot.{Slot}
use Rattle.spl_tree.specs.declared.code.Slot.TheVariants as L
use Rattle.spl_tree.specs.declared.code.Selector.{Selector}
use Rattle.spl_tree.specs.declared.code.Selector.TheVariants as K
use Rattle.spl_tree.specs.declared.code.UnaryCode.{UnaryCode}
use Rattle.spl_tree.specs.declared.code.UnaryCode.TheVariants as U
use Rattle.spl_tree.specs.declared.code.BinaryCode.{BinaryCode}
use Rattle.spl_tree.specs.declared.code.BinaryCode.TheVariants as D
use Rattle.spl_tree.specs.declared.code.IntegerOperator.{IntegerOperator}
use Rattle.spl_tree.specs.declared.code.OrderOperator.{OrderOperator}
use Rattle.spl_tree.specs.declared.code.BuiltIn.{BuiltIn}
use Rattle.spl_tree.specs.declared.code.BuiltIn.TheVariants as Q
use Rattle.spl_tree.specs.declared.code.Marker.{Marker}
use Rattle.language_model.specs.declared.scope.Port.{Port}
use Rattle.language_model.specs.declared.scope.Scope.{Scope}
use Rattle.language_model.specs.declared.scope.Signature.{Signature}
use Rattle.language_model.specs.declared.scope.Variable.{Variable}
use Rattle.language_model.specs.Scopes.{at_place, variable_of, attribute_of, OfAttribute, OfPort, meant}

-- an attribute's own name means it, or its port's name means the port, and the attribute is named after that
abbrev pub CanBeNamed : Scope → ℕ → ℕ → Port → Named SplType → Type 0
CanBeNamed scope i j p a =
    (meant scope a.name ≡ OfAttribute (record { port = i; attribute = j; kind = a.kind })) ⊎ (meant scope p.name ≡ OfPort (at_place i p))

-- what stands at a slot is in the scope, has the type, and can be named there. So a variable has no slot where a later one
-- has its name, and a port has none where a variable, an attribute or an earlier port has its name. An attribute of such a
-- port has one only where its own name means it
pub data SlotFits (scope : Scope) : Slot → SplType → Type 0 where
  variable : (i : ℕ) (v : Variable) → slice_get scope.vars i ≡ Some v → variable_of scope v.name ≡ Some (at_place i v)
      → SlotFits scope (L.Variable i) v.kind
  attribute : (i j : ℕ) (p : Port) (a : Named SplType) → slice_get scope.ports i ≡ Some p → slice_get p.schema j ≡ Some a
      → attribute_of p.schema a.name ≡ Some (at_place j a) → CanBeNamed scope i j p a → SlotFits scope (L.Attribute i j) a.kind
  port : (i : ℕ) (p : Port) → slice_get scope.ports i ≡ Some p → meant scope p.name ≡ OfPort (at_place i p)
      → SlotFits scope (L.Port i) (S.Tuple p.schema)

-- an operator or a cast makes of a value of one type one of another
pub data UnaryGives : UnaryCode → SplType → SplType → Type 0 where
  inverts : UnaryGives U.Not S.Bool S.Bool
  negates : (k : IntKind) → UnaryGives (U.Negate k) (S.Int k) (S.Int k)
  complements : (k : IntKind) → UnaryGives (U.Complement k) (S.Int k) (S.Int k)
  to_integer : (j k : IntKind) → UnaryGives (U.ToInteger k) (S.Int j) (S.Int k)
  integer_text : (k : IntKind) → UnaryGives U.ToText (S.Int k) S.Text
  bool_text : UnaryGives U.ToText S.Bool S.Text

-- several do, the outermost first
pub data UnariesGive : List UnaryCode → SplType → SplType → Type 0 where
  no_unary : (t : SplType) → UnariesGive [] t t
  outer : (op : UnaryCode) (ops : List UnaryCode) (t u v : SplType) → UnariesGive ops t u → UnaryGives op u v → UnariesGive (op ∷ ops) t v

-- an operator makes of values of two types one of a third
pub data BinaryGives : BinaryCode → SplType → SplType → SplType → Type 0 where
  integers : (op : IntegerOperator) (k : IntKind) → BinaryGives (D.Integers op k) (S.Int k) (S.Int k) (S.Int k)
  joins : BinaryGives D.Join S.Text S.Text S.Text
  orders_integers : (op : OrderOperator) (k : IntKind) → BinaryGives (D.Order op) (S.Int k) (S.Int k) S.Bool
  orders_texts : (op : OrderOperator) → BinaryGives (D.Order op) S.Text S.Text S.Bool
  equals : (t : SplType) → BinaryGives D.Equal t t S.Bool
  differs : (t : SplType) → BinaryGives D.NotEqual t t S.Bool
  both : BinaryGives D.And S.Bool S.Bool S.Bool
  either : BinaryGives D.Or S.Bool S.Bool S.Bool
  in_list : (t : SplType) → BinaryGives D.InList t (S.List t) S.Bool
  in_map : (k t : SplType) → BinaryGives D.InMap k (S.Map k t) S.Bool

-- a call makes of values of these types one of a type
pub data BuiltInGives : BuiltIn → List SplType → SplType → Type 0 where
  text_length : BuiltInGives Q.Length (S.Text ∷ []) (S.Int I32)
  list_size : (t : SplType) → BuiltInGives Q.Size (S.List t ∷ []) (S.Int I32)
  map_size : (k t : SplType) → BuiltInGives Q.Size (S.Map k t ∷ []) (S.Int I32)
  has : (k t : SplType) → BuiltInGives Q.Has (S.Map k t ∷ k ∷ []) S.Bool
  abs : (k : IntKind) → BuiltInGives (Q.Abs k) (S.Int k ∷ []) (S.Int k)
  min_integer : (k : IntKind) → BuiltInGives Q.Min (S.Int k ∷ S.Int k ∷ []) (S.Int k)
  min_text : BuiltInGives Q.Min (S.Text ∷ S.Text ∷ []) S.Text
  max_integer : (k : IntKind) → BuiltInGives Q.Max (S.Int k ∷ S.Int k ∷ []) (S.Int k)
  max_text : BuiltInGives Q.Max (S.Text ∷ S.Text ∷ []) S.Text
  substring : BuiltInGives Q.Substring (S.Text ∷ S.Int I32 ∷ S.Int I32 ∷ []) S.Text

-- of these fields, each place of a tuple has one
abbrev pub OneEach : ℕ → List (ℕ × Code Slot) → Type 0
OneEach places fs = (i : ℕ) → i < places → count_by (λ f. f.0 == i) fs ≡ 1

mutual
  -- a code fits a scope at a type
  pub data CodeFits (scope : Scope) : Code Slot → SplType → Type 0 where
    literal : (v : Value) (t : SplType) → IsTrue (fits t v) → CodeFits scope (C.Literal v) t
    name : (s : Slot) (t : SplType) → SlotFits scope s t → CodeFits scope (C.Name s) t
    list : (xs : List (Code Slot)) (t : SplType) → ElementsFit scope xs t → CodeFits scope (C.List xs) (S.List t)
    map : (xs : List (Code Slot × Code Slot)) (k t : SplType) → PairsFit scope xs k t → CodeFits scope (C.Map xs) (S.Map k t)
    tuple : (fs : List (ℕ × Code Slot)) (schema : List (Named SplType)) → FieldsFit scope fs schema → OneEach (length schema) fs
        → CodeFits scope (C.Tuple fs) (S.Tuple schema)
    select : (x : Code Slot) (steps : List (Selector (Code Slot))) (t u : SplType) → CodeFits scope x t → StepsLead scope steps t u
        → CodeFits scope (C.Select x steps) u
    unary : (ops : List UnaryCode) (x : Code Slot) (t u : SplType) → CodeFits scope x t → UnariesGive ops t u → CodeFits scope (C.Unary ops x) u
    binary : (op : BinaryCode) (x y : Code Slot) (t u r : SplType) → CodeFits scope x t → CodeFits scope y u → BinaryGives op t u r
        → CodeFits scope (C.Binary op x y) r
    conditional : (c x y : Code Slot) (t : SplType) → CodeFits scope c S.Bool → CodeFits scope x t → CodeFits scope y t
        → CodeFits scope (C.Conditional c x y) t
    built_in : (call : BuiltIn) (xs : List (Code Slot)) (ts : List SplType) (t : SplType) → ArgumentsFit scope xs ts → BuiltInGives call ts t
        → CodeFits scope (C.BuiltIn call xs) t
    call : (i : ℕ) (xs : List (Code Slot)) (f : Signature) (t : SplType) → slice_get scope.functions i ≡ Some f → f.result ≡ Some t
        → ArgumentsFit scope xs f.parameters → CodeFits scope (C.Call i xs) t
    is_marker : (m : Marker) → IsTrue scope.punct → CodeFits scope (C.IsMarker m) S.Bool
    is_not_marker : (m : Marker) → IsTrue scope.punct → CodeFits scope (C.IsNotMarker m) S.Bool

  -- each of them fits at the type
  pub data ElementsFit (scope : Scope) : List (Code Slot) → SplType → Type 0 where
    no_elements : (t : SplType) → ElementsFit scope [] t
    element : (x : Code Slot) (xs : List (Code Slot)) (t : SplType) → CodeFits scope x t → ElementsFit scope xs t → ElementsFit scope (x ∷ xs) t

  -- each key and each value fits at its type
  pub data PairsFit (scope : Scope) : List (Code Slot × Code Slot) → SplType → SplType → Type 0 where
    no_pairs : (k t : SplType) → PairsFit scope [] k t
    pair : (x y : Code Slot) (xs : List (Code Slot × Code Slot)) (k t : SplType) → CodeFits scope x k → CodeFits scope y t → PairsFit scope xs k t
        → PairsFit scope ((x, y) ∷ xs) k t

  -- the place of each field is one of the tuple, and its value fits at the type there
  pub data FieldsFit (scope : Scope) : List (ℕ × Code Slot) → List (Named SplType) → Type 0 where
    no_fields : (schema : List (Named SplType)) → FieldsFit scope [] schema
    field : (i : ℕ) (x : Code Slot) (fs : List (ℕ × Code Slot)) (schema : List (Named SplType)) (a : Named SplType) → slice_get schema i ≡ Some a
        → CodeFits scope x a.kind → FieldsFit scope fs schema → FieldsFit scope ((i, x) ∷ fs) schema

  -- there are as many as types, and each fits at its own
  pub data ArgumentsFit (scope : Scope) : List (Code Slot) → List SplType → Type 0 where
    no_arguments : ArgumentsFit scope [] []
    argument : (x : Code Slot) (xs : List (Code Slot)) (t : SplType) (ts : List SplType) → CodeFits scope x t → ArgumentsFit scope xs ts
        → ArgumentsFit scope (x ∷ xs) (t ∷ ts)

  -- what is taken in turn leads from a value of one type to one of another
  pub data StepsLead (scope : Scope) : List (Selector (Code Slot)) → SplType → SplType → Type 0 where
    here : (t : SplType) → StepsLead scope [] t t
    member : (i : ℕ) (steps : List (Selector (Code Slot))) (schema : List (Named SplType)) (a : Named SplType) (u : SplType) → slice_get schema i ≡ Some a
        → StepsLead scope steps a.kind u → StepsLead scope (K.Member i ∷ steps) (S.Tuple schema) u
    index : (x : Code Slot) (steps : List (Selector (Code Slot))) (k : IntKind) (t u : SplType) → CodeFits scope x (S.Int k)
        → StepsLead scope steps t u → StepsLead scope (K.Element x ∷ steps) (S.List t) u
    at_key : (x : Code Slot) (steps : List (Selector (Code Slot))) (k t u : SplType) → CodeFits scope x k
        → StepsLead scope steps t u → StepsLead scope (K.AtKey x ∷ steps) (S.Map k t) u
