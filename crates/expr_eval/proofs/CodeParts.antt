-- What the parts of a code that fits fit in its environment, and each of a row.
use Rattle.std.specs.Prelude.{◌≡◌, ◌<◌, ℕ, zero, suc, IsTrue, List, length, Some, slice_get}
use Rattle.std.proofs.Common.{sym, ap, ◌∙◌, subst}
use Rattle.std.proofs.lemmas.Option.{slice_get_within}
use Rattle.spl_value.specs.declared.types.Named.{Named}
use Rattle.spl_value.specs.declared.types.SplType.{SplType}
use Rattle.spl_value.specs.declared.types.SplType.TheVariants as S
use Rattle.spl_value.specs.declared.value.Value.{Value}
use Rattle.spl_value.specs.Values.{fits}
use Rattle.spl_tree.specs.declared.code.Code.{Code}
use Rattle.spl_tree.specs.declared.code.Code.TheVariants as C
use Rattle.spl_tree.specs.declared.code.Code.TheOpen as O
use Rattle.spl_tree.specs.declared.code.Code.TheOpen.{Code-F}
use Rattle.spl_tree.specs.declared.code.Code.TheViews.{out-Code}
use Rattle.spl_tree.specs.declared.code.Slot.{Slot}
use Rattle.spl_tree.specs.declared.code.Selector.{Selector}
use Rattle.spl_tree.specs.declared.body.Function.{Function}
use Rattle.spl_tree.specs.declared.code.Marker.{Marker}
use Rattle.spl_tree.specs.declared.code.UnaryCode.{UnaryCode}
use Rattle.spl_tree.specs.declared.code.BinaryCode.{BinaryCode}
use Rattle.spl_tree.specs.declared.code.BuiltIn.{BuiltIn}
use Rattle.language_model.specs.declared.env.Env.{Env}
use Rattle.language_model.specs.declared.scope.Scope.{Scope}
use Rattle.language_model.specs.declared.scope.Signature.{Signature}
use Rattle.language_model.specs.CodeFits as F
use Rattle.language_model.specs.CodeFits.{CodeFits, ElementsFit, PairsFit, FieldsFit, ArgumentsFit, UnariesGive, BinaryGives, BuiltInGives, OneEach}
use Rattle.language_model.specs.WorldFits.{Fits}
use Rattle.value_operations.specs.Fitting.{HasSlot, HasMarker}
use Rattle.expr_eval.specs.Fitting.{IsFit, AreFit, PairsAreFit, FieldsAreFit, FitTakings}
use Rattle.language_model.proofs.CodeParts.{Parts, parts}
use Rattle.expr_eval.proofs.Placing.{PlacesBelow, as_many, place_below}

-- what fits in a row is of a kind at which something fits
module _ (scope : Scope) where
  elements_at : (xs : List (Code Slot)) (t : SplType) → ElementsFit scope xs t → (i : ℕ) (x : Code Slot) → slice_get xs i ≡ Some x → CodeFits scope x t
  elements_at _ _ (F.no_elements t) i x e = absurd cc
  elements_at _ _ (F.element y ys t f h) zero x e = subst (λ y. CodeFits scope y t) (let s : y ≡ x = cc in s) f
  elements_at _ _ (F.element y ys t f h) (suc i) x e = elements_at ys t h i x e

  pub arguments_at : (xs : List (Code Slot)) (ts : List SplType) → ArgumentsFit scope xs ts → (i : ℕ) (x : Code Slot) → slice_get xs i ≡ Some x
      → (t : SplType) × CodeFits scope x t
  arguments_at _ _ F.no_arguments i x e = absurd cc
  arguments_at _ _ (F.argument y ys t ts f h) zero x e = (t, subst (λ y. CodeFits scope y t) (let s : y ≡ x = cc in s) f)
  arguments_at _ _ (F.argument y ys t ts f h) (suc i) x e = arguments_at ys ts h i x e

  pairs_at : (xs : List (Code Slot × Code Slot)) (k t : SplType) → PairsFit scope xs k t → (i : ℕ) (p : Code Slot × Code Slot) → slice_get xs i ≡ Some p
      → CodeFits scope p.0 k × CodeFits scope p.1 t
  pairs_at _ _ _ (F.no_pairs k t) i p e = absurd cc
  pairs_at _ _ _ (F.pair x y xs k t f g h) zero p e =
      subst (λ (p : Code Slot × Code Slot). CodeFits scope p.0 k × CodeFits scope p.1 t) (let s : (x, y) ≡ p = cc in s) (f, g)
  pairs_at _ _ _ (F.pair x y xs k t f g h) (suc i) p e = pairs_at xs k t h i p e

  fields_at : (fs : List (ℕ × Code Slot)) (schema : List (Named SplType)) → FieldsFit scope fs schema → (i : ℕ) (f : ℕ × Code Slot) → slice_get fs i ≡ Some f
      → (t : SplType) × CodeFits scope f.1 t
  fields_at _ _ (F.no_fields schema) i f e = absurd cc
  fields_at _ _ (F.field j x fs schema a at g h) zero f e =
      (a.kind, subst (λ (f : ℕ × Code Slot). CodeFits scope f.1 a.kind) (let s : (j, x) ≡ f = cc in s) g)
  fields_at _ _ (F.field j x fs schema a at g h) (suc i) f e = fields_at fs schema h i f e

  places_within : (fs : List (ℕ × Code Slot)) (schema : List (Named SplType)) → FieldsFit scope fs schema → PlacesBelow (length schema) fs
  places_within _ _ (F.no_fields schema) = tt
  places_within _ _ (F.field j x fs schema a at g h) = (slice_get_within schema j a at, places_within fs schema h)

module _ (functions : List Function) (env : Env) where
  -- another code that fits the same scope
  pub in_scope : (x y : Code Slot) (t u : SplType) (f : Fits functions x env t) → CodeFits f.scope y u → Fits functions y env u
  in_scope x y t u f h = record { scope = f.scope; code_fits = h; env_fits = f.env_fits; functions_fit = f.functions_fit }

  module _ (code : Code Slot) (h : IsFit functions code env) where
    parts_of : (y : Code-F Slot (Code Slot)) → out-Code Slot code ≡ y → Parts h.1.scope y h.0
    parts_of y e = subst (λ y. Parts h.1.scope y h.0) e (parts h.1.scope code h.0 h.1.code_fits)

    part : (x : Code Slot) (t : SplType) → CodeFits h.1.scope x t → Fits functions x env t
    part x t f = in_scope code x h.0 t h.1 f

    pub literal_fits : (v : Value) → code ≡ C.Literal v → IsTrue (fits h.0 v)
    literal_fits v is = parts_of (O.Literal v) (ap (out-Code Slot) is ∙ C.outs-Literal v)

    pub has_slot : (s : Slot) → code ≡ C.Name s → HasSlot env s
    has_slot s is = (h.1.scope, h.0, parts_of (O.Name s) (ap (out-Code Slot) is ∙ C.outs-Name s), h.1.env_fits)

    pub list_is_fit : (xs : List (Code Slot)) → code ≡ C.List xs → AreFit functions xs env
    list_is_fit xs is i x e =
        let p : Parts h.1.scope (O.List xs) h.0 = parts_of (O.List xs) (ap (out-Code Slot) is ∙ C.outs-List xs) in
        (p.0, part x p.0 (elements_at h.1.scope xs p.0 p.1 i x e))

    pub map_is_fit : (xs : List (Code Slot × Code Slot)) → code ≡ C.Map xs → PairsAreFit functions xs env
    map_is_fit xs is i x e =
        let p : Parts h.1.scope (O.Map xs) h.0 = parts_of (O.Map xs) (ap (out-Code Slot) is ∙ C.outs-Map xs) in
        let both = pairs_at h.1.scope xs p.0 p.1 p.2 i x e in
        ((p.0, part x.0 p.0 both.0), (p.1, part x.1 p.1 both.1))

    pub tuple_is_fit : (fs : List (ℕ × Code Slot)) → code ≡ C.Tuple fs → FieldsAreFit functions fs env
    tuple_is_fit fs is i f e =
        let p : Parts h.1.scope (O.Tuple fs) h.0 = parts_of (O.Tuple fs) (ap (out-Code Slot) is ∙ C.outs-Tuple fs) in
        let at = fields_at h.1.scope fs p.0 p.1 i f e in
        (at.0, part f.1 at.0 at.1)

    pub built_in_is_fit : (call : BuiltIn) (xs : List (Code Slot)) → code ≡ C.BuiltIn call xs → AreFit functions xs env
    built_in_is_fit call xs is i x e =
        let p : Parts h.1.scope (O.BuiltIn call xs) h.0 = parts_of (O.BuiltIn call xs) (ap (out-Code Slot) is ∙ C.outs-BuiltIn call xs) in
        let at = arguments_at h.1.scope xs p.0 p.1 i x e in
        (at.0, part x at.0 at.1)

    pub call_is_fit : (place : ℕ) (xs : List (Code Slot)) → code ≡ C.Call place xs → AreFit functions xs env
    call_is_fit place xs is i x e =
        let p : Parts h.1.scope (O.Call place xs) h.0 = parts_of (O.Call place xs) (ap (out-Code Slot) is ∙ C.outs-Call place xs) in
        let at = arguments_at h.1.scope xs p.0.parameters p.3 i x e in
        (at.0, part x at.0 at.1)

    pub select_parts : (x : Code Slot) (steps : List (Selector (Code Slot))) → code ≡ C.Select x steps
        → (t : SplType) × Fits functions x env t × ((v : Value) → IsTrue (fits t v) → FitTakings functions steps env v)
    select_parts x steps is =
        let p : Parts h.1.scope (O.Select x steps) h.0 = parts_of (O.Select x steps) (ap (out-Code Slot) is ∙ C.outs-Select x steps) in
        (p.0, part x p.0 p.1, λ v f. (h.1.scope, p.0, h.0, p.2, f, h.1.env_fits, h.1.functions_fit))

    pub unary_parts : (ops : List UnaryCode) (x : Code Slot) → code ≡ C.Unary ops x → (t : SplType) × Fits functions x env t × UnariesGive ops t h.0
    unary_parts ops x is =
        let p : Parts h.1.scope (O.Unary ops x) h.0 = parts_of (O.Unary ops x) (ap (out-Code Slot) is ∙ C.outs-Unary ops x) in
        (p.0, part x p.0 p.1, p.2)

    pub binary_parts : (op : BinaryCode) (x y : Code Slot) → code ≡ C.Binary op x y
        → (t : SplType) × (u : SplType) × Fits functions x env t × Fits functions y env u × BinaryGives op t u h.0
    binary_parts op x y is =
        let p : Parts h.1.scope (O.Binary op x y) h.0 = parts_of (O.Binary op x y) (ap (out-Code Slot) is ∙ C.outs-Binary op x y) in
        (p.0, p.1, part x p.0 p.2, part y p.1 p.3, p.4)

    pub conditional_parts : (c x y : Code Slot) → code ≡ C.Conditional c x y → Fits functions c env S.Bool × IsFit functions x env × IsFit functions y env
    conditional_parts c x y is =
        let p : Parts h.1.scope (O.Conditional c x y) h.0 = parts_of (O.Conditional c x y) (ap (out-Code Slot) is ∙ C.outs-Conditional c x y) in
        (part c S.Bool p.0, (h.0, part x h.0 p.1), (h.0, part y h.0 p.2))

    pub has_marker : (m : Marker) → code ≡ C.IsMarker m → HasMarker env
    has_marker m is = h.1.env_fits.marker (parts_of (O.IsMarker m) (ap (out-Code Slot) is ∙ C.outs-IsMarker m))

    pub has_other_marker : (m : Marker) → code ≡ C.IsNotMarker m → HasMarker env
    has_other_marker m is = h.1.env_fits.marker (parts_of (O.IsNotMarker m) (ap (out-Code Slot) is ∙ C.outs-IsNotMarker m))

    pub tuple_parts : (fs : List (ℕ × Code Slot)) → code ≡ C.Tuple fs
        → (schema : List (Named SplType)) × Fits functions (C.Tuple fs) env (S.Tuple schema) × OneEach (length schema) fs
    tuple_parts fs is =
        let p : Parts h.1.scope (O.Tuple fs) h.0 = parts_of (O.Tuple fs) (ap (out-Code Slot) is ∙ C.outs-Tuple fs) in
        (p.0, part (C.Tuple fs) (S.Tuple p.0) (F.tuple fs p.0 p.1 p.2), p.2)

    -- each field has a place in a tuple of as many attributes
    pub field_places : (fs : List (ℕ × Code Slot)) → code ≡ C.Tuple fs → (i : ℕ) (f : ℕ × Code Slot) → slice_get fs i ≡ Some f → f.0 < length fs
    field_places fs is i f e =
        let p : Parts h.1.scope (O.Tuple fs) h.0 = parts_of (O.Tuple fs) (ap (out-Code Slot) is ∙ C.outs-Tuple fs) in
        let below = places_within h.1.scope fs p.0 p.1 in
        subst (λ (n : ℕ). f.0 < n) (sym (as_many (length p.0) fs p.2 below)) (place_below (length p.0) fs below i f e)

    pub built_in_parts : (call : BuiltIn) (xs : List (Code Slot)) → code ≡ C.BuiltIn call xs
        → (ts : List SplType) × ArgumentsFit h.1.scope xs ts × BuiltInGives call ts h.0
    built_in_parts call xs is = parts_of (O.BuiltIn call xs) (ap (out-Code Slot) is ∙ C.outs-BuiltIn call xs)

    pub call_parts : (place : ℕ) (xs : List (Code Slot)) → code ≡ C.Call place xs
        → (f : Signature) × (slice_get h.1.scope.functions place ≡ Some f) × (f.result ≡ Some h.0) × ArgumentsFit h.1.scope xs f.parameters
    call_parts place xs is = parts_of (O.Call place xs) (ap (out-Code Slot) is ∙ C.outs-Call place xs)
