-- Induction over values and over types, as over plain data.
use Rattle.std.specs.Prelude.{ℕ, ℤ, Bool, List, [], ◌∷◌, map}
use Rattle.std.specs.List.{AllByRecursion}
use Rattle.std.proofs.Common.{subst, sym}
use Rattle.spl_value.specs.declared.value.Value.{Value}
use Rattle.spl_value.specs.declared.value.Value.TheVariants as V
use Rattle.spl_value.specs.declared.value.Value.TheOpen as O
use Rattle.spl_value.specs.declared.value.Value.TheOpen.{Value-F}
use Rattle.spl_value.specs.declared.value.Value.TheViews.{roll-Value}
use Rattle.spl_value.specs.declared.value.Value.TheFolds.{ind-Value, map-Value}
use Rattle.spl_value.specs.declared.types.IntKind.{IntKind}
use Rattle.spl_value.specs.declared.types.Named.{Named}
use Rattle.spl_value.specs.declared.types.SplType.{SplType}
use Rattle.spl_value.specs.declared.types.SplType.TheVariants as S
use Rattle.spl_value.specs.declared.types.SplType.TheOpen as T
use Rattle.spl_value.specs.declared.types.SplType.TheOpen.{SplType-F}
use Rattle.spl_value.specs.declared.types.SplType.TheViews.{roll-SplType}
use Rattle.spl_value.specs.declared.types.SplType.TheFolds.{ind-SplType, map-SplType}

-- ---- values

abbrev pub BothHold : (Value → Type 0) → Value × Value → Type 0
BothHold P p = P p.0 × P p.1

-- P holds of a value where it holds of each of its parts
pub record ValueSteps (P : Value → Type 0) : Type 0 where
  pub int : (n : ℤ) → P (V.Int n)
  pub bool : (b : Bool) → P (V.Bool b)
  pub text : (bytes : List ℕ) → P (V.Text bytes)
  pub list : (vs : List Value) → AllByRecursion P vs → P (V.List vs)
  pub map_of : (ps : List (Value × Value)) → AllByRecursion (BothHold P) ps → P (V.Map ps)
  pub tuple : (vs : List Value) → AllByRecursion P vs → P (V.Tuple vs)

module _ (P : Value → Type 0) where
  abbrev KnownValue : Type 0
  KnownValue = (v : Value) × P v

  all_known : (es : List KnownValue) → AllByRecursion P (map (λ e. e.0) es)
  all_known [] = tt
  all_known (e ∷ es) = (e.1, all_known es)

  all_both : (es : List (KnownValue × KnownValue)) → AllByRecursion (BothHold P) (map (λ e. (e.0.0, e.1.0)) es)
  all_both [] = tt
  all_both (e ∷ es) = ((e.0.1, e.1.1), all_both es)

module _ (P : Value → Type 0) (s : ValueSteps P) where
  value_step : (y : Value-F ((v : Value) × P v)) → P (roll-Value (map-Value ((v : Value) × P v) Value (λ e. e.0) y))
  value_step (O.Int n) = subst P (sym (V.rolls-Int n)) (s.int n)
  value_step (O.Bool b) = subst P (sym (V.rolls-Bool b)) (s.bool b)
  value_step (O.Text bs) = subst P (sym (V.rolls-Text bs)) (s.text bs)
  value_step (O.List es) = subst P (sym (V.rolls-List (map (λ e. e.0) es))) (s.list (map (λ e. e.0) es) (all_known P es))
  value_step (O.Map es) =
      let ps : List (Value × Value) = map (λ e. (e.0.0, e.1.0)) es in
      subst P (sym (V.rolls-Map ps)) (s.map_of ps (all_both P es))
  value_step (O.Tuple es) = subst P (sym (V.rolls-Tuple (map (λ e. e.0) es))) (s.tuple (map (λ e. e.0) es) (all_known P es))

  pub value_ind : (v : Value) → P v
  value_ind = ind-Value P (λ x y is. subst (λ z. P (roll-Value z)) is (value_step y))

-- ---- types

-- P holds of a type where it holds of each of its parts
pub record TypeSteps (P : SplType → Type 0) : Type 0 where
  pub int : (k : IntKind) → P (S.Int k)
  pub bool : P S.Bool
  pub text : P S.Text
  pub list : (t : SplType) → P t → P (S.List t)
  pub map_of : (k t : SplType) → P k → P t → P (S.Map k t)
  pub tuple : (schema : List (Named SplType)) → AllByRecursion (λ a. P a.kind) schema → P (S.Tuple schema)

module _ (P : SplType → Type 0) where
  abbrev KnownType : Type 0
  KnownType = (t : SplType) × P t

  all_kinds : (es : List (Named KnownType)) → AllByRecursion {X = Named SplType} (λ a. P a.kind) (map (λ e. record { name = e.name; kind = e.kind.0 }) es)
  all_kinds [] = tt
  all_kinds (e ∷ es) = (e.kind.1, all_kinds es)

module _ (P : SplType → Type 0) (s : TypeSteps P) where
  type_step : (y : SplType-F ((t : SplType) × P t)) → P (roll-SplType (map-SplType ((t : SplType) × P t) SplType (λ e. e.0) y))
  type_step (T.Int k) = subst P (sym (S.rolls-Int k)) (s.int k)
  type_step T.Bool = subst P (sym S.rolls-Bool) s.bool
  type_step T.Text = subst P (sym S.rolls-Text) s.text
  type_step (T.List e) = subst P (sym (S.rolls-List e.0)) (s.list e.0 e.1)
  type_step (T.Map e f) = subst P (sym (S.rolls-Map e.0 f.0)) (s.map_of e.0 f.0 e.1 f.1)
  type_step (T.Tuple es) =
      let kinds : List (Named SplType) = map (λ e. record { name = e.name; kind = e.kind.0 }) es in
      subst P (sym (S.rolls-Tuple kinds)) (s.tuple kinds (all_kinds P es))

  pub type_ind : (t : SplType) → P t
  type_ind = ind-SplType P (λ x y is. subst (λ z. P (roll-SplType z)) is (type_step y))
