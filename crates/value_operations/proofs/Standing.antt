-- The value of a slot is there.
use Rattle.std.specs.Prelude.{◌≡◌, ℕ, ◌<◌, List, length, Some, slice_get}
use Rattle.std.specs.Option.{option_map, option_and_then}
use Rattle.std.proofs.Common.{refl, sym, ap, subst, ◌∙◌, get_or}
use Rattle.std.proofs.lemmas.Option.{slice_get_read, slice_get_within}
use Rattle.spl_value.specs.declared.types.SplType.{SplType}
use Rattle.spl_value.specs.declared.value.Value.{Value}
use Rattle.spl_value.specs.declared.value.Value.TheVariants as V
use Rattle.spl_value.proofs.FitsLaws.{fits_tuple}
use Rattle.spl_tree.specs.declared.code.Slot.{Slot}
use Rattle.spl_tree.specs.declared.code.Slot.TheVariants as L
use Rattle.language_model.specs.declared.env.Env.{Env}
use Rattle.language_model.specs.declared.scope.Scope.{Scope}
use Rattle.language_model.specs.CodeFits as F
use Rattle.language_model.specs.CodeFits.{SlotFits}
use Rattle.language_model.specs.Evaluation.{slot_value}
use Rattle.language_model.specs.WorldFits.{EnvFits}
use Rattle.value_operations.specs.Fitting.{HasSlot}
use Rattle.value_operations.proofs.Parts.{within_schema}

-- what is read at a place within the list
read_is : {A : Type 0} (xs ys : List A) (i : ℕ) (x : A) → ys ≡ xs → i < length xs → x ≡ get_or ys i x → slice_get xs i ≡ Some x
read_is xs ys i x same lt read = slice_get_read xs (length xs) i x refl lt (read ∙ ap (λ zs. get_or zs i x) same)

module _ (env : Env) (slot : Slot) (has : HasSlot env slot) where
  -- ---- variables

  variable_within : (i : ℕ) → slot ≡ L.Variable i → i < length env.vars
  variable_within i e = of_scope has.0 has.1 (subst (λ (s : Slot). SlotFits has.0 s has.1) e has.2) has.3
    where
      of_scope : (scope : Scope) (t : SplType) → SlotFits scope (L.Variable i) t → EnvFits scope env → i < length env.vars
      of_scope scope _ (F.variable i x there found) fit = let is = fit.variables i x there in slice_get_within env.vars i is.0 is.1

  pub variable_read : (vs : List Value) (i : ℕ) (v : Value) → slot ≡ L.Variable i → vs ≡ env.vars → v ≡ get_or vs i v → slot_value env slot ≡ Some v
  variable_read vs i v e same read = ap (slot_value env) e ∙ read_is env.vars vs i v same (variable_within i e) read

  -- ---- ports

  pub port_within : (i : ℕ) → slot ≡ L.Port i → i < length env.inputs
  port_within i e = of_scope has.0 has.1 (subst (λ (s : Slot). SlotFits has.0 s has.1) e has.2) has.3
    where
      of_scope : (scope : Scope) (t : SplType) → SlotFits scope (L.Port i) t → EnvFits scope env → i < length env.inputs
      of_scope scope _ (F.port i p there named) fit = let is = fit.inputs i p there in slice_get_within env.inputs i is.0 is.1

  pub port_read : (tuples : List (List Value)) (i : ℕ) (vs : List Value) → slot ≡ L.Port i → tuples ≡ env.inputs → vs ≡ get_or tuples i vs
      → slot_value env slot ≡ Some (V.Tuple vs)
  port_read tuples i vs e same read =
      ap (slot_value env) e ∙ ap (option_map V.Tuple) (read_is env.inputs tuples i vs same (port_within i e) read)

  -- ---- attributes

  attribute_there : (i j : ℕ) → slot ≡ L.Attribute i j → (vs : List Value) × (slice_get env.inputs i ≡ Some vs) × (j < length vs)
  attribute_there i j e = of_scope has.0 has.1 (subst (λ (s : Slot). SlotFits has.0 s has.1) e has.2) has.3
    where
      of_scope : (scope : Scope) (t : SplType) → SlotFits scope (L.Attribute i j) t → EnvFits scope env
          → (vs : List Value) × (slice_get env.inputs i ≡ Some vs) × (j < length vs)
      of_scope scope _ (F.attribute i j p a there has_it first named) fit =
          let is = fit.inputs i p there in
          (is.0, is.1, within_schema p.schema is.0 j a (sym (fits_tuple p.schema is.0) ∙ is.2) has_it)

  tuple_read : (tuples : List (List Value)) (i j : ℕ) (vs : List Value) → slot ≡ L.Attribute i j → tuples ≡ env.inputs → vs ≡ get_or tuples i vs
      → (slice_get env.inputs i ≡ Some vs) × (j < length vs)
  tuple_read tuples i j vs e same read =
      let is = attribute_there i j e in
      let at = read_is env.inputs tuples i vs same (slice_get_within env.inputs i is.0 is.1) read in
      let both : Some is.0 ≡ Some vs = sym is.1 ∙ at in
      let equal : is.0 ≡ vs = cc in
      (at, subst (λ (ws : List Value). j < length ws) equal is.2)

  pub attribute_within : (tuples : List (List Value)) (i j : ℕ) (vs : List Value) → slot ≡ L.Attribute i j → tuples ≡ env.inputs → vs ≡ get_or tuples i vs → j < length vs
  attribute_within tuples i j vs e same read = let is = tuple_read tuples i j vs e same read in is.1

  pub attribute_read : (tuples : List (List Value)) (i j : ℕ) (vs ws : List Value) (v : Value) → slot ≡ L.Attribute i j → tuples ≡ env.inputs → vs ≡ get_or tuples i vs
      → ws ≡ vs → v ≡ get_or ws j v → slot_value env slot ≡ Some v
  attribute_read tuples i j vs ws v e same read equal at =
      let is = tuple_read tuples i j vs e same read in
      ap (slot_value env) e ∙ ap (option_and_then (λ us. slice_get us j)) is.0 ∙ read_is vs ws j v equal is.1 at
