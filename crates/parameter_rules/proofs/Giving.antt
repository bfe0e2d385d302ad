-- The results on parameters, by what the calls on them answer.
use Rattle.std.specs.Prelude.{◌≡◌, ℕ, ◌+◌, ◌<◌, ◌==◌, Bool, true, false, List, ◌∷◌, length, drop, slice_get, if◌then◌else◌, Option, Some, None, Ok, Err}
use Rattle.std.specs.List.{list_any}
use Rattle.std.specs.Option.{option_map}
use Rattle.std.specs.Str.{bytes_eq}
use Rattle.std.proofs.Common.{refl, ap, sym, ◌∙◌, get_or}
use Rattle.std.proofs.lemmas.Option.{slice_get_read}
use Rattle.spl_value.specs.declared.types.Named.{Named}
use Rattle.spl_value.specs.declared.types.SplType.{SplType}
use Rattle.spl_value.specs.declared.types.SplType.TheViews.{out-SplType}
use Rattle.spl_tree.specs.declared.graph.OpKind.{OpKind}
use Rattle.spl_tree.specs.declared.unit.Parameter.{Parameter}
use Rattle.spl_tree.specs.Trees.{Expr}
use Rattle.language_model.specs.declared.checked.Given.{Given}
use Rattle.language_model.specs.declared.checked.ParameterValue.{ParameterValue}
use Rattle.language_model.specs.declared.kinds.Role.{Role}
use Rattle.language_model.specs.declared.kinds.Role.TheVariants as R
use Rattle.language_model.specs.ParameterTyping.{Site, extra, key_of, keys_typing, one_value, parameter_typing, parameters_typing, role_of, single_value, value_given, value_typing}
use Rattle.language_model.proofs.parts.ParameterTyping.{key_at}
use Rattle.language_model.specs.parts.ParameterTyping.{level_key, word_of}
use Rattle.language_model.specs.Scopes.{at_place, attribute_of}
use Rattle.language_model.specs.Typing.{Found, after, mismatch}
use Rattle.literal_sites.proofs.Answering.{IsRow}
use Rattle.spl_value.proofs.Lists.{drop_at}

-- a parameter of another role than attributes has one value
pub other_value : (site : Site) (p : Parameter) (role : Role) → (role ≡ R.Attributes → ⊥)
    → value_typing site p role ≡ one_value p.name.at (single_value site role) p.values
other_value site p R.Attributes h = absurd (h refl)
other_value site p role h = refl

-- ---- keys

abbrev pub key_behind : List (Named SplType) → List ℕ → Expr → Found ℕ
key_behind schema before e = key_of schema before e.at (word_of e)

module _ (schema : List (Named SplType)) (before : List ℕ) (at : ℕ) (word : Option (List ℕ)) (name : List ℕ) (place : ℕ) (a : Named SplType)
    (is_word : word ≡ Some name) (named : attribute_of schema name ≡ Some (at_place place a)) where
  abbrev by_tests : Bool → Bool → Found ℕ
  by_tests fits twice = if fits then (if twice then mismatch at else Ok place) else mismatch at

  tested : key_of schema before at word ≡ by_tests (level_key (out-SplType a.kind)) (list_any (λ n. n == place) before)
  tested = ap (key_of schema before at) is_word ∙ ap (key_at at name before) named

  pub no_key : level_key (out-SplType a.kind) ≡ false → key_of schema before at word ≡ mismatch at
  no_key h = tested ∙ ap (λ fits. by_tests fits (list_any (λ n. n == place) before)) h

  pub key_twice : level_key (out-SplType a.kind) ≡ true → list_any (λ n. n == place) before ≡ true → key_of schema before at word ≡ mismatch at
  key_twice h g = tested ∙ (λ i. by_tests (h i) (g i))

  pub key_once : level_key (out-SplType a.kind) ≡ true → list_any (λ n. n == place) before ≡ false → key_of schema before at word ≡ Ok place
  key_once h g = tested ∙ (λ i. by_tests (h i) (g i))

pub keys_row : (schema : List (Named SplType)) → IsRow (key_behind schema) (keys_typing schema) (λ place. place)
keys_row schema = record { none = λ before. refl; more = λ before x xs. refl }

-- ---- parameters

-- what is given at a place
pub given_here : (given : List Given) (name : List ℕ) (at : ℕ) (g : Given) → at < length given → g ≡ get_or given at g → bytes_eq g.name name ≡ true
    → value_given (drop at given) name ≡ option_map (λ g. g.value) (slice_get given at)
given_here given name at g within is named =
    ap (λ gs. value_given gs name) (drop_at given at g within is)
    ∙ ap (λ b. if b then Some g.value else value_given (drop (at + 1) given) name) named
    ∙ ap (option_map (λ g. g.value)) (sym (slice_get_read given (length given) at g refl within is))

module _ (site : Site) (before : List (List ℕ)) (p : Parameter) (found : Option Role) (role : Role) (is : found ≡ Some role) where
  abbrev once_or_twice : Bool → Found Given
  once_or_twice b = if b then extra p else after (value_typing site p role) (λ value. Ok (record { name = p.name.what; value = value }))

  pub parameter_twice : list_any (λ name. bytes_eq name p.name.what) before ≡ true → parameter_typing site before p found ≡ extra p
  parameter_twice h = ap (parameter_typing site before p) is ∙ ap once_or_twice h

  pub parameter_once : list_any (λ name. bytes_eq name p.name.what) before ≡ false
      → parameter_typing site before p found ≡ after (value_typing site p role) (λ value. Ok (record { name = p.name.what; value = value }))
  parameter_once h = ap (parameter_typing site before p) is ∙ ap once_or_twice h

module _ (site : Site) (kind : OpKind) (partitioned : Bool) where
  abbrev pub parameter_behind : List (List ℕ) → Parameter → Found Given
  parameter_behind before p = parameter_typing site before p (role_of kind partitioned p.name.what)

  -- the name that is given is the parameter's
  given_name : {B : Type 0} (p : Parameter) (o : Found ParameterValue) (f : List ℕ → Given → Found B)
      → after (after o (λ value. Ok (record { name = p.name.what; value = value }))) (f p.name.what)
      ≡ after (after o (λ value. Ok (record { name = p.name.what; value = value }))) (λ g. f g.name g)
  given_name p (Ok value) f = refl
  given_name p (Err r) f = refl

  name_if : {B : Type 0} (p : Parameter) (b : Bool) (o : Found ParameterValue) (f : List ℕ → Given → Found B)
      → after (if b then extra p else after o (λ value. Ok (record { name = p.name.what; value = value }))) (f p.name.what)
      ≡ after (if b then extra p else after o (λ value. Ok (record { name = p.name.what; value = value }))) (λ g. f g.name g)
  name_if p true o f = refl
  name_if p false o f = given_name p o f

  name_by_role : {B : Type 0} (before : List (List ℕ)) (p : Parameter) (role : Option Role) (f : List ℕ → Given → Found B)
      → after (parameter_typing site before p role) (f p.name.what) ≡ after (parameter_typing site before p role) (λ g. f g.name g)
  name_by_role before p None f = refl
  name_by_role before p (Some role) f = name_if p (list_any (λ name. bytes_eq name p.name.what) before) (value_typing site p role) f

  pub parameters_row : IsRow parameter_behind (parameters_typing site kind partitioned) (λ g. g.name)
  parameters_row = record {
    none = λ before. refl;
    more = λ before p ps. name_by_role before p (role_of kind partitioned p.name.what)
        (λ name g. after (parameters_typing site kind partitioned (name ∷ before) ps) (λ gs. Ok (g ∷ gs)));
  }
