-- Where a parameter of a name is first given.
use Rattle.std.specs.Prelude.{◌≡◌, ◌<◌, ℕ, List, length, remove, Option, Some, None, slice_get}
use Rattle.std.specs.Option.{option_map}
use Rattle.language_model.specs.declared.checked.Given.{Given}
use Rattle.language_model.specs.ParameterTyping.{value_given}
use Rattle.parameter_rules.specs.Taking.{without_first}

-- the place of the first parameter of a name, where there is one
abbrev pub IsFirst : List Given → List ℕ → Option ℕ → Type 0
IsFirst given name None = (value_given given name ≡ None) × (without_first name given ≡ given)
IsFirst given name (Some at) =
    (at < length given) × (option_map (λ g. g.name) (slice_get given at) ≡ Some name) × (option_map (λ g. g.value) (slice_get given at) ≡ value_given given name)
    × (remove given at ≡ without_first name given)
