-- What is left of the parameters that an operator is given, where one is taken out.
use Rattle.std.specs.Prelude.{◌≡◌, ℕ, false, List, [], ◌∷◌, if◌then◌else◌}
use Rattle.std.specs.Str.{bytes_eq}
use Rattle.language_model.specs.declared.checked.Given.{Given}
use Rattle.language_model.specs.ParameterTyping.{value_given}

-- what is given by another name is as before
abbrev pub KeepsOthers : List ℕ → List Given → List Given → Type 0
KeepsOthers name before after = (other : List ℕ) → bytes_eq name other ≡ false → value_given after other ≡ value_given before other

-- what is given but for the first parameter of a name; where none has the name, all of it
abbrev pub without_first : List ℕ → List Given → List Given
without_first name [] = []
without_first name (g ∷ gs) = if bytes_eq g.name name then gs else g ∷ without_first name gs
