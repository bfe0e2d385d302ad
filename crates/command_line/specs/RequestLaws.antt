-- An option may be given in one word or in two, and the order of arguments doesn't matter.
use Rattle.std.specs.Prelude.{◌≡◌, ℕ, false, List, ◌∷◌, ◌++◌, codes, Some}
use Rattle.std.specs.List.{list_any}
use Rattle.std.specs.Str.{bytes_eq}
use Rattle.command_line.specs.declared.arguments.Argument.{Argument}
use Rattle.command_line.specs.Arguments.{is_equals, arguments}
use Rattle.command_line.specs.Request.{requested}

-- `--name VALUE` and `--name=VALUE` are the same, where the name is one that has a value
abbrev pub TwoFormsLaw : Type 0
TwoFormsLaw = (name value : List ℕ) (words : List (List ℕ)) → list_any is_equals name ≡ false → bytes_eq name (codes "counts") ≡ false
    → arguments ((codes "--" ++ name) ∷ value ∷ words) ≡ arguments ((codes "--" ++ name ++ codes "=" ++ value) ∷ words)

-- words that are arguments may stand in front of others that are arguments, or after them
abbrev pub AnyOrderLaw : Type 0
AnyOrderLaw = (command : List ℕ) (before ones others behind : List (List ℕ)) (front xs ys : List Argument) → arguments before ≡ Some front
    → arguments ones ≡ Some xs → arguments others ≡ Some ys
    → requested (command ∷ before ++ ones ++ others ++ behind) ≡ requested (command ∷ before ++ others ++ ones ++ behind)
