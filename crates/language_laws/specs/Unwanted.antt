-- The types that expressions have by themselves, where such types are wanted.
use Rattle.std.specs.Prelude.{◌≡◌, Some, None, Ok}
use Rattle.spl_tree.specs.Trees.{Expr}
use Rattle.language_model.specs.declared.scope.Scope.{Scope}
use Rattle.language_model.specs.declared.scope.Typed.{Typed}
use Rattle.language_model.specs.Typing.{typing}

-- what has a type where none is wanted has it where it is wanted, with the same code
abbrev pub UnwantedLaw : Type 0
UnwantedLaw = (scope : Scope) (e : Expr) (t : Typed) → typing scope e None ≡ Ok t → typing scope e (Some t.kind) ≡ Ok t
