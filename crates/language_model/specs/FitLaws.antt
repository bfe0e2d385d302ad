-- What typing gives.
use Rattle.std.specs.Prelude.{◌≡◌, ℕ, false, List, [], Some, Ok}
use Rattle.spl_value.specs.declared.types.SplType.{SplType}
use Rattle.spl_tree.specs.declared.code.Code.{Code}
use Rattle.spl_tree.specs.declared.code.Slot.{Slot}
use Rattle.spl_tree.specs.Trees.{Expr}
use Rattle.language_model.specs.declared.scope.Dollar.{Dollar}
use Rattle.language_model.specs.declared.scope.Scope.{Scope}
use Rattle.language_model.specs.declared.scope.Typed.{Typed}
use Rattle.language_model.specs.Typing.{Wanted, typing}
use Rattle.language_model.specs.CodeFits.{CodeFits}
use Rattle.language_model.specs.Scopes.{dollar_of}

-- where nothing can be named
abbrev pub no_names : Scope
no_names = record { vars = []; ports = []; functions = []; unresolved = []; dollars = []; punct = false }

-- what each `$` parameter means names nothing, and fits
abbrev pub DollarsFit : List Dollar → Type 0
DollarsFit dollars = (name : List ℕ) (t : Typed) → dollar_of dollars name ≡ Some (Ok t) → CodeFits no_names t.code t.kind

-- the code of an expression fits the scope at the expression's type
abbrev pub FitLaw : Type 0
FitLaw = (scope : Scope) (e : Expr) (wanted : Wanted) (t : Typed) → DollarsFit scope.dollars → typing scope e wanted ≡ Ok t → CodeFits scope t.code t.kind

-- what names nothing and fits there fits everywhere
abbrev pub ClosedLaw : Type 0
ClosedLaw = (scope : Scope) (code : Code Slot) (t : SplType) → CodeFits no_names code t → CodeFits scope code t

-- there what it names doesn't depend on the `$` parameters
abbrev pub ConstantLaw : Type 0
ConstantLaw = (dollars : List Dollar) (code : Code Slot) (t : SplType)
    → CodeFits (record no_names { dollars = dollars }) code t → CodeFits no_names code t

-- which is the wanted one
abbrev pub WantedLaw : Type 0
WantedLaw = (scope : Scope) (e : Expr) (u : SplType) (t : Typed) → typing scope e (Some u) ≡ Ok t → t.kind ≡ u
