-- What bodies are where they have code.
use Rattle.std.specs.Prelude.{◌≡◌, true, false, List, Ok}
use Rattle.spl_tree.specs.declared.body.Statement.{Statement}
use Rattle.spl_tree.specs.Trees.{Stmt}
use Rattle.language_model.specs.declared.scope.Scope.{Scope}
use Rattle.language_model.specs.BodyFits.{RowFits, RowReturns}
use Rattle.language_model.specs.BodyTyping.{Setting, body_typing, returns}
use Rattle.language_model.specs.FitLaws.{DollarsFit}

-- the code of a body fits where the body stands
abbrev pub BodyFitLaw : Type 0
BodyFitLaw = (setting : Setting) (scope : Scope) (ss : List Stmt) (row : List Statement) → DollarsFit scope.dollars → body_typing setting scope ss ≡ Ok row
    → RowFits setting.purpose false scope row

-- where the text of a body ends with a result, so does its code
abbrev pub BodyReturnsLaw : Type 0
BodyReturnsLaw = (setting : Setting) (scope : Scope) (ss : List Stmt) (row : List Statement) → body_typing setting scope ss ≡ Ok row → returns ss ≡ true → RowReturns row
