-- Words for parts of the rules of bodies, for what works them out statement by statement.
use Rattle.std.specs.Prelude.{Bool, true, false, List, [], Option, None, Ok, if◌then◌else◌}
use Rattle.std.specs.Option.{option_map_or}
use Rattle.spl_value.specs.declared.types.SplType.{SplType}
use Rattle.spl_value.specs.declared.types.SplType.TheViews.{out-SplType}
use Rattle.spl_tree.specs.declared.body.Statement.{Statement}
use Rattle.spl_tree.specs.declared.body.Statement.TheVariants as T
use Rattle.spl_tree.specs.declared.code.Code.{Code}
use Rattle.spl_tree.specs.declared.code.Slot.{Slot}
use Rattle.spl_tree.specs.declared.expression.BinaryOperator.{BinaryOperator}
use Rattle.spl_tree.specs.declared.expression.Placed.{Placed}
use Rattle.spl_tree.specs.declared.shape.Attribute.{Attribute}
use Rattle.spl_tree.specs.declared.statement.Declaration.{Declaration}
use Rattle.spl_tree.specs.declared.statement.StmtKind.TheFolds.{fold-StmtKind}
use Rattle.spl_tree.specs.Trees.{Expr, Stmt, TypeExpr}
use Rattle.language_model.specs.declared.scope.Scope.{Scope}
use Rattle.language_model.specs.BodyFits.{with_variable}
use Rattle.language_model.specs.BodyTyping.{Setting, Stated, alone, first_value, level_over, level_stated, variable}
use Rattle.language_model.specs.StatementTyping.{assignment_typing, compound_typing}
use Rattle.language_model.specs.TypeNames.{type_meant}
use Rattle.language_model.specs.Typing.{Found, after, mismatch, typing}

abbrev pub part_stated : Placed Stated → Setting → Bool → Scope → Found (Statement × Scope)
part_stated s setting inside scope = s.what s.at setting inside scope

abbrev pub declaration_typing : Setting → Scope → Declaration → Found (Statement × Scope)
declaration_typing setting scope d =
    after (type_meant setting.types d.kind) (λ t.
    after (first_value scope t d.value) (λ code. Ok (T.Declare code, with_variable scope (variable d.mutable d.name.what t))))

-- what follows `else`, if there is one
abbrev pub other_typing : Setting → Bool → Scope → Option (Placed Stated) → Found (List Statement)
other_typing setting inside scope other = option_map_or (alone setting inside scope) other (Ok [])

-- what a `for` goes over
abbrev pub over_typing : Scope → SplType → Expr → Found (Code Slot)
over_typing scope t e = after (typing scope e None) (λ x. if level_over t (out-SplType x.kind) then Ok x.code else mismatch e.at)

abbrev pub for_typing : Setting → Scope → Attribute TypeExpr → Expr → Placed Stated → Found Statement
for_typing setting scope a e s =
    after (type_meant setting.types a.kind) (λ t. after (over_typing scope t e) (λ code.
    after (alone setting true (with_variable scope (variable false a.name.what t)) s) (λ row. Ok (T.For code row))))

-- an assignment, by an operator or without one
abbrev pub assigned : Scope → Expr → Option BinaryOperator → Expr → Found Statement
assigned scope place op e = option_map_or (λ o. compound_typing scope o place e) op (assignment_typing scope place e)

abbrev pub stated : Stmt → Placed Stated
stated s = record { at = s.at; what = fold-StmtKind Stated level_stated s.what }
