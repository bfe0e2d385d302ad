-- Scopes with `$` parameters, and expressions in them, for examples of what parameters mean.
use Rattle.std.specs.Prelude.{pos, List, codes, Result}
use Rattle.spl_value.specs.declared.types.IntKind.TheVariants.{I32}
use Rattle.spl_value.specs.declared.types.SplType.TheVariants as S
use Rattle.spl_value.specs.declared.value.Value.TheVariants as V
use Rattle.spl_tree.specs.Trees.{Expr, placed}
use Rattle.spl_tree.specs.declared.code.Code.TheVariants as C
use Rattle.spl_tree.specs.declared.expression.BinaryOperator.TheVariants as B
use Rattle.spl_tree.specs.declared.expression.ExprKind.TheVariants as E
use Rattle.language_model.specs.declared.scope.CheckRefusal.{CheckRefusal}
use Rattle.language_model.specs.declared.scope.Dollar.{Dollar}
use Rattle.language_model.specs.declared.scope.Scope.{Scope}
use Rattle.language_model.specs.declared.scope.Typed.{Typed}
use Rattle.language_model.specs.DollarLaws.{with_dollars}
use Rattle.language_model.specs.FitLaws.{no_names}

-- the int32 number 5
abbrev pub five : Typed
five = record { kind = S.Int I32; code = C.Literal (V.Int (pos 5)) }

-- the parameter `n`
abbrev pub parameter : Result Typed CheckRefusal → Dollar
parameter found = record { name = codes "n"; found = found }

abbrev pub with_parameters : List Dollar → Scope
with_parameters given = with_dollars no_names given

-- `$n + 1`
abbrev pub one_more : Expr
one_more = placed 0 (E.Binary B.Add (placed 0 (E.Dollar (codes "n"))) (placed 5 (E.Number (record { kind = I32; value = 1 }))))
