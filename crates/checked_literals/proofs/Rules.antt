-- The rules by which checks of a tree compute: what a form of expression, type or statement is, and what a definition over such
-- forms is by its parts.
use Rattle.std.specs.Prelude.{◌≡◌, ℕ}
use Rattle.std.proofs.Common.{ap}
use Rattle.spl_value.proofs.FitsLaws.{default_laws}
use Rattle.spl_value.specs.declared.types.SplType.TheVariants as S
use Rattle.spl_tree.specs.declared.code.Code.TheVariants as C
use Rattle.spl_tree.specs.declared.code.Code.TheFolds.{fold_out-Code}
use Rattle.spl_tree.specs.declared.expression.ExprKind.{ExprKind}
use Rattle.spl_tree.specs.declared.expression.ExprKind.TheVariants as E
use Rattle.spl_tree.specs.declared.expression.ExprKind.TheFolds.{fold-ExprKind, fold_out-ExprKind, map-ExprKind}
use Rattle.spl_tree.specs.declared.expression.ExprKind.TheViews.{out-ExprKind}
use Rattle.spl_tree.specs.declared.shape.TypeKind.TheVariants as Y
use Rattle.spl_tree.specs.declared.shape.TypeKind.TheFolds.{fold_out-TypeKind}
use Rattle.spl_tree.specs.declared.statement.StmtKind.TheVariants as M
use Rattle.spl_tree.specs.declared.statement.StmtKind.TheFolds.{fold_out-StmtKind}
use Rattle.language_model.specs.Mentions.{At, level_mentions}
use Rattle.language_model.proofs.BodyTypingLaws.{stated_laws}
use Rattle.language_model.proofs.ReadingLaws.{marker_laws}
use Rattle.language_model.proofs.SameTypes.{same_is}
use Rattle.language_model.proofs.TypeNameLaws.{name_laws, type_laws}
use Rattle.language_model.proofs.TypingLaws.{typing_laws}

-- ---- what a form is

pub ruleset value_type_laws = (S.outs-Int, S.outs-Bool, S.outs-Text, S.outs-List, S.outs-Map, S.outs-Tuple)

pub ruleset expression_laws = (E.outs-Name, E.outs-Dollar, E.outs-Number, E.outs-Text, E.outs-Bool, E.outs-Group, E.outs-List, E.outs-Map, E.outs-Tuple, E.outs-Call, E.outs-Select, E.outs-Unary, E.outs-Binary, E.outs-Conditional)

pub ruleset written_type_laws = (Y.outs-Boolean, Y.outs-Rstring, Y.outs-Int, Y.outs-Name, Y.outs-List, Y.outs-Map, Y.outs-Tuple)

pub ruleset statement_laws = (M.outs-Block, M.outs-Declare, M.outs-Assign, M.outs-Call, M.outs-If, M.outs-While, M.outs-For, M.outs-Break, M.outs-Continue, M.outs-Return, M.outs-Submit)

pub ruleset code_laws = (C.outs-Literal, C.outs-Name, C.outs-Unary, C.outs-Binary)

-- ---- what is defined by the parts of a form

pub mentions_out : (e : ExprKind) (at : ℕ)
    → fold-ExprKind At level_mentions e at ≡ level_mentions (map-ExprKind ExprKind At (fold-ExprKind At level_mentions) (out-ExprKind e)) at
mentions_out e at = ap (λ f. f at) (fold_out-ExprKind At level_mentions e)

pub ruleset fold_laws = (fold_out-Code, fold_out-ExprKind, fold_out-TypeKind, fold_out-StmtKind, mentions_out)

pub ruleset computing = (value_type_laws, expression_laws, written_type_laws, statement_laws, code_laws, fold_laws, marker_laws, typing_laws, type_laws, name_laws, stated_laws, default_laws, same_is)
