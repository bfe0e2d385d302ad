-- Words for parts of the rules of a Custom's logic, for what works them out step by step.
use Rattle.std.specs.Prelude.{Bool, List}
use Rattle.spl_tree.specs.declared.code.Code.{Code}
use Rattle.spl_tree.specs.declared.code.Code.TheFolds.{fold-Code}
use Rattle.spl_tree.specs.declared.code.Slot.{Slot}
use Rattle.spl_tree.specs.declared.expression.ExprKind.TheFolds.{fold-ExprKind}
use Rattle.spl_tree.specs.declared.expression.Placed.{Placed}
use Rattle.spl_tree.specs.declared.expression.PrefixOperator.{PrefixOperator}
use Rattle.spl_tree.specs.declared.statement.Declaration.{Declaration}
use Rattle.spl_tree.specs.Trees.{Expr}
use Rattle.language_model.specs.declared.checked.StateVariable.{StateVariable}
use Rattle.language_model.specs.declared.scope.Dollar.{Dollar}
use Rattle.language_model.specs.After.{each}
use Rattle.language_model.specs.LogicTyping.{is_negation, level_plain, level_state, state_variable}
use Rattle.language_model.specs.TypeNames.{Types}
use Rattle.language_model.specs.Typing.{Found}

-- a code of literals, `-`, and lists, maps and tuples of such
abbrev pub is_plain : Code Slot → Bool
is_plain code = fold-Code Slot Bool level_plain code

abbrev pub is_minus_prefix : Placed PrefixOperator → Bool
is_minus_prefix p = is_negation p.what

-- what may be the first value of a state variable
abbrev pub is_state_value : List Dollar → Expr → Bool
is_state_value given e = fold-ExprKind Bool (level_state given) e.what

abbrev pub state_typing : Types → List Dollar → List Declaration → Found (List StateVariable)
state_typing types given ds = each (state_variable types given) (λ x. x) ds
