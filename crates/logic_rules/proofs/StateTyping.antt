-- How the state of a Custom is typed.
use Rattle.std.specs.Prelude.{◌≡◌, Bool, true, false, List, if◌then◌else◌, codes, Some}
use Rattle.std.proofs.Common.{refl, ap, sym}
use Rattle.spl_value.specs.declared.types.SplType.{SplType}
use Rattle.spl_tree.specs.declared.code.Code.{Code}
use Rattle.spl_tree.specs.declared.code.Slot.{Slot}
use Rattle.spl_tree.specs.Trees.{Expr}
use Rattle.language_model.specs.declared.scope.CheckError.TheVariants as E
use Rattle.language_model.specs.declared.scope.Dollar.{Dollar}
use Rattle.language_model.specs.BodyTyping.{first_value}
use Rattle.language_model.specs.LogicTyping.{state_value, state_variable}
use Rattle.language_model.specs.parts.LogicTyping.{is_state_value, state_typing}
use Rattle.language_model.specs.Parameters.{constant_scope}
use Rattle.language_model.specs.TypeNames.{Types}
use Rattle.language_model.specs.Typing.{Found, refused}
use Rattle.type_rules.proofs.FoundRows.{IsRow}

module _ (given : List Dollar) (t : SplType) (e : Expr) where
  abbrev choice : Bool → Found (Code Slot)
  choice b = if b then first_value (constant_scope given) t (Some e) else refused E.LeftOut e.at (Some (codes "state"))

  pub value_refused : false ≡ is_state_value given e → state_value given t (Some e) ≡ refused E.LeftOut e.at (Some (codes "state"))
  value_refused h = ap choice (sym h)

  pub value_typed : true ≡ is_state_value given e → state_value given t (Some e) ≡ first_value (constant_scope given) t (Some e)
  value_typed h = ap choice (sym h)

pub state_row : (types : Types) (given : List Dollar) → IsRow (state_variable types given) (state_typing types given)
state_row types given = record { none = refl; more = λ d ds. refl }
