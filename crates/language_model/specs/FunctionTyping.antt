-- The functions of a unit with the code of their bodies, in the order of the text, or the first refusal. The types of a
-- function are looked at when a call needs them, and at the latest with its body.
use Rattle.std.specs.Prelude.{ℕ, false, ◌&&◌, not, List, [], map, filter_map, if◌then◌else◌, Option, Some, None, Ok, is_some}
use Rattle.std.specs.Option.{option_map, option_map_or}
use Rattle.std.specs.Result.{result_err, result_ok}
use Rattle.spl_value.specs.declared.types.Named.{Named}
use Rattle.spl_value.specs.declared.types.SplType.{SplType}
use Rattle.spl_tree.specs.declared.body.Function.{Function}
use Rattle.spl_tree.specs.declared.body.Statement.{Statement}
use Rattle.spl_tree.specs.declared.unit.Definition.{Definition}
use Rattle.spl_tree.specs.declared.unit.FunctionDefinition.{FunctionDefinition}
use Rattle.language_model.specs.declared.scope.CheckError.TheVariants as E
use Rattle.language_model.specs.declared.scope.Scope.{Scope}
use Rattle.language_model.specs.declared.scope.Signature.{Signature}
use Rattle.language_model.specs.After.{each}
use Rattle.language_model.specs.BodyFits.{OfFunction}
use Rattle.language_model.specs.BodyTyping.{body_typing, returns, variable}
use Rattle.language_model.specs.Composites.{functions}
use Rattle.language_model.specs.FitLaws.{no_names}
use Rattle.language_model.specs.TypeNames.{Types, attributes_type, type_meant, unit_types, written_attributes}
use Rattle.language_model.specs.Typing.{Found, after, refused}

-- ---- signatures

-- the types of a function: of its result, and of its parameters, with their names
pub record FunctionTypes : Type 0 where
  pub result : Option SplType
  pub parameters : List (Named SplType)

abbrev pub function_types : Types → FunctionDefinition → Found FunctionTypes
function_types types f =
    after (option_map_or (λ t. after (type_meant types t) (λ result. Ok (Some result))) f.result (Ok None)) (λ result.
    after (attributes_type types (written_attributes f.parameters)) (λ parameters.
    Ok (record { result = result; parameters = parameters })))

abbrev pub signature : List ℕ → FunctionTypes → Signature
signature name t = record { name = name; parameters = map (λ a. a.kind) t.parameters; result = t.result }

-- where the functions of a unit can be called, or are refused for what is wrong in their types, and nothing else can be
-- named
abbrev pub unit_scope : List Definition → Scope
unit_scope unit = record no_names {
  functions =
      filter_map (λ f. option_map (signature f.name.what) (result_ok (function_types (unit_types unit) f)))
      (functions unit);
  unresolved = filter_map (λ f. option_map (λ refusal. record { name = f.name.what; refusal = refusal })
      (result_err (function_types (unit_types unit) f))) (functions unit);
}

-- ---- bodies

-- with a result, its body ends with one
abbrev pub if_returning : FunctionDefinition → FunctionTypes → List Statement → Found Function
if_returning f t row = if is_some t.result && not (returns f.body) then refused E.NoReturn f.name.at (Some f.name.what)
    else Ok (record { parameters = map (λ a. a.kind) t.parameters; result = t.result; body = row })

-- a function sees its parameters, which don't change
abbrev pub function_typing : List Definition → FunctionDefinition → Found Function
function_typing unit f = after (function_types (unit_types unit) f) (λ t.
    after (body_typing (record { types = unit_types unit; purpose = OfFunction t.result; outputs = [] })
    (record (unit_scope unit) { vars = map (λ a. variable false a.name a.kind) t.parameters }) f.body)
    (if_returning f t))

abbrev pub functions_typing : List Definition → Found (List Function)
functions_typing unit = each (function_typing unit) (λ x. x) (functions unit)
