-- What the private steps answer on the functions of a unit.
use Rattle.std.specs.Prelude.{ℕ, false, List, [], ◌∷◌, ◌++◌, map, filter_map, Ok, Err}
use Rattle.spl_value.specs.declared.types.Named.{Named}
use Rattle.spl_value.specs.declared.types.SplType.{SplType}
use Rattle.spl_tree.specs.declared.body.Function.{Function}
use Rattle.spl_tree.specs.declared.unit.Definition.{Definition}
use Rattle.spl_tree.specs.declared.unit.Definition.TheVariants as D
use Rattle.spl_tree.specs.declared.unit.FunctionDefinition.{FunctionDefinition}
use Rattle.language_model.specs.declared.scope.Scope.{Scope}
use Rattle.language_model.specs.BodyFits.{OfFunction}
use Rattle.language_model.specs.BodyTyping.{body_typing, variable}
use Rattle.language_model.specs.Composites.{functions}
use Rattle.language_model.specs.FunctionTyping.{FunctionTypes as Typing, function_types, signature, if_returning}
use Rattle.language_model.specs.parts.FunctionTyping.{as_signature, as_unresolved}
use Rattle.language_model.specs.TypeNames.{Types}
use Rattle.language_model.specs.Typing.{Found, after}
use Rattle.body_rules.specs.declared.functions.FunctionTypes.{FunctionTypes}

-- the same types
abbrev pub as_types : Found Typing → Found FunctionTypes
as_types found = after found (λ t. Ok (record { result = t.result; parameters = t.parameters }))

-- where names of types mean these, the functions of a unit can be called, and nothing else can be named
abbrev pub scope_in : Types → List Definition → Scope
scope_in types unit =
    record {
      vars = [];
      ports = [];
      functions = filter_map (λ f. as_signature f.name.what (function_types types f)) (functions unit);
      unresolved = filter_map (λ f. as_unresolved f.name.what (function_types types f)) (functions unit);
      dollars = [];
      punct = false;
    }

-- a function more can be called, or is refused where it is called
abbrev pub with_function : Scope → List ℕ → Found Typing → Scope
with_function scope name (Ok t) = record scope { functions = scope.functions ++ signature name t ∷ [] }
with_function scope name (Err refusal) = record scope { unresolved = scope.unresolved ++ record { name = name; refusal = refusal } ∷ [] }

abbrev pub with_definition : Types → Scope → Definition → Scope
with_definition types scope (D.Function f) = with_function scope f.name.what (function_types types f)
with_definition types scope _ = scope

-- parameters, which don't change, after the variables that there are
abbrev pub with_parameters : Scope → List (Named SplType) → Scope
with_parameters scope parameters = record scope { vars = scope.vars ++ map (λ a. variable false a.name a.kind) parameters }

-- a function where names of types mean these, in a scope
abbrev pub function_in : Types → Scope → FunctionDefinition → Found Function
function_in types scope f =
    after (function_types types f) (λ t.
    after (body_typing (record { types = types; purpose = OfFunction t.result; outputs = [] }) (with_parameters scope t.parameters) f.body) (if_returning f t))
