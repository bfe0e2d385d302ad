-- Words for parts of the rules of Checking that only proofs cite: needed parameters, and where the expressions of an operator stand.
use Rattle.std.specs.Prelude.{ℕ, List, Option, Some, Ok, slice_get}
use Rattle.std.specs.Option.{option_map_or}
use Rattle.spl_tree.specs.declared.graph.Graph.{Graph}
use Rattle.spl_tree.specs.declared.graph.Op.{Op}
use Rattle.spl_tree.specs.declared.unit.Definition.{Definition}
use Rattle.language_model.specs.declared.checked.Given.{Given}
use Rattle.language_model.specs.declared.checked.CheckedClauses.{CheckedClauses}
use Rattle.language_model.specs.declared.scope.CheckError.TheVariants as E
use Rattle.language_model.specs.declared.scope.Port.{Port}
use Rattle.language_model.specs.declared.scope.Scope.{Scope}
use Rattle.language_model.specs.FunctionTyping.{unit_scope}
use Rattle.language_model.specs.DollarTargets.{expression_meant}
use Rattle.language_model.specs.ParameterTyping.{Site}
use Rattle.language_model.specs.Parameters.{Tables, table_at}
use Rattle.language_model.specs.StreamTypes.{Body}
use Rattle.language_model.specs.Typing.{Found, mismatch, refused}
use Rattle.language_model.specs.Checking.{invocation_checked}

abbrev pub if_given : ℕ → Option (List ℕ) → List Given → Found (List Given)
if_given at o given = option_map_or (λ name. refused E.MissingParameter at (Some name)) o (Ok given)

-- what an operator's expressions may name: the unit's functions, the `$` parameters of its body, and its ports
abbrev pub operator_scope : List Definition → Tables → Body → List Port → Scope
operator_scope unit tables b ports = record (unit_scope unit) { ports = ports; dollars = table_at tables b.number }

abbrev pub site_of : List Definition → Graph → Tables → Body → List Port → Site
site_of unit g tables b ports = record { scope = operator_scope unit tables b ports; follow = expression_meant unit g.expansions b.number }

-- each operator of the graph is that of an invocation in a body
abbrev pub body_checked : List Definition → Graph → Tables → Op → Option Body → Found CheckedClauses
body_checked unit g tables op o =
    option_map_or (λ b. option_map_or (invocation_checked unit g tables op b) (slice_get b.composite.graph op.site.invocation) (mismatch op.at))
    o (mismatch op.at)
